-- A body has one list of errors and one of requirements.
use Rattle.std.proofs.Common.{◌≡◌, ℕ, zero, suc, ◌+◌, ◌<◌, Bool, true, false, List, [], ◌∷◌, ◌++◌, refl, sym, ap, ◌∙◌, arith}
use Rattle.std.specs.Prelude.{◌&&◌, not, if◌then◌else◌, map, filter}
use Rattle.std.specs.List.{Contains, flat_map, range_with_len}
use Rattle.bc_syntax.specs.declared.syntax.Outlives.{Outlives}
use Rattle.bc_syntax.specs.declared.syntax.Region.{Region}
use Rattle.bc_flow.proofs.Membership.{Contains-head, Contains-later}
use Rattle.bc_points.specs.Regions.{region_number}
use Rattle.bc_bodies.specs.Mir.{Mir}
use Rattle.bc_cons.specs.declared.requirements.Requirements.{Requirements}
use Rattle.bc_judge.specs.declared.error.BorrowError.{BorrowError}
use Rattle.bc_judge.specs.declared.error.BorrowError.TheVariants as variants
use Rattle.bc_judge.specs.declared.conflicts.Conflict.{Conflict}
use Rattle.bc_judge.specs.Conflicts.{ScopeTest, conflicts_of}
use Rattle.bc_judge.specs.Lifetimes.{TellsKnown, ValueTest, end_of, failure_of, failures_from, failures_of, is_lifetime_error, is_required, lifetimes_of}
use Rattle.bc_judge.specs.Errors.{AreErrors, AreRequirements, ChainTo, conflict_error, lifetime_error, point_of}
use Rattle.bc_judge.proofs.Law.{IsOne, IsWithin, from_conflicts, from_lifetimes}

-- two tests that are true together
same_test : (s t : Bool) → (s ≡ true → t ≡ true) → (t ≡ true → s ≡ true) → s ≡ t
same_test true t f g = sym (f refl)
same_test false true f g = g refl
same_test false false f g = refl

-- lists that are gathered over the same numbers are the same if each number gives the same
gathered : {A : Type 0} (f g : ℕ → List A) (start len : ℕ) → ((x : ℕ) → x < start + len → f x ≡ g x) → flat_map f (range_with_len start len) ≡ flat_map g (range_with_len start len)
gathered f g start zero same = refl
gathered f g start (suc len) same =
    let more = gathered f g (start + 1) len (λ x within. same x (omega (arith, within))) in
    λ i. same start (omega arith) i ++ more i

-- two functions that give the same for each item of a list
mapped : {X Y : Type 0} (f g : X → Y) (xs : List X) → ((x : X) → Contains xs x → f x ≡ g x) → map f xs ≡ map g xs
mapped f g [] same = refl
mapped f g (x ∷ xs) same =
    let more = mapped f g xs (λ y there. same y (Contains-later x xs y there)) in
    λ i. same x (Contains-head x xs) i ∷ more i

module _ (mir : Mir) (value : ValueTest) (one other : ℕ → ℕ → Bool) (tells_one : TellsKnown mir one) (tells_other : TellsKnown mir other) where
  known_same : (a b : ℕ) → a < mir.universals → b < mir.universals → one a b ≡ other a b
  known_same a b ha hb = same_test (one a b) (other a b) (λ e. (tells_other a b ha hb).1 ((tells_one a b ha hb).0 e)) (λ e. (tells_one a b ha hb).1 ((tells_other a b ha hb).0 e))

  failure_same : (a b : ℕ) → a < mir.universals → b < mir.universals → failure_of mir value one a b ≡ failure_of mir value other a b
  failure_same a b ha hb = ap (λ (k : Bool). if value a (end_of mir b) && not k then record { longer = a; shorter = b } ∷ [] else []) (known_same a b ha hb)

  from_same : (a : ℕ) → a < mir.universals → failures_from mir value one a ≡ failures_from mir value other a
  from_same a ha = gathered (failure_of mir value one a) (failure_of mir value other a) 0 mir.universals (λ b hb. failure_same a b ha (omega (arith, hb)))

  failures_same : failures_of mir value one ≡ failures_of mir value other
  failures_same = gathered (failures_from mir value one) (failures_from mir value other) 0 mir.universals (λ a ha. from_same a (omega (arith, ha)))

-- what a body requires
pub requirements_once : (mir : Mir) (value : ValueTest) (r s : Requirements) → AreRequirements mir value r → AreRequirements mir value s → r.pairs ≡ s.pairs
requirements_once mir value r s a b =
    a.listed ∙ ap (filter (is_required mir)) (failures_same mir value a.known b.known a.decides b.decides) ∙ sym b.listed

-- the chains of two functions that explain what is in the values are the same there
module _ (mir : Mir) (Explains : ℕ → ℕ → List Region → Type 0) (in_scope : ScopeTest) (value : ValueTest) (within : IsWithin mir in_scope value) (one : IsOne Explains)
    (chain other : ChainTo) (explains : (r e : ℕ) → value r e ≡ true → Explains r e (chain r e)) (explains_too : (r e : ℕ) → value r e ≡ true → Explains r e (other r e)) where
  chain_same : (r e : ℕ) → value r e ≡ true → chain r e ≡ other r e
  chain_same r e has = one r e (chain r e) (other r e) (explains r e has) (explains_too r e has)

  conflict_errors_same : map (conflict_error mir chain) (conflicts_of mir in_scope) ≡ map (conflict_error mir other) (conflicts_of mir in_scope)
  conflict_errors_same = mapped (conflict_error mir chain) (conflict_error mir other) (conflicts_of mir in_scope) (λ (c : Conflict) there.
      let listed = from_conflicts mir in_scope c there in
      let has : value (region_number mir.universals listed.loan.region) c.point ≡ true = within c.point listed.loan_number (c.maker, listed.loan) listed.in_scope_here listed.is_loan in
      let here : value (region_number mir.universals c.region) c.point ≡ true = rw (← listed.region) has in
      ap (variants.Conflict (point_of mir.steps c.point) c.access (point_of mir.steps c.maker)) (chain_same (region_number mir.universals c.region) c.point here))

  lifetime_errors_same : (known : ℕ → ℕ → Bool) → TellsKnown mir known → map (lifetime_error mir chain) (lifetimes_of mir value known) ≡ map (lifetime_error mir other) (lifetimes_of mir value known)
  lifetime_errors_same known tells = mapped (lifetime_error mir chain) (lifetime_error mir other) (lifetimes_of mir value known) (λ (f : Outlives) there.
      let failure = from_lifetimes mir value known tells f there in
      ap (variants.Lifetime f.longer f.shorter) (chain_same f.longer (end_of mir f.shorter) failure.0.has_end))

-- the errors, if each loan in scope has the point in its region's value, and an element has one explanation
pub errors_once : (mir : Mir) (Explains : ℕ → ℕ → List Region → Type 0) (in_scope : ScopeTest) (value : ValueTest) (xs ys : List BorrowError) → IsWithin mir in_scope value → IsOne Explains →
    AreErrors mir Explains in_scope value xs → AreErrors mir Explains in_scope value ys → xs ≡ ys
errors_once mir Explains in_scope value xs ys within one a b =
    let failures = failures_same mir value a.known b.known a.decides b.decides in
    let conflicts = conflict_errors_same mir Explains in_scope value within one a.chain b.chain a.explains b.explains in
    let lifetimes = lifetime_errors_same mir Explains in_scope value within one a.chain b.chain a.explains b.explains b.known b.decides in
    a.listed
    ∙ ap (λ (fs : List Outlives). map (conflict_error mir a.chain) (conflicts_of mir in_scope) ++ map (lifetime_error mir a.chain) (filter (is_lifetime_error mir) fs)) failures
    ∙ (λ i. conflicts i ++ lifetimes i) ∙ sym b.listed
