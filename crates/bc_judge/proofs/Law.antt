-- The list of errors has exactly the errors.
use Rattle.std.proofs.Common.{◌≡◌, ℕ, ◌+◌, ◌<◌, ◌⊎◌, inl, inr, ◌↔◌, Bool, true, false, List, [], ◌∷◌, Some, refl, sym, ap, ◌∙◌, subst, arith}
use Rattle.std.specs.Prelude.{◌&&◌, ◌||◌, not, if◌then◌else◌, slice_get, filter, map}
use Rattle.std.specs.List.{Contains, enumerate_from, list_all, range_with_len}
use Rattle.std.proofs.lemmas.Bool.{and_parts, and_from, both_ways, false_from_ne_true, not-true}
use Rattle.std.proofs.lemmas.Option.{slice_get_within, get_or_from_slice_get}
use Rattle.std.proofs.lemmas.List.Elements.{Contains-append_left, Contains-append_right, Contains-append_cases}
use Rattle.bc_syntax.specs.declared.syntax.Outlives.{Outlives}
use Rattle.bc_syntax.specs.declared.syntax.Region.{Region}
use Rattle.bc_syntax.specs.declared.syntax.UnitKind.{UnitKind}
use Rattle.bc_syntax.specs.declared.syntax.UnitKind.TheVariants as kinds
use Rattle.bc_cons.specs.Requirements.{may_go_up}
use Rattle.bc_syntax.specs.declared.syntax.Mutability.{Mutability}
use Rattle.bc_syntax.specs.declared.syntax.Mutability.TheVariants.{Shared, Mutable}
use Rattle.bc_points.specs.declared.access.Access.{Access}
use Rattle.bc_points.specs.declared.access.AccessKind.{AccessKind}
use Rattle.bc_points.specs.declared.access.AccessKind.TheVariants.{Read, Write}
use Rattle.bc_bodies.specs.declared.mir.Point.{Point}
use Rattle.bc_bodies.specs.declared.mir.Step.{Step}
use Rattle.bc_points.specs.declared.loan.Loan.{Loan}
use Rattle.bc_bodies.specs.Mir.{Mir}
use Rattle.bc_shapes.specs.Mutabilities.{is_mutable}
use Rattle.bc_points.specs.Points.{loan_of}
use Rattle.bc_points.specs.Accesses.{accesses_of}
use Rattle.bc_flow.proofs.Membership.{Contains-nil, Contains-one, Contains-head, from_flat_map, in_flat_map, from_map, in_map, from_filter, in_filter, from_enumerate, in_enumerate, from_range, in_range}
use Rattle.bc_loans.specs.Loans.{loans_of_step, loans_of}
use Rattle.bc_loans.proofs.Listing.{from_with_point}
use Rattle.bc_points.specs.Regions.{region_number}
use Rattle.bc_judge.specs.declared.error.BorrowError.{BorrowError}
use Rattle.bc_judge.specs.declared.error.BorrowError.TheVariants as variants
use Rattle.bc_judge.specs.declared.conflicts.Conflict.{Conflict}
use Rattle.bc_judge.specs.Conflicts.{ScopeTest, is_write, is_conflict, is_relevant_at, conflict_with, conflicts_of_access, conflicts_of_step, conflicts_of}
use Rattle.bc_judge.specs.Lifetimes.{TellsKnown, ValueTest, end_of, failure_of, failures_from, failures_of, is_required_in, is_required, is_lifetime_error, lifetimes_of, requirements_of}
use Rattle.bc_judge.specs.Errors.{ChainTo, point_of, conflict_error, lifetime_error, errors_of, IsConflict, IsFailure, IsLifetimeError, IsRequirement, IsError}

-- ---- one element under a test

from_if : {X : Type 0} (b : Bool) (x y : X) → Contains (if b then x ∷ [] else []) y → (b ≡ true) × (x ≡ y)
from_if true x y h = (refl, Contains-one x y h)
from_if false x y h = absurd (Contains-nil y h)

in_if : {X : Type 0} (b : Bool) (x : X) → b ≡ true → Contains (if b then x ∷ [] else []) x
in_if b x is = rw is (Contains-head x [])

-- ---- numbered elements

at_number : {X : Type 0} (xs : List X) (here : ℕ × X) → Contains (enumerate_from 0 xs) here → slice_get xs here.0 ≡ Some here.1
at_number xs here h =
    let found = from_enumerate 0 xs here h in
    let number : found.0 ≡ here.0 = omega (arith, found.1) in
    subst (λ k. slice_get xs k ≡ Some here.1) number found.2

numbered : {X : Type 0} (xs : List X) (k : ℕ) (x : X) → slice_get xs k ≡ Some x → Contains (enumerate_from 0 xs) (k, x)
numbered xs k x is =
    let number : 0 + k ≡ k = omega arith in
    subst (λ i. Contains (enumerate_from 0 xs) (i, x)) number (in_enumerate 0 xs k x is)

-- ---- conflicts

-- a point makes each loan
maker_of : (mir : Mir) (n : ℕ) (loan : ℕ × Loan) → slice_get (loans_of mir) n ≡ Some loan → (step : Step) × (slice_get mir.steps loan.0 ≡ Some step)
maker_of mir n loan is =
    let found = from_flat_map loans_of_step (enumerate_from 0 mir.steps) loan (n, slice_get_within (loans_of mir) n loan is, get_or_from_slice_get (loans_of mir) n loan loan is) in
    let there = at_number mir.steps found.0 found.1 in
    (found.0.1, subst (λ k. slice_get mir.steps k ≡ Some found.0.1) (sym (from_with_point found.0.0 (loan_of found.0.1.instruction) loan found.2)) there)

printed_at : (steps : List Step) (p : ℕ) (step : Step) → slice_get steps p ≡ Some step → point_of steps p ≡ step.point
printed_at steps p step is = rw is

one_writes : (kind : AccessKind) (mutability : Mutability) → (is_write kind || is_mutable mutability) ≡ true → (kind ≡ Write) ⊎ (mutability ≡ Mutable)
one_writes Write mutability h = inl refl
one_writes Read Mutable h = inr refl
one_writes Read Shared h = absurd cc

writes_one : (kind : AccessKind) (mutability : Mutability) → (kind ≡ Write) ⊎ (mutability ≡ Mutable) → (is_write kind || is_mutable mutability) ≡ true
writes_one Write mutability h = refl
writes_one Read Mutable h = refl
writes_one Read Shared (inl h) = absurd cc
writes_one Read Shared (inr h) = absurd cc

-- what a listed conflict comes from
pub record IsListed (mir : Mir) (in_scope : ScopeTest) (conflict : Conflict) : Type 0 where
  pub step : Step
  pub is_step : slice_get mir.steps conflict.point ≡ Some step
  pub access : Access
  pub is_access : slice_get (accesses_of mir step.instruction) conflict.access ≡ Some access
  pub loan_number : ℕ
  pub loan : Loan
  pub is_loan : slice_get (loans_of mir) loan_number ≡ Some (conflict.maker, loan)
  pub maker_step : Step
  pub is_maker : slice_get mir.steps conflict.maker ≡ Some maker_step
  pub region : loan.region ≡ conflict.region
  pub in_scope_here : in_scope conflict.point loan_number ≡ true
  pub one_writes : (access.kind ≡ Write) ⊎ (loan.mutability ≡ Mutable)
  pub relevant : is_relevant_at mir access.depth access.place loan.path ≡ true

pub from_conflicts : (mir : Mir) (in_scope : ScopeTest) (c : Conflict) → Contains (conflicts_of mir in_scope) c → IsListed mir in_scope c
from_conflicts mir in_scope c h =
    let here = from_flat_map (conflicts_of_step mir in_scope) (enumerate_from 0 mir.steps) c h in
    let step = here.0.1 in
    let accesses = accesses_of mir step.instruction in
    let access = from_flat_map (conflicts_of_access mir (in_scope here.0.0) here.0.0) (enumerate_from 0 accesses) c here.2 in
    let loan = from_flat_map (conflict_with mir (in_scope here.0.0) here.0.0 access.0) (enumerate_from 0 (loans_of mir)) c access.2 in
    let is_loan = at_number (loans_of mir) loan.0 loan.1 in
    let maker = maker_of mir loan.0.0 loan.0.1 is_loan in
    let conflicts = is_conflict mir access.0.1 loan.0.1.1 in
    let found : Conflict = record { point = here.0.0; access = access.0.0; maker = loan.0.1.0; region = loan.0.1.1.region } in
    let one = from_if (in_scope here.0.0 loan.0.0 && conflicts) found c loan.2 in
    let both = and_parts (in_scope here.0.0 loan.0.0) conflicts one.0 in
    let parts = and_parts (is_write access.0.1.kind || is_mutable loan.0.1.1.mutability) (is_relevant_at mir access.0.1.depth access.0.1.place loan.0.1.1.path) both.1 in
    let listed : IsListed mir in_scope found = record {
      step = step;
      is_step = at_number mir.steps here.0 here.1;
      access = access.0.1;
      is_access = at_number accesses access.0 access.1;
      loan_number = loan.0.0;
      loan = loan.0.1.1;
      is_loan = is_loan;
      maker_step = maker.0;
      is_maker = maker.1;
      region = refl;
      in_scope_here = both.0;
      one_writes = one_writes access.0.1.kind loan.0.1.1.mutability parts.0;
      relevant = parts.1;
    } in
    subst (IsListed mir in_scope) one.1 listed

in_conflicts : (mir : Mir) (in_scope : ScopeTest) (c : Conflict) → IsListed mir in_scope c → Contains (conflicts_of mir in_scope) c
in_conflicts mir in_scope c h =
    let loan : ℕ × (ℕ × Loan) = (h.loan_number, (c.maker, h.loan)) in
    let found : Conflict = record { point = c.point; access = c.access; maker = c.maker; region = h.loan.region } in
    let is_c : found ≡ c = λ i. record { point = c.point; access = c.access; maker = c.maker; region = h.region i } in
    let conflicts : is_conflict mir h.access h.loan ≡ true =
    and_from (is_write h.access.kind || is_mutable h.loan.mutability) (is_relevant_at mir h.access.depth h.access.place h.loan.path)
    (writes_one h.access.kind h.loan.mutability h.one_writes) h.relevant in
    let both = and_from (in_scope c.point h.loan_number) (is_conflict mir h.access h.loan) h.in_scope_here conflicts in
    in_flat_map (conflicts_of_step mir in_scope) (enumerate_from 0 mir.steps) (c.point, h.step) c (numbered mir.steps c.point h.step h.is_step)
    (in_flat_map (conflicts_of_access mir (in_scope c.point) c.point) (enumerate_from 0 (accesses_of mir h.step.instruction)) (c.access, h.access) c
    (numbered (accesses_of mir h.step.instruction) c.access h.access h.is_access)
    (in_flat_map (conflict_with mir (in_scope c.point) c.point (c.access, h.access)) (enumerate_from 0 (loans_of mir)) loan c
    (numbered (loans_of mir) h.loan_number (c.maker, h.loan) h.is_loan)
    (subst (λ v. Contains (conflict_with mir (in_scope c.point) c.point (c.access, h.access) loan) v) is_c
    (in_if (in_scope c.point h.loan_number && is_conflict mir h.access h.loan) found both))))

-- ---- failures

from_failures : (mir : Mir) (value : ValueTest) (known : ℕ → ℕ → Bool) → TellsKnown mir known → (f : Outlives) → Contains (failures_of mir value known) f → IsFailure mir value f.longer f.shorter
from_failures mir value known tells f h =
    let a = from_flat_map (failures_from mir value known) (range_with_len 0 mir.universals) f h in
    let b = from_flat_map (failure_of mir value known a.0) (range_with_len 0 mir.universals) f a.2 in
    let one = from_if (value a.0 (end_of mir b.0) && not (known a.0 b.0)) (record { longer = a.0; shorter = b.0 }) f b.2 in
    let both = and_parts (value a.0 (end_of mir b.0)) (not (known a.0 b.0)) one.0 in
    let longer : a.0 < mir.universals = omega (arith, (from_range 0 mir.universals a.0 a.1).1) in
    let shorter : b.0 < mir.universals = omega (arith, (from_range 0 mir.universals b.0 b.1).1) in
    let found : IsFailure mir value a.0 b.0 = record {
      longer_declared = longer;
      shorter_declared = shorter;
      has_end = both.0;
      unknown = λ k. both_ways (known a.0 b.0) (not-true (known a.0 b.0) both.1) ((tells a.0 b.0 longer shorter).1 k);
    } in
    subst (λ (g : Outlives). IsFailure mir value g.longer g.shorter) one.1 found

in_failures : (mir : Mir) (value : ValueTest) (known : ℕ → ℕ → Bool) → TellsKnown mir known → (f : Outlives) → IsFailure mir value f.longer f.shorter → Contains (failures_of mir value known) f
in_failures mir value known tells f h =
    let long = h.longer_declared in
    let short = h.shorter_declared in
    let unknown : known f.longer f.shorter ≡ false = false_from_ne_true (known f.longer f.shorter) (λ k. h.unknown ((tells f.longer f.shorter long short).0 k)) in
    let both = and_from (value f.longer (end_of mir f.shorter)) (not (known f.longer f.shorter)) h.has_end (rw unknown) in
    in_flat_map (failures_from mir value known) (range_with_len 0 mir.universals) f.longer f (in_range 0 mir.universals f.longer (omega arith) (omega arith))
    (in_flat_map (failure_of mir value known f.longer) (range_with_len 0 mir.universals) f.shorter f (in_range 0 mir.universals f.shorter (omega arith) (omega arith))
    (in_if (value f.longer (end_of mir f.shorter) && not (known f.longer f.shorter)) f both))

-- ---- requirements

pub listed_is_required : (mir : Mir) (value : ValueTest) (known : ℕ → ℕ → Bool) → TellsKnown mir known → (f : Outlives) → Contains (requirements_of mir value known) f ↔ IsRequirement mir value f
listed_is_required mir value known tells f = (
  λ h. let kept = from_filter (is_required mir) (failures_of mir value known) f h in record { fails = from_failures mir value known tells f kept.0; is_required = kept.1 },
  λ h. in_filter (is_required mir) (failures_of mir value known) f (in_failures mir value known tells f h.fails) h.is_required,
)

required_goes_up : (kind : UnitKind) (externals : List ℕ) (f : Outlives) → is_required_in kind externals f ≡ true → may_go_up externals f ≡ true
required_goes_up kinds.Function externals f is = absurd cc
required_goes_up kinds.Closure externals f is = is

-- what is required is between external regions and `'static` alone
pub required_may_go_up : (mir : Mir) (failures : List Outlives) → list_all (may_go_up mir.externals) (filter (is_required mir) failures) ≡ true
required_may_go_up mir [] = refl
required_may_go_up mir (f ∷ fs) = by_cases (is_required mir f) refl (required_may_go_up mir fs)
  where
    by_cases : (b : Bool) → is_required mir f ≡ b → list_all (may_go_up mir.externals) (filter (is_required mir) fs) ≡ true
        → list_all (may_go_up mir.externals) (if b then f ∷ filter (is_required mir) fs else filter (is_required mir) fs) ≡ true
    by_cases true is rest = rw (required_goes_up mir.kind mir.externals f is) rest
    by_cases false is rest = rest

-- ---- errors

-- a failure that is an error
pub from_lifetimes : (mir : Mir) (value : ValueTest) (known : ℕ → ℕ → Bool) → TellsKnown mir known → (f : Outlives) → Contains (lifetimes_of mir value known) f →
    IsFailure mir value f.longer f.shorter × (is_required mir f ≡ false)
from_lifetimes mir value known tells f h =
    let kept = from_filter (is_lifetime_error mir) (failures_of mir value known) f h in
    (from_failures mir value known tells f kept.0, not-true (is_required mir f) kept.1)

-- the point of a conflict is in the value of the loan's region, if each loan in scope has it there
abbrev pub IsWithin : Mir → ScopeTest → ValueTest → Type 0
IsWithin mir in_scope value =
    (point number : ℕ) (made : ℕ × Loan) → in_scope point number ≡ true → slice_get (loans_of mir) number ≡ Some made → value (region_number mir.universals made.1.region) point ≡ true

-- each element of each region has at most one explanation
abbrev pub IsOne : (ℕ → ℕ → List Region → Type 0) → Type 0
IsOne Explains = (r e : ℕ) (chain other : List Region) → Explains r e chain → Explains r e other → chain ≡ other

module _ (mir : Mir) (Explains : ℕ → ℕ → List Region → Type 0) (in_scope : ScopeTest) (value : ValueTest) (known : ℕ → ℕ → Bool) (chain : ChainTo)
    (within : IsWithin mir in_scope value) (tells : TellsKnown mir known) (one : IsOne Explains)
    (explains : (r e : ℕ) → value r e ≡ true → Explains r e (chain r e)) where
  from_conflict_errors : (e : BorrowError) → Contains (map (conflict_error mir chain) (conflicts_of mir in_scope)) e → IsError mir Explains in_scope value e
  from_conflict_errors e h =
      let mapped = from_map (conflict_error mir chain) (conflicts_of mir in_scope) e h in
      let c = mapped.0 in
      let listed = from_conflicts mir in_scope c mapped.1 in
      let has : value (region_number mir.universals listed.loan.region) c.point ≡ true = within c.point listed.loan_number (c.maker, listed.loan) listed.in_scope_here listed.is_loan in
      let told = explains (region_number mir.universals listed.loan.region) c.point has in
      let found : IsError mir Explains in_scope value (conflict_error mir chain c) = record {
        point = c.point;
        step = listed.step;
        is_step = listed.is_step;
        at_point = sym (printed_at mir.steps c.point listed.step listed.is_step);
        access = listed.access;
        is_access = listed.is_access;
        loan_number = listed.loan_number;
        maker = c.maker;
        loan = listed.loan;
        is_loan = listed.is_loan;
        maker_step = listed.maker_step;
        is_maker = listed.is_maker;
        at_maker = sym (printed_at mir.steps c.maker listed.maker_step listed.is_maker);
        in_scope_here = listed.in_scope_here;
        one_writes = listed.one_writes;
        relevant = listed.relevant;
        explained = subst (λ r. Explains (region_number mir.universals listed.loan.region) c.point (chain (region_number mir.universals r) c.point)) listed.region told;
      } in
      subst (IsError mir Explains in_scope value) mapped.2 found

  in_conflict_errors : (at : Point) (number : ℕ) (loan_at : Point) (because : List Region) → IsConflict mir Explains in_scope at number loan_at because →
      Contains (map (conflict_error mir chain) (conflicts_of mir in_scope)) (variants.Conflict at number loan_at because)
  in_conflict_errors at number loan_at because h =
      let c : Conflict = record { point = h.point; access = number; maker = h.maker; region = h.loan.region } in
      let listed : IsListed mir in_scope c = record {
        step = h.step;
        is_step = h.is_step;
        access = h.access;
        is_access = h.is_access;
        loan_number = h.loan_number;
        loan = h.loan;
        is_loan = h.is_loan;
        maker_step = h.maker_step;
        is_maker = h.is_maker;
        region = refl;
        in_scope_here = h.in_scope_here;
        one_writes = h.one_writes;
        relevant = h.relevant;
      } in
      let region = region_number mir.universals h.loan.region in
      let has : value region h.point ≡ true = within h.point h.loan_number (h.maker, h.loan) h.in_scope_here h.is_loan in
      let there : point_of mir.steps h.point ≡ at = printed_at mir.steps h.point h.step h.is_step ∙ h.at_point in
      let made : point_of mir.steps h.maker ≡ loan_at = printed_at mir.steps h.maker h.maker_step h.is_maker ∙ h.at_maker in
      let why : chain region h.point ≡ because = one region h.point (chain region h.point) because (explains region h.point has) h.explained in
      let is_e : conflict_error mir chain c ≡ variants.Conflict at number loan_at because = λ i. variants.Conflict (there i) number (made i) (why i) in
      subst (Contains (map (conflict_error mir chain) (conflicts_of mir in_scope))) is_e
      (in_map (conflict_error mir chain) (conflicts_of mir in_scope) c (in_conflicts mir in_scope c listed))

  from_lifetime_errors : (e : BorrowError) → Contains (map (lifetime_error mir chain) (lifetimes_of mir value known)) e → IsError mir Explains in_scope value e
  from_lifetime_errors e h =
      let mapped = from_map (lifetime_error mir chain) (lifetimes_of mir value known) e h in
      let f = mapped.0 in
      let kept = from_lifetimes mir value known tells f mapped.1 in
      let found : IsError mir Explains in_scope value (lifetime_error mir chain f) = record {
        fails = kept.0;
        not_required = kept.1;
        explained = explains f.longer (end_of mir f.shorter) kept.0.has_end;
      } in
      subst (IsError mir Explains in_scope value) mapped.2 found

  in_lifetime_errors : (longer shorter : ℕ) (because : List Region) → IsLifetimeError mir Explains value (record { longer = longer; shorter = shorter }) because →
      Contains (map (lifetime_error mir chain) (lifetimes_of mir value known)) (variants.Lifetime longer shorter because)
  in_lifetime_errors longer shorter because h =
      let f : Outlives = record { longer = longer; shorter = shorter } in
      let end = end_of mir shorter in
      let why : chain longer end ≡ because = one longer end (chain longer end) because (explains longer end h.fails.has_end) h.explained in
      let there : Contains (lifetimes_of mir value known) f =
      in_filter (is_lifetime_error mir) (failures_of mir value known) f (in_failures mir value known tells f h.fails) (rw h.not_required) in
      subst (λ (ch : List Region). Contains (map (lifetime_error mir chain) (lifetimes_of mir value known)) (variants.Lifetime longer shorter ch)) why
      (in_map (lifetime_error mir chain) (lifetimes_of mir value known) f there)

  to_list : (e : BorrowError) → IsError mir Explains in_scope value e → Contains (errors_of mir in_scope value known chain) e
  to_list (variants.Conflict at number loan_at because) h =
      Contains-append_left (map (conflict_error mir chain) (conflicts_of mir in_scope)) (map (lifetime_error mir chain) (lifetimes_of mir value known))
      (variants.Conflict at number loan_at because) (in_conflict_errors at number loan_at because h)
  to_list (variants.Lifetime longer shorter because) h =
      Contains-append_right (map (conflict_error mir chain) (conflicts_of mir in_scope)) (map (lifetime_error mir chain) (lifetimes_of mir value known))
      (variants.Lifetime longer shorter because) (in_lifetime_errors longer shorter because h)

  from_list : (e : BorrowError) → Contains (errors_of mir in_scope value known chain) e → IsError mir Explains in_scope value e
  from_list e h = elim (Contains-append_cases (map (conflict_error mir chain) (conflicts_of mir in_scope)) (map (lifetime_error mir chain) (lifetimes_of mir value known)) e h) [
    | inl conflict ↦ from_conflict_errors e conflict
    | inr lifetime ↦ from_lifetime_errors e lifetime
  ]

  pub listed_is_error : (e : BorrowError) → Contains (errors_of mir in_scope value known chain) e ↔ IsError mir Explains in_scope value e
  listed_is_error e = (from_list e, to_list e)
