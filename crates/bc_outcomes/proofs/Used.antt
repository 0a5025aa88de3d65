-- The outcome of a name depends only on what is stored at the names that are used.
use Rattle.std.proofs.Common.{◌≡◌, ℕ, zero, suc, ◌<◌, List, [], ◌∷◌, ◌++◌, length, get_or, map, cond, refl, sym, ap, ◌∙◌, subst, arith, Bool, true, false, Option, Some, None, inl, inr}
use Rattle.std.specs.Prelude.{is_none, if◌then◌else◌}
use Rattle.std.specs.List.{AllZip, AllByRecursion, Contains, cons_option, filter_map, flat_map}
use Rattle.std.specs.Option.{option_map, option_or}
use Rattle.std.specs.BTreeMap.{is_at}
use Rattle.std.proofs.lemmas.List.Elements.{Contains-append_left, Contains-append_right}
use Rattle.bc_names.specs.Names.{NameParts, is_within, name_order}
use Rattle.bc_syntax.specs.Children.{children_of}
use Rattle.bc_syntax.specs.declared.syntax.Declaration.{Declaration}
use Rattle.bc_syntax.specs.declared.syntax.Body.{Body}
use Rattle.bc_types.specs.Declarations.{first_bad}
use Rattle.bc_bodies.specs.Mir.{mir_of}
use Rattle.bc_mir.specs.Typing.{misfit}
use Rattle.bc_judge.specs.declared.verdict.Verdict.{Verdict}
use Rattle.bc_prov.specs.declared.outcome.BodyErrors.{BodyErrors}
use Rattle.bc_prov.specs.declared.outcome.Outcome.{Outcome}
use Rattle.bc_prov.specs.declared.outcome.Outcome.TheVariants.{Missing, Ill}
use Rattle.bc_prov.specs.State.{State, at_name, child, children_at, levels_from, mir_at}
use Rattle.bc_prov.specs.Verdicts.{IsVerdictOf, IsVerdictOver, IsVerdictWithin, IsVerdictAt, requirements_by}
use Rattle.bc_prov.specs.Outcome.{IsReported, IsOutcomeAfter, IsOutcomeOf, IsOutcomeBehind, IsOutcomeIn, absent_among, own_fault, first_among, fault_over, fault_within, fault_at, units_over, units_within, units_at}
use Rattle.bc_prov.specs.Snapshots.{SnapshotView, IsPartOf, children_named, names_used}
use Rattle.bc_outcomes.specs.Laws.{HaveSameUsed, IsUsed}
use Rattle.bc_prov.proofs.Lookup.{at_itself}
use Rattle.bc_names.proofs.Within.{within_self, within_child}

-- ---- members of lists

head_in : {X : Type 0} (x : X) (xs : List X) → Contains (x ∷ xs) x
head_in x xs = (0, omega arith, refl)

tail_in : {X : Type 0} (x : X) (xs : List X) (y : X) → Contains xs y → Contains (x ∷ xs) y
tail_in x xs y has = (suc has.0, (let within = has.1 in omega (arith, within)), has.2)

-- what is true of each member is true of all
all_members : {X : Type 0} (P : X → Type 0) (xs : List X) → ((x : X) → Contains xs x → P x) → AllByRecursion P xs
all_members P [] each = tt
all_members P (x ∷ xs) each = (each x (head_in x xs), all_members P xs (λ y has. each y (tail_in x xs y has)))

mapped_at : {X Y : Type 0} (f : X → Y) (xs : List X) (x : X) (i : ℕ) → i < length xs → get_or xs i x ≡ x → Contains (map f xs) (f x)
mapped_at f [] x i within at = absurd (omega (arith, within))
mapped_at f (y ∷ ys) x zero within at = (0, omega arith, ap f at)
mapped_at f (y ∷ ys) x (suc i) within at = tail_in (f y) (map f ys) (f x) (mapped_at f ys x i (omega (arith, within)) at)

mapped_in : {X Y : Type 0} (f : X → Y) (xs : List X) (x : X) → Contains xs x → Contains (map f xs) (f x)
mapped_in f xs x has = mapped_at f xs x has.0 has.1 has.2

-- ---- functions that agree on the members of a list

filter_map_members : {X Y : Type 0} (f g : X → Option Y) (xs : List X) → AllByRecursion (λ x. f x ≡ g x) xs → filter_map f xs ≡ filter_map g xs
filter_map_members f g [] same = refl
filter_map_members f g (x ∷ xs) same = λ i. cons_option (same.0 i) (filter_map_members f g xs same.1 i)

flat_map_members : {X Y : Type 0} (f g : X → List Y) (xs : List X) → AllByRecursion (λ x. f x ≡ g x) xs → flat_map f xs ≡ flat_map g xs
flat_map_members f g [] same = refl
flat_map_members f g (x ∷ xs) same = λ i. same.0 i ++ flat_map_members f g xs same.1 i

first_among_members : {A : Type 0} (f g : ℕ → Option A) (numbers : List ℕ) → AllByRecursion (λ n. f n ≡ g n) numbers → first_among f numbers ≡ first_among g numbers
first_among_members f g [] same = refl
first_among_members f g (n ∷ ns) same = λ i. option_or (same.0 i) (first_among_members f g ns same.1 i)

all_zip_members : {X Y : Type 0} (F G : X → Y → Type 0) (xs : List X) (ys : List Y) → AllByRecursion (λ x. (y : Y) → F x y → G x y) xs → AllZip F xs ys → AllZip G xs ys
all_zip_members F G [] [] each h = tt
all_zip_members F G [] (y ∷ ys) each h = absurd h
all_zip_members F G (x ∷ xs) [] each h = absurd h
all_zip_members F G (x ∷ xs) (y ∷ ys) each h = (each.0 y h.0, all_zip_members F G xs ys each.1 h.1)

-- ---- the outcome of a name depends on the names that are used

-- the name is the root or below it, and used
record IsReached (root : NameParts) (state : State) (name : NameParts) : Type 0 where
  from : is_within root name ≡ true
  used : IsUsed root state name

module _ (a b : State) (root : NameParts) (same : HaveSameUsed root a b) where
  -- all bodies of a list are at the root or below it, and used
  abbrev AllReached : List (NameParts × Body) → Type 0
  AllReached units = AllByRecursion (λ (u : NameParts × Body). IsReached root a u.0) units

  -- the names of the closures hold the same bodies in both states
  abbrev SameKids : NameParts → List ℕ → Type 0
  SameKids name numbers = AllByRecursion (λ number. a.bodies (child name number) ≡ b.bodies (child name number)) numbers

  reached_child : (name : NameParts) (body : Body) (number : ℕ) → IsReached root a name → a.bodies name ≡ Some body → Contains (children_of body) number → IsReached root a (child name number)
  reached_child name body number reached held among = record {
    from = within_child root name number reached.from;
    used = inr (record { creator = name; body = body; number = number; within = reached.from; held = held; among = among; named = refl });
  }

  same_kids : (name : NameParts) (body : Body) → IsReached root a name → a.bodies name ≡ Some body → SameKids name (children_of body)
  same_kids name body reached held = all_members (λ number. a.bodies (child name number) ≡ b.bodies (child name number)) (children_of body)
      (λ number among. same.bodies (child name number) (reached_child name body number reached held among).used)

  mir-used : (name : NameParts) (body : Body) → SameKids name (children_of body) → mir_at a name body ≡ mir_at b name body
  mir-used name body kids = λ i. mir_of (same.types i) (headers (children_of body) kids i) body
    where
      headers : (numbers : List ℕ) → SameKids name numbers → children_at a name numbers ≡ children_at b name numbers
      headers [] each = refl
      headers (n ∷ ns) each = λ i. cons_option (option_map (λ (u : Body). record { number = n; header = u.header }) (each.0 i)) (headers ns each.1 i)

  absent-used : (name : NameParts) (numbers : List ℕ) → SameKids name numbers → absent_among a name numbers ≡ absent_among b name numbers
  absent-used name [] each = refl
  absent-used name (n ∷ ns) each = λ i. if is_none (each.0 i) then Some (child name n) else absent-used name ns each.1 i

  own-used : (name : NameParts) (body : Body) → SameKids name (children_of body) → own_fault a name body ≡ own_fault b name body
  own-used name body kids = λ i. option_or (option_map Missing (absent-used name (children_of body) kids i)) (option_map (Ill name) (misfit (mir-used name body kids i)))

  fault-over-used : (name : NameParts) (f g : ℕ → Option Outcome) (o : Option Body) → ((body : Body) → o ≡ Some body → SameKids name (children_of body)) → ((body : Body) → o ≡ Some body → AllByRecursion (λ number. f number ≡ g number) (children_of body))
      → fault_over a name f o ≡ fault_over b name g o
  fault-over-used name f g None kids each = refl
  fault-over-used name f g (Some body) kids each = λ i. option_or (own-used name body (kids body refl) i) (first_among_members f g (children_of body) (each body refl) i)

  fault-used : (levels : ℕ) (name : NameParts) → IsReached root a name → fault_within a levels name ≡ fault_within b levels name
  unfolding fault_within
  fault-used zero name reached = refl
  fault-used (suc levels) name reached =
      fault-over-used name (λ number. fault_within a levels (child name number)) (λ number. fault_within b levels (child name number)) (a.bodies name) (λ body held. same_kids name body reached held)
      (λ body held. all_members (λ number. fault_within a levels (child name number) ≡ fault_within b levels (child name number)) (children_of body) (λ number among. fault-used levels (child name number) (reached_child name body number reached held among)))
      ∙ ap (fault_over b name (λ number. fault_within b levels (child name number))) (same.bodies name reached.used)

  units-over-used : (name : NameParts) (f g : ℕ → List (NameParts × Body)) (o : Option Body) → ((body : Body) → o ≡ Some body → AllByRecursion (λ number. f number ≡ g number) (children_of body)) → units_over name f o ≡ units_over name g o
  units-over-used name f g None each = refl
  units-over-used name f g (Some body) each = λ i. (name, body) ∷ flat_map_members f g (children_of body) (each body refl) i

  units-used : (levels : ℕ) (name : NameParts) → IsReached root a name → units_within a levels name ≡ units_within b levels name
  unfolding units_within
  units-used zero name reached = refl
  units-used (suc levels) name reached =
      units-over-used name (λ number. units_within a levels (child name number)) (λ number. units_within b levels (child name number)) (a.bodies name)
      (λ body held. all_members (λ number. units_within a levels (child name number) ≡ units_within b levels (child name number)) (children_of body) (λ number among. units-used levels (child name number) (reached_child name body number reached held among)))
      ∙ ap (units_over name (λ number. units_within b levels (child name number))) (same.bodies name reached.used)

  verdict_over_used : (name : NameParts) (F G : ℕ → Verdict → Type 0) (o : Option Body) (v : Verdict) → ((body : Body) → o ≡ Some body → SameKids name (children_of body))
      → ((body : Body) → o ≡ Some body → AllByRecursion (λ number. (w : Verdict) → F number w → G number w) (children_of body)) → IsVerdictOver a name F o v → IsVerdictOver b name G o v
  verdict_over_used name F G None v kids each h = absurd h
  verdict_over_used name F G (Some body) v kids each h = (
    h.0,
    all_zip_members F G (children_of body) h.0 (each body refl) h.1,
    subst (λ m. IsVerdictOf m (requirements_by (children_of body) h.0) v) (mir-used name body (kids body refl)) h.2,
  )

  verdict_used : (levels : ℕ) (name : NameParts) (v : Verdict) → IsReached root a name → IsVerdictWithin a levels name v → IsVerdictWithin b levels name v
  unfolding IsVerdictWithin
  verdict_used zero name v reached h = absurd h
  verdict_used (suc levels) name v reached h =
      subst (λ (o : Option Body). IsVerdictOver b name (λ number. IsVerdictWithin b levels (child name number)) o v) (same.bodies name reached.used)
      (verdict_over_used name (λ number. IsVerdictWithin a levels (child name number)) (λ number. IsVerdictWithin b levels (child name number)) (a.bodies name) v (λ body held. same_kids name body reached held)
      (λ body held. all_members (λ number. (w : Verdict) → IsVerdictWithin a levels (child name number) w → IsVerdictWithin b levels (child name number) w) (children_of body) (λ number among w. verdict_used levels (child name number) w (reached_child name body number reached held among)))
      h)

  reached_append : (xs ys : List (NameParts × Body)) → AllReached xs → AllReached ys → AllReached (xs ++ ys)
  reached_append [] ys h k = k
  reached_append (x ∷ xs) ys h k = (h.0, reached_append xs ys h.1 k)

  reached_below : (f : ℕ → List (NameParts × Body)) (numbers : List ℕ) → AllByRecursion (λ number. AllReached (f number)) numbers → AllReached (flat_map f numbers)
  reached_below f [] each = tt
  reached_below f (n ∷ ns) each = reached_append (f n) (flat_map f ns) each.0 (reached_below f ns each.1)

  units_over_reached : (name : NameParts) (f : ℕ → List (NameParts × Body)) (o : Option Body) → IsReached root a name → ((body : Body) → o ≡ Some body → AllByRecursion (λ number. AllReached (f number)) (children_of body)) → AllReached (units_over name f o)
  units_over_reached name f None reached each = tt
  units_over_reached name f (Some body) reached each = (reached, reached_below f (children_of body) (each body refl))

  -- the bodies of a visit are used
  units_reached : (levels : ℕ) (name : NameParts) → IsReached root a name → AllReached (units_within a levels name)
  unfolding units_within
  units_reached zero name reached = tt
  units_reached (suc levels) name reached =
      units_over_reached name (λ number. units_within a levels (child name number)) (a.bodies name) reached
      (λ body held. all_members (λ number. AllReached (units_within a levels (child name number))) (children_of body) (λ number among. units_reached levels (child name number) (reached_child name body number reached held among)))

  reported_used : (unit : NameParts × Body) (found : BodyErrors) → IsReached root a unit.0 → IsReported a unit found → IsReported b unit found
  unfolding IsVerdictAt
  reported_used unit found reached is = record {
    named = is.named;
    verdict = is.verdict;
    is_verdict = verdict_used (levels_from unit.0) unit.0 is.verdict reached is.is_verdict;
    errors = is.errors;
  }

  all_reported : (units : List (NameParts × Body)) (found : List BodyErrors) → AllReached units → AllZip (IsReported a) units found → AllZip (IsReported b) units found
  all_reported [] [] reached h = tt
  all_reported [] (f ∷ fs) reached h = absurd h
  all_reported (u ∷ us) [] reached h = absurd h
  all_reported (u ∷ us) (f ∷ fs) reached h = (reported_used u f reached.0 h.0, all_reported us fs reached.1 h.1)

  here : IsReached root a root
  here = record { from = within_self root; used = inl refl }

  after_used : (fault : Option Outcome) (o : Outcome) → IsOutcomeAfter a root fault o → IsOutcomeAfter b root fault o
  unfolding units_at
  after_used (Some fault) o h = h
  after_used None o h = (
    h.0,
    subst (λ (us : List (NameParts × Body)). AllZip (IsReported b) us h.0) (units-used (levels_from root) root here) (all_reported (units_within a (levels_from root) root) h.0 (units_reached (levels_from root) root here) h.1),
    h.2,
  )

  of_used : (held : Option Body) (o : Outcome) → IsOutcomeOf a root held o → IsOutcomeOf b root held o
  unfolding fault_at
  of_used None o h = h
  of_used (Some body) o h = subst (λ (fault : Option Outcome). IsOutcomeAfter b root fault o) (fault-used (levels_from root) root here) (after_used (fault_within a (levels_from root) root) o h)

  behind_used : (bad : Option ℕ) (o : Outcome) → IsOutcomeBehind bad a root o → IsOutcomeBehind bad b root o
  behind_used (Some index) o h = h
  behind_used None o h = subst (λ (held : Option Body). IsOutcomeOf b root held o) (same.bodies root here.used) (of_used (a.bodies root) o h)

pub outcome_used : (a b : State) (root : NameParts) (o : Outcome) → HaveSameUsed root a b → IsOutcomeIn a root o → IsOutcomeIn b root o
outcome_used a b root o same h = subst (λ (types : List Declaration). IsOutcomeBehind (first_bad types) b root o) same.types (behind_used a b root same (first_bad a.types) o h)

-- ---- a snapshot lists all names that are used

child_listed : (units : List (NameParts × Body)) (creator : NameParts) (body : Body) (number : ℕ) → at_name units creator ≡ Some body → Contains (children_of body) number → Contains (flat_map children_named units) (child creator number)
child_listed [] creator body number held among = absurd cc
child_listed (u ∷ us) creator body number held among = by_cases (is_at (name_order creator) u.0) refl held (λ is. child_listed us creator body number is among)
  where
    here : u.0 ≡ creator → u.1 ≡ body → Contains (children_named u ++ flat_map children_named us) (child creator number)
    here name same =
        Contains-append_left (children_named u) (flat_map children_named us) (child creator number)
        (subst (λ (w : NameParts × Body). Contains (children_named w) (child creator number)) (λ i. (sym name i, sym same i)) (mapped_in (child creator) (children_of body) number among))

    by_cases : (at : Bool) → is_at (name_order creator) u.0 ≡ at → cond at (Some u.1) (at_name us creator) ≡ Some body
        → (at_name us creator ≡ Some body → Contains (flat_map children_named us) (child creator number)) → Contains (children_named u ++ flat_map children_named us) (child creator number)
    by_cases true at is rest = here (sym (at_itself creator u.0 at)) cc
    by_cases false at is rest = Contains-append_right (children_named u) (flat_map children_named us) (child creator number) (rest is)

pub used_listed : (view : SnapshotView) (root : NameParts) (state : State) → IsPartOf view root state → (name : NameParts) → IsUsed root state name → Contains (names_used view.root view.units) name
used_listed view root state part name (inl is) = subst (Contains (names_used view.root view.units)) (part.root ∙ sym is) (head_in view.root (flat_map children_named view.units))
used_listed view root state part name (inr below) =
    subst (Contains (names_used view.root view.units)) (sym below.named)
    (tail_in view.root (flat_map children_named view.units) (child below.creator below.number)
    (child_listed view.units below.creator below.body below.number (part.bodies below.creator below.within ∙ below.held) below.among))
