-- What is remembered stays right, and if all that it was found from has its revision, it is the outcome now.
use Rattle.std.proofs.Common.{◌≡◌, ◌⊎◌, ℕ, zero, suc, ◌<◌, ◌≤◌, Bool, true, false, true≢false, List, [], ◌∷◌, ◌++◌, length, get_or, cond, refl, ap, sym, subst, ◌∙◌, inl, inr, ⊎_elim, arith, Option, Some, None}
use Rattle.std.specs.Prelude.{IsSome, is_some}
use Rattle.std.specs.Option.{option_map}
use Rattle.std.specs.List.{AllByRecursion, Contains}
use Rattle.std.specs.BTreeMap.{is_at}
use Rattle.bc_names.specs.Names.{NameParts, name_order}
use Rattle.bc_prov.specs.State.{at_name}
use Rattle.bc_prov.specs.Outcome.{IsOutcomeIn}
use Rattle.bc_prov.specs.declared.outcome.Outcome.{Outcome}
use Rattle.bc_prov.specs.Snapshots.{SnapshotView, IsPartOf, names_used}
use Rattle.bc_outcomes.proofs.Used.{outcome_used, used_listed}
use Rattle.bc_memo.specs.declared.place.Place.{Place}
use Rattle.bc_memo.specs.declared.change.Change.{Change}
use Rattle.bc_memo.specs.declared.change.Change.TheVariants as changes
use Rattle.bc_memo.specs.declared.memo.Remembered.{Remembered}
use Rattle.bc_memo.specs.Places.{Places, ShelfView, AreOrdered, unit_of, revision_of, revision_at, placed, mark, changed, voids}
use Rattle.bc_memo.specs.Memos.{IsRowOf, Recorded, recorded, Stands}
use Rattle.bc_memo.proofs.Places.{by_bool, same_name, at_name-map, placing}
use Rattle.bc_calls.specs.declared.call.Event.{Event}
use Rattle.bc_calls.specs.declared.call.Event.TheVariants.{Types, Put, Remove, Ask, All as EveryRoot}
use Rattle.bc_calls.specs.declared.call.Entry.{Entry}
use Rattle.bc_calls.specs.Calls.{after, stores, takes, MayComeNext}
use Rattle.bc_calls.specs.Changes.{change_of, writes, writes_of}
use Rattle.bc_calls.specs.Answers.{IsShelfOf}
use Rattle.bc_book.specs.Memory.{IsRight, ArePast}
use Rattle.bc_calls.proofs.Histories.{writes_more, writes_no_fewer}
use Rattle.bc_calls.proofs.Changing.{shelf_snoc, unit-marked, same_voids, clears_writes}

-- ---- what is still valid

-- what is still valid has its revision at each name
stands_at : (s : ShelfView) (used : Recorded) (m : NameParts) (v : Option ℕ) → AllByRecursion (λ (u : NameParts × Option ℕ). revision_at s u.0 ≡ u.1) used → at_name used m ≡ Some v → revision_at s m ≡ v
stands_at s [] m v all is = absurd (cc)
stands_at s (u ∷ us) m v all is = by_bool (is_at (name_order m) u.0)
    (λ at.
    let same : u.1 ≡ v = (let e : Some u.1 ≡ Some v = sym (ap (λ (b : Bool). cond b (Some u.1) (at_name us m)) at) ∙ is in cc) in
    ap (revision_at s) ((same_name m u.0).0 at) ∙ all.0 ∙ same)
    (λ at. stands_at s us m v all.1 (sym (ap (λ (b : Bool). cond b (Some u.1) (at_name us m)) at) ∙ is))

known : {A : Type 0} (o : Option A) → IsSome o → (a : A) × (o ≡ Some a)
known None some = absurd (true≢false (sym some))
known (Some a) some = (a, refl)

-- if what is remembered is right and still valid, it is the outcome now
pub right_now : (s : ShelfView) (h : List Entry) (n : NameParts) (r : Remembered) → IsRight s h n r → Stands s r → IsOutcomeIn (after h) n r.outcome
right_now s h n r right stands =
    outcome_used right.state (after h) n r.outcome
    (record {
      types = sym (right.types stands.types);
      bodies = λ k used.
          let t = known (at_name r.used.items k) (right.covers k used) in
          sym (right.bodies k t.0 t.1 (stands_at s r.used.items k t.0 stands.names t.1));
    })
    right.outcome

-- what is recorded of a shelf is valid there
recorded_stand : (s : ShelfView) (names : List NameParts) → AllByRecursion (λ (u : NameParts × Option ℕ). revision_at s u.0 ≡ u.1) (recorded s names)
recorded_stand s [] = tt
recorded_stand s (n ∷ ns) = (refl, recorded_stand s ns)

pub stands_new : (s : ShelfView) (names : List NameParts) (o : Outcome) (r : Remembered) → IsRowOf s names o r → Stands s r
stands_new s names o r row = record {
  types = sym row.types;
  names = subst (AllByRecursion (λ (u : NameParts × Option ℕ). revision_at s u.0 ≡ u.1)) (sym row.used) (recorded_stand s names);
}

-- ---- after one more entry

revision-marked : (c : Change) (n : NameParts) (o : Option Place) → revision_of (option_map (mark c n) o) ≡ revision_of o
revision-marked c n None = refl
revision-marked c n (Some p) = refl

-- a name keeps its revision, or has none now, or has the new one
abbrev Turning : ShelfView → ShelfView → NameParts → Event → ℕ → Type 0
Turning s s' m e revision =
    ((revision_at s' m ≡ revision_at s m) × (unit_of (at_name s'.places m) ≡ unit_of (at_name s.places m)))
    ⊎ (((revision_at s' m ≡ None) × (unit_of (at_name s'.places m) ≡ None))
    ⊎ ((revision_at s' m ≡ Some revision) × (writes e ≡ true)))

turning : (s : ShelfView) (e : Event) (revision : ℕ) (m : NameParts) → AreOrdered s.places → Turning s (changed s (change_of e) revision) m e revision
turning s e revision m ordered =
    ⊎_elim
    (λ (same : at_name qs m ≡ at_name s.places m). inl (new ∙ ap revision_of same, body ∙ ap unit_of same))
    (λ (other : (at_name qs m ≡ None) ⊎ ((p : Place) × (at_name qs m ≡ Some p) × (voids c m ≡ true) × (p.revision ≡ revision))).
    ⊎_elim
    (λ (gone : at_name qs m ≡ None). inr (inl (new ∙ ap revision_of gone, body ∙ ap unit_of gone)))
    (λ (t : (p : Place) × (at_name qs m ≡ Some p) × (voids c m ≡ true) × (p.revision ≡ revision)).
    inr (inr (new ∙ ap revision_of t.1 ∙ ap (λ (v : ℕ). Some v) t.3, clears_writes m e (sym (same_voids m e) ∙ t.2))))
    other)
    (placing s.places m c revision ordered)
  where
    c : Change
    c = change_of e

    qs : Places
    qs = placed s.places (change_of e) revision

    new : revision_at (changed s c revision) m ≡ revision_of (at_name qs m)
    new = ap revision_of (at_name-map (mark c) m qs) ∙ revision-marked c m (at_name qs m)

    body : unit_of (at_name (changed s c revision).places m) ≡ unit_of (at_name qs m)
    body = ap unit_of (at_name-map (mark c) m qs) ∙ unit-marked c m (at_name qs m)

-- declarations keep their revision, or have the new one
abbrev TypesTurning : ShelfView → Event → Change → ℕ → Type 0
TypesTurning s e c revision =
    (((changed s c revision).types_revision ≡ s.types_revision) × ((changed s c revision).types ≡ s.types)) ⊎ (((changed s c revision).types_revision ≡ revision) × (writes e ≡ true))

types_turning : (s : ShelfView) (e : Event) (revision : ℕ) → TypesTurning s e (change_of e) revision
types_turning s (Types t) revision = inr (refl, refl)
types_turning s (Put n b r) revision = by_test (stores r)
  where
    by_test : (x : Bool) → TypesTurning s (Put n b r) (cond x (changes.Put n b) changes.Nothing) revision
    by_test true = inl (refl, refl)
    by_test false = inl (refl, refl)
types_turning s (Remove n r) revision = by_test (takes r)
  where
    by_test : (x : Bool) → TypesTurning s (Remove n r) (cond x (changes.Remove n) changes.Nothing) revision
    by_test true = inl (refl, refl)
    by_test false = inl (refl, refl)
types_turning s (Ask n o) revision = inl (refl, refl)
types_turning s (EveryRoot l) revision = inl (refl, refl)

some_same : (a b : ℕ) → Some a ≡ Some b → a ≡ b
some_same a b e = cc

none_some : (a : ℕ) → None ≡ Some a → ⊥
none_some a e = absurd (cc)

-- a revision that an entry gives is above all before it
newer : (h : List Entry) (x : Entry) (v : ℕ) → writes x.event ≡ true → v ≤ writes_of h → writes_of (h ++ x ∷ []) ≡ v → ⊥
newer h x v is past same = let more = writes_more h x is in absurd (omega (arith, more, past, same))

pub right_more : (s : ShelfView) (h : List Entry) (n : NameParts) (r : Remembered) (x : Entry) → IsShelfOf s h → MayComeNext h x → IsRight s h n r → IsRight (changed s (change_of x.event) (writes_of (h ++ x ∷ []))) (h ++ x ∷ []) n r
right_more s h n r x of fits right = record {
  state = right.state;
  outcome = right.outcome;
  covers = right.covers;
  types = λ same.
      ⊎_elim
      (λ (t : (s'.types_revision ≡ s.types_revision) × (s'.types ≡ s.types)). sym now.types ∙ t.1 ∙ of.types ∙ right.types (sym t.0 ∙ same))
      (λ (t : (s'.types_revision ≡ writes_of (h ++ x ∷ [])) × (writes x.event ≡ true)). absurd (newer h x r.types t.1 right.types_past (sym t.0 ∙ same)))
      (types_turning s x.event (writes_of (h ++ x ∷ [])));
  bodies = λ m v at same. sym (now.bodies m) ∙ body m v at same;
  types_past = (let past = right.types_past in let longer = writes_no_fewer h x in omega (arith, past, longer));
  past = λ m v at. (let past = right.past m v at in let longer = writes_no_fewer h x in omega (arith, past, longer));
  absent = right.absent;
}
  where
    s' : ShelfView
    s' = changed s (change_of x.event) (writes_of (h ++ x ∷ []))

    now : IsShelfOf (changed s (change_of x.event) (writes_of (h ++ x ∷ []))) (h ++ x ∷ [])
    now = shelf_snoc s h x (writes_of (h ++ x ∷ [])) of fits

    body : (m : NameParts) (v : Option ℕ) → at_name r.used.items m ≡ Some v → revision_at (changed s (change_of x.event) (writes_of (h ++ x ∷ []))) m ≡ v
        → unit_of (at_name (changed s (change_of x.event) (writes_of (h ++ x ∷ []))).places m) ≡ right.state.bodies m
    body m None at same =
        ⊎_elim
        (λ (t : (revision_at s' m ≡ revision_at s m) × (unit_of (at_name s'.places m) ≡ unit_of (at_name s.places m))). t.1 ∙ of.bodies m ∙ right.bodies m None at (sym t.0 ∙ same))
        (λ (other : ((revision_at s' m ≡ None) × (unit_of (at_name s'.places m) ≡ None)) ⊎ ((revision_at s' m ≡ Some (writes_of (h ++ x ∷ []))) × (writes x.event ≡ true))).
        ⊎_elim
        (λ (t : (revision_at s' m ≡ None) × (unit_of (at_name s'.places m) ≡ None)). t.1 ∙ sym (right.absent m at))
        (λ (t : (revision_at s' m ≡ Some (writes_of (h ++ x ∷ []))) × (writes x.event ≡ true)). absurd (none_some (writes_of (h ++ x ∷ [])) (sym same ∙ t.0)))
        other)
        (turning s x.event (writes_of (h ++ x ∷ [])) m of.ordered)
    body m (Some v) at same =
        ⊎_elim
        (λ (t : (revision_at s' m ≡ revision_at s m) × (unit_of (at_name s'.places m) ≡ unit_of (at_name s.places m))). t.1 ∙ of.bodies m ∙ right.bodies m (Some v) at (sym t.0 ∙ same))
        (λ (other : ((revision_at s' m ≡ None) × (unit_of (at_name s'.places m) ≡ None)) ⊎ ((revision_at s' m ≡ Some (writes_of (h ++ x ∷ []))) × (writes x.event ≡ true))).
        ⊎_elim
        (λ (t : (revision_at s' m ≡ None) × (unit_of (at_name s'.places m) ≡ None)). absurd (none_some v (sym t.0 ∙ same)))
        (λ (t : (revision_at s' m ≡ Some (writes_of (h ++ x ∷ []))) × (writes x.event ≡ true)).
        absurd (newer h x v t.1 (right.past m v at) (some_same (writes_of (h ++ x ∷ [])) v (sym t.0 ∙ same))))
        other)
        (turning s x.event (writes_of (h ++ x ∷ [])) m of.ordered)

pub past_none : (s : ShelfView) → s.types_revision ≡ 0 → s.places ≡ [] → ArePast s []
past_none s types none = record {
  types = omega (arith, types);
  bodies = λ m v is. absurd (none_some v (sym (ap (λ (ps : Places). revision_of (at_name ps m)) none) ∙ is));
}

pub past_more : (s : ShelfView) (h : List Entry) (x : Entry) → AreOrdered s.places → ArePast s h → ArePast (changed s (change_of x.event) (writes_of (h ++ x ∷ []))) (h ++ x ∷ [])
past_more s h x ordered past = record {
  types = ⊎_elim
      (λ (t : (s'.types_revision ≡ s.types_revision) × (s'.types ≡ s.types)). (let same = t.0 in let was = past.types in let longer = writes_no_fewer h x in omega (arith, same, was, longer)))
      (λ (t : (s'.types_revision ≡ writes_of (h ++ x ∷ [])) × (writes x.event ≡ true)). (let same = t.0 in omega (arith, same)))
      (types_turning s x.event (writes_of (h ++ x ∷ [])));
  bodies = λ m v is. ⊎_elim
      (λ (t : (revision_at s' m ≡ revision_at s m) × (unit_of (at_name s'.places m) ≡ unit_of (at_name s.places m))).
      (let was = past.bodies m v (sym t.0 ∙ is) in let longer = writes_no_fewer h x in omega (arith, was, longer)))
      (λ (other : ((revision_at s' m ≡ None) × (unit_of (at_name s'.places m) ≡ None)) ⊎ ((revision_at s' m ≡ Some (writes_of (h ++ x ∷ []))) × (writes x.event ≡ true))).
      ⊎_elim
      (λ (t : (revision_at s' m ≡ None) × (unit_of (at_name s'.places m) ≡ None)). absurd (none_some v (sym t.0 ∙ is)))
      (λ (t : (revision_at s' m ≡ Some (writes_of (h ++ x ∷ []))) × (writes x.event ≡ true)). (let new = some_same (writes_of (h ++ x ∷ [])) v (sym t.0 ∙ is) in omega (arith, new)))
      other)
      (turning s x.event (writes_of (h ++ x ∷ [])) m ordered);
}
  where
    s' : ShelfView
    s' = changed s (change_of x.event) (writes_of (h ++ x ∷ []))

-- ---- what is newly remembered

listed_at : (s : ShelfView) (names : List NameParts) (q : NameParts) (i : ℕ) → i < length names → get_or names i q ≡ q → IsSome (at_name (recorded s names) q)
listed_at s [] q i within at = absurd (omega (arith, within))
listed_at s (n ∷ names) q zero within at = ap (λ (b : Bool). is_some (cond b (Some (revision_at s n)) (at_name (recorded s names) q))) ((same_name q n).1 (sym at))
listed_at s (n ∷ names) q (suc i) within at = by_bool (is_at (name_order q) n)
    (λ is. ap (λ (b : Bool). is_some (cond b (Some (revision_at s n)) (at_name (recorded s names) q))) is)
    (λ is. ap (λ (b : Bool). is_some (cond b (Some (revision_at s n)) (at_name (recorded s names) q))) is ∙ listed_at s names q i (omega (arith, within)) at)

-- each name of a list is recorded
listed : (s : ShelfView) (names : List NameParts) (q : NameParts) → Contains names q → IsSome (at_name (recorded s names) q)
listed s names q has = listed_at s names q has.0 has.1 has.2

recorded_at : (s : ShelfView) (names : List NameParts) (m : NameParts) (v : Option ℕ) → at_name (recorded s names) m ≡ Some v → revision_at s m ≡ v
recorded_at s [] m v is = absurd (cc)
recorded_at s (n ∷ names) m v is = by_bool (is_at (name_order m) n)
    (λ at.
    let one : Some (revision_at s n) ≡ Some v = sym (ap (λ (b : Bool). cond b (Some (revision_at s n)) (at_name (recorded s names) m)) at) ∙ is in
    let found : revision_at s n ≡ v = cc in
    ap (revision_at s) ((same_name m n).0 at) ∙ found)
    (λ at. recorded_at s names m v (sym (ap (λ (b : Bool). cond b (Some (revision_at s n)) (at_name (recorded s names) m)) at) ∙ is))

no_body : (o : Option Place) → revision_of o ≡ None → unit_of o ≡ None
no_body None is = refl
no_body (Some p) is = absurd (cc)

pub right_new : (s : ShelfView) (h : List Entry) (v : SnapshotView) (n : NameParts) (names : List NameParts) (r : Remembered) → IsShelfOf s h → ArePast s h → IsPartOf v n (after h) → names ≡ names_used v.root v.units
    → r.types ≡ s.types_revision → r.used.items ≡ recorded s names → IsOutcomeIn (after h) n r.outcome → IsRight s h n r
right_new s h v n names r of past part all types used is = record {
  state = after h;
  outcome = is;
  covers = λ m used_there.
      subst (λ (l : Recorded). IsSome (at_name l m)) (sym used)
      (listed s names m (subst (λ (l : List NameParts). Contains l m) (sym all) (used_listed v n (after h) part m used_there)));
  types = λ same. refl;
  bodies = λ m w at same. refl;
  types_past = (let t = past.types in omega (arith, t, types));
  past = λ m w at. past.bodies m w (recorded_at s names m (Some w) (sym (ap (λ (l : Recorded). at_name l m) used) ∙ at));
  absent = λ m at. sym (of.bodies m) ∙ no_body (at_name s.places m) (recorded_at s names m None (sym (ap (λ (l : Recorded). at_name l m) used) ∙ at));
}
