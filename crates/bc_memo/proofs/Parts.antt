-- The places of a name's part are adjacent, and make a snapshot.
use Rattle.std.proofs.Common.{◌≡◌, ℕ, zero, suc, ◌+◌, ◌-◌, ◌<◌, ◌≤◌, Bool, true, false, true≢false, List, [], ◌∷◌, length, get_or, take, drop, cond, refl, ap, sym, subst, ◌∙◌, inl, inr, arith}
use Rattle.std.specs.Prelude.{map, filter}
use Rattle.std.specs.List.{AllByRecursion}
use Rattle.std.specs.Map.{keys_of}
use Rattle.std.specs.Ordering.{is_gt}
use Rattle.std.specs.List.Sorted.{IsPartitionPoint, IsPartitionedBy, IsStrictlySortedBy}
use Rattle.std.specs.declared.cmp.Ordering.TheVariants.{Greater}
use Rattle.std.proofs.lemmas.Bool.{cases_eq}
use Rattle.std.proofs.lemmas.Cmp.{tied_itself}
use Rattle.std.proofs.lemmas.List.{get_or-drop, length-drop, take_rest}
use Rattle.bc_syntax.specs.declared.syntax.Body.{Body}
use Rattle.bc_names.specs.Names.{NameParts, name_order, is_within}
use Rattle.bc_names.proofs.Equality.{names_total}
use Rattle.bc_names.proofs.Within.{within_least, within_between}
use Rattle.bc_prov.specs.State.{Suits}
use Rattle.bc_prov.specs.Snapshots.{IsSnapshot, SnapshotView}
use Rattle.bc_memo.specs.declared.place.Place.{Place}
use Rattle.bc_memo.specs.Places.{Places, ShelfView, AreKept, AreOrdered, IsHeld, IsStartAt, part_in, units_in}
use Rattle.bc_memo.proofs.Places.{by_bool, keys_of-map, ordered-filter, ordered_at, passes-filter}

-- ---- adjacent elements that pass a test

none_pass : {X : Type 0} (test : X → Bool) (es : List X) → ((k : ℕ) (d : X) → k < length es → test (get_or es k d) ≡ false) → [] ≡ filter test es
none_pass test [] none = refl
none_pass test (e ∷ es) none = none_pass test es (λ k d less. none (suc k) d (omega arith)) ∙ sym (ap (λ (b : Bool). cond b (e ∷ filter test es) (filter test es)) (none 0 e (omega arith)))

first_pass : {X : Type 0} (test : X → Bool) (es : List X) (j : ℕ) → j ≤ length es → ((k : ℕ) (d : X) → k < j → test (get_or es k d) ≡ true) → ((k : ℕ) (d : X) → j ≤ k → k < length es → test (get_or es k d) ≡ false) → take j es ≡ filter test es
first_pass test es zero bound inside outside = none_pass test es (λ k d less. outside k d (omega arith) less)
first_pass test [] (suc j) bound inside outside = absurd (omega arith)
first_pass test (e ∷ es) (suc j) bound inside outside =
    ap (λ l. e ∷ l) (first_pass test es j (omega arith) (λ k d less. inside (suc k) d (omega arith)) (λ k d from less. outside (suc k) d (omega arith) (omega arith)))
    ∙ sym (ap (λ (b : Bool). cond b (e ∷ filter test es) (filter test es)) (inside 0 e (omega arith)))

run_passes : {X : Type 0} (test : X → Bool) (es : List X) (i j : ℕ) → i ≤ length es → ((k : ℕ) (d : X) → k < i → test (get_or es k d) ≡ false) → j ≤ length (drop i es)
    → ((k : ℕ) (d : X) → k < j → test (get_or (drop i es) k d) ≡ true) → ((k : ℕ) (d : X) → j ≤ k → k < length (drop i es) → test (get_or (drop i es) k d) ≡ false) → take j (drop i es) ≡ filter test es
run_passes test es zero j within before bound inside outside = first_pass test es j bound inside outside
run_passes test [] (suc i) j within before bound inside outside = absurd (omega arith)
run_passes test (e ∷ es) (suc i) j within before bound inside outside =
    run_passes test es i j (omega arith) (λ k d less. before (suc k) d (omega arith)) bound inside outside
    ∙ sym (ap (λ (b : Bool). cond b (e ∷ filter test es) (filter test es)) (before 0 e (omega arith)))

-- ---- the names within a root

before_apart : (root n : NameParts) → name_order root n ≡ Greater → is_within root n ≡ false
before_apart root n greater = by_bool (is_within root n) (λ is. absurd (true≢false (sym (ap is_gt greater) ∙ within_least root n is))) (λ is. is)

-- from the start on, no name within the root comes after one that is not
parted : {X : Type 0} (root : NameParts) (es : List (NameParts × X)) (i : ℕ) → AreOrdered es → IsStartAt es root i → IsPartitionedBy (λ (e : NameParts × X). is_within root e.0) (drop i es)
parted {X} root es i ordered start a b d upto less within =
    subst (λ (e : NameParts × X). is_within root e.0 ≡ true) (sym (get_or-drop i es a d))
    (within_between root (get_or es (i + a) d).0 (get_or es (i + b) d).0
    (start.later (i + a) d (omega arith) (let long = length-drop i es in omega (arith, long)))
    (elim (cases_eq a b) [
      | inl same ↦ subst (λ (m : ℕ). is_gt (name_order (get_or es (i + a) d).0 (get_or es (i + m) d).0) ≡ false) same (ap is_gt (tied_itself names_total (get_or es (i + a) d).0))
      | inr apart ↦ ap is_gt (ordered_at es (i + a) (i + b) d ordered (omega arith) (let long = length-drop i es in omega (arith, long)))
    ])
    (sym (ap (λ (e : NameParts × X). is_within root e.0) (get_or-drop i es b d)) ∙ within))

part_range : {X : Type 0} (root : NameParts) (es : List (NameParts × X)) (i j : ℕ) → IsStartAt es root i → j ≤ length (drop i es)
    → IsPartitionPoint (λ (e : NameParts × X). is_within root e.0 ≡ true) (λ (e : NameParts × X). is_within root e.0 ≡ false) (drop i es) j → take j (drop i es) ≡ part_in root es
part_range {X} root es i j start bound parts =
    run_passes (λ (e : NameParts × X). is_within root e.0) es i j start.within (λ k d less. before_apart root (get_or es k d).0 (start.above k d less)) bound
    (λ k d less. parts.0 k d (omega arith) less) parts.1

-- the slice from the start, as long as names are within the root, is the part
pub part_slice : {X : Type 0} (root : NameParts) (es : List (NameParts × X)) (i j : ℕ) → AreOrdered es → IsStartAt es root i → j ≤ length (take (length es - i) (drop i es))
    → (IsPartitionedBy (λ (e : NameParts × X). is_within root e.0) (take (length es - i) (drop i es)) → IsPartitionPoint (λ (e : NameParts × X). is_within root e.0 ≡ true) (λ (e : NameParts × X). is_within root e.0 ≡ false) (take (length es - i) (drop i es)) j)
    → take j (take (length es - i) (drop i es)) ≡ part_in root es
part_slice {X} root es i j ordered start =
    subst (λ (l : List (NameParts × X)). j ≤ length l → (IsPartitionedBy (λ (e : NameParts × X). is_within root e.0) l → IsPartitionPoint (λ (e : NameParts × X). is_within root e.0 ≡ true) (λ (e : NameParts × X). is_within root e.0 ≡ false) l j) → take j l ≡ part_in root es)
    (sym (take_rest es i)) (λ bound point. part_range root es i j start bound (point (parted root es i ordered start)))

-- ---- the part as a snapshot has it

suited-filter : (test : NameParts → Bool) (ps : Places) → AllByRecursion (λ (p : NameParts × Place). Suits p.1.unit p.0) ps
    → AllByRecursion (λ (u : NameParts × Body). Suits u.1 u.0) (map (λ (p : NameParts × Place). (p.0, p.1.unit)) (filter (λ (p : NameParts × Place). test p.0) ps))
suited-filter test [] all = tt
suited-filter test (p ∷ ps) all = by_bool (test p.0)
    (λ is. subst (λ (b : Bool). AllByRecursion (λ (u : NameParts × Body). Suits u.1 u.0) (map (λ (q : NameParts × Place). (q.0, q.1.unit)) (cond b (p ∷ filter (λ (q : NameParts × Place). test q.0) ps) (filter (λ (q : NameParts × Place). test q.0) ps)))) (sym is) (all.0, suited-filter test ps all.1))
    (λ is. subst (λ (b : Bool). AllByRecursion (λ (u : NameParts × Body). Suits u.1 u.0) (map (λ (q : NameParts × Place). (q.0, q.1.unit)) (cond b (p ∷ filter (λ (q : NameParts × Place). test q.0) ps) (filter (λ (q : NameParts × Place). test q.0) ps)))) (sym is) (suited-filter test ps all.1))

pub part_snapshot : (root : NameParts) (ps : Places) → AreKept ps → IsSnapshot root (units_in root ps)
part_snapshot root ps kept = record {
  ascending = subst (λ (ks : List NameParts). IsStrictlySortedBy name_order ks) (sym names) (ordered-filter (is_within root) ps kept.ordered);
  within = subst (λ (ks : List NameParts). AllByRecursion (λ (n : NameParts). is_within root n ≡ true) ks) (sym names) (passes-filter (is_within root) ps);
  suited = suited-filter (is_within root) ps kept.suited;
}
  where
    names : keys_of (units_in root ps) ≡ keys_of (part_in root ps)
    names = keys_of-map (λ (n : NameParts) (p : Place). p.unit) (part_in root ps)

-- ---- lists that are made of places

pub map_same : {X Y : Type 0} (f : X → Y) (ys : List Y) (xs : List X) → length ys ≡ length xs → ((k : ℕ) (d : X) (e : Y) → k < length xs → get_or ys k e ≡ f (get_or xs k d)) → ys ≡ map f xs
map_same f [] [] long same = refl
map_same f [] (x ∷ xs) long same = absurd (omega arith)
map_same f (y ∷ ys) [] long same = absurd (omega arith)
map_same f (y ∷ ys) (x ∷ xs) long same = λ i. same 0 x y (omega arith) i ∷ map_same f ys xs (omega arith) (λ k d e less. same (suc k) d e (omega arith)) i

pub at_map : {X Y : Type 0} (f : X → Y) (xs : List X) (k : ℕ) (d : X) (e : Y) → k < length xs → get_or (map f xs) k e ≡ f (get_or xs k d)
at_map f [] k d e less = absurd (omega arith)
at_map f (x ∷ xs) zero d e less = refl
at_map f (x ∷ xs) (suc k) d e less = at_map f xs k d e (omega arith)

-- ---- what the shelf has of a snapshot

pub held_by : (s : ShelfView) (v : SnapshotView) (part : Places) (types_at : ℕ) (units_at : List ℕ) → part ≡ part_in v.root s.places → types_at ≡ s.types_revision → units_at ≡ map (λ (p : NameParts × Place). p.1.revision) part
    → v.types ≡ s.types → v.units ≡ map (λ (p : NameParts × Place). (p.0, p.1.unit)) part → IsHeld s v types_at units_at
held_by s v part types_at units_at is first others types units = record {
  types_revision = first;
  revisions = others ∙ ap (map (λ (p : NameParts × Place). p.1.revision)) is;
  types = types;
  units = units ∙ ap (map (λ (p : NameParts × Place). (p.0, p.1.unit))) is;
}
