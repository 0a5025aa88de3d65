-- Lists of entries in the order of their names.
use Rattle.std.proofs.Common.{◌≡◌, ℕ, zero, suc, ◌+◌, ◌<◌, ◌≤◌, Bool, true, false, true≢false, List, [], ◌∷◌, length, get_or, set, cond, refl, ap, sym, subst, ◌∙◌, ◌⊎◌, inl, inr, arith, Option, Some, None, Result, Ok, Err}
use Rattle.std.specs.Prelude.{map, filter, is_some, IfOk, IfErr}
use Rattle.std.specs.Option.{option_map}
use Rattle.std.specs.Bool.{Decides}
use Rattle.std.specs.List.{AllByRecursion, insert, remove}
use Rattle.std.specs.Map.{keys_of, remove_entry}
use Rattle.std.specs.BTreeMap.{is_at, insert_entry}
use Rattle.std.specs.Cmp.{both_ways, eq_by_cmp_equiv}
use Rattle.std.specs.List.Sorted.{IsBinarySearchResult, IsNonDecreasingBy, IsPartitionPoint, IsSearchInRange, IsStrictlySortedBy}
use Rattle.std.specs.declared.cmp.Ordering.{Ordering}
use Rattle.std.specs.declared.cmp.Ordering.TheVariants.{Less, Equal, Greater}
use Rattle.std.specs.Ordering.{is_eq, is_gt, match_ordering, ordering_index, ordering_reverse}
use Rattle.std.proofs.lemmas.Cmp.{tied_itself}
use Rattle.std.proofs.lemmas.Bool.{cases_eq}
use Rattle.std.proofs.lemmas.List.{get_or_default}
use Rattle.std.proofs.lemmas.Map.{lookup-remove_entry}
use Rattle.std.proofs.lemmas.Map.Entries.{lookup-filter-keys}
use Rattle.std.proofs.lemmas.Map.Keys.{IsDistinct-from_sorted}
use Rattle.bc_names.specs.Names.{NameParts, name_order, is_same_name, is_within}
use Rattle.bc_names.proofs.Equality.{name, exact_names, names_total}
use Rattle.bc_names.proofs.Within.{within_self}
use Rattle.bc_prov.specs.State.{at_name}
use Rattle.bc_prov.proofs.Lookup.{equal_only, index_le}
use Rattle.bc_memo.specs.declared.place.Place.{Place}
use Rattle.bc_memo.specs.declared.change.Change.{Change}
use Rattle.bc_memo.specs.declared.change.Change.TheVariants.{Types, Put, Remove, Answer, Answers, Nothing}
use Rattle.bc_memo.specs.Places.{Places, ShelfView, AreOrdered, IsAbove, IsBelow, IsFoundAt, IsGapAt, IsStartAt, changed, mark, part_in, placed, unit_of, units_in, voids, written}

pub same_name : (a b : NameParts) → Decides (is_at (name_order a) b) (a ≡ b)
same_name a b = (λ e. exact_names a b (equal_only (name_order a b) e), λ e. ap (λ (x : NameParts). is_eq (name_order a x)) (sym e) ∙ ap is_eq (tied_itself names_total a))

pub by_ordering : {P : Type 0} (r : Ordering) → (r ≡ Less → P) → (r ≡ Equal → P) → (r ≡ Greater → P) → P
by_ordering Less a b c = a refl
by_ordering Equal a b c = b refl
by_ordering Greater a b c = c refl

pub by_bool : {P : Type 0} (b : Bool) → (b ≡ true → P) → (b ≡ false → P) → P
by_bool true f g = f refl
by_bool false f g = g refl

-- names that do not compare as equal differ
pub greater_apart : (k m : NameParts) → name_order k m ≡ Greater → k ≡ m → ⊥
greater_apart k m r same = true≢false (sym ((same_name k m).1 same) ∙ ap is_eq r)

pub less_apart : (k m : NameParts) → name_order k m ≡ Less → k ≡ m → ⊥
less_apart k m r same = true≢false (sym ((same_name k m).1 same) ∙ ap is_eq r)

-- the two tests of names agree
pub same_tests : (k n : NameParts) → is_at (name_order k) n ≡ is_same_name k n
same_tests k n = by_bool (is_same_name k n)
    (λ is. (same_name k n).1 ((name k n).0 is) ∙ sym is)
    (λ is. by_bool (is_at (name_order k) n) (λ at. absurd (true≢false (sym ((name k n).1 ((same_name k n).0 at)) ∙ is))) (λ at. at ∙ sym is))

-- also with the two names swapped
pub same_back : (k n : NameParts) → is_at (name_order n) k ≡ is_same_name k n
same_back k n = both_ways _ _ (λ at. (name k n).1 (sym ((same_name n k).0 at))) (λ is. (same_name n k).1 (sym ((name k n).0 is)))

-- the value at a name in a list whose values are changed, each by its name
pub at_name-map : {X Y : Type 0} (f : NameParts → X → Y) (n : NameParts) (es : List (NameParts × X)) → at_name (map (λ (p : NameParts × X). (p.0, f p.0 p.1)) es) n ≡ option_map (f n) (at_name es n)
at_name-map f n [] = refl
at_name-map {X} {Y} f n (e ∷ es) = by_bool (is_at (name_order n) e.0)
    (λ is. ap (λ (b : Bool). cond b (Some (f e.0 e.1)) (at_name (map (λ (p : NameParts × X). (p.0, f p.0 p.1)) es) n)) is
    ∙ ap (λ (k : NameParts). Some (f k e.1)) (sym ((same_name n e.0).0 is))
    ∙ sym (ap (λ (b : Bool). option_map (f n) (cond b (Some e.1) (at_name es n))) is))
    (λ is. ap (λ (b : Bool). cond b (Some (f e.0 e.1)) (at_name (map (λ (p : NameParts × X). (p.0, f p.0 p.1)) es) n)) is
    ∙ at_name-map f n es
    ∙ sym (ap (λ (b : Bool). option_map (f n) (cond b (Some e.1) (at_name es n))) is))

pub keys_of-map : {X Y : Type 0} (f : NameParts → X → Y) (es : List (NameParts × X)) → keys_of (map (λ (p : NameParts × X). (p.0, f p.0 p.1)) es) ≡ keys_of es
keys_of-map f [] = refl
keys_of-map f (e ∷ es) = ap (λ l. e.0 ∷ l) (keys_of-map f es)

pub put_step : {X : Type 0} (k : NameParts) (v : X) (e : NameParts × X) (es : List (NameParts × X)) (r : Ordering) → name_order k e.0 ≡ r
    → insert_entry name_order (e ∷ es) k v ≡ match_ordering r ((k, v) ∷ e ∷ es) ((e.0, v) ∷ es) (e ∷ insert_entry name_order es k v)
put_step k v e es r h = ap (λ o. match_ordering o ((k, v) ∷ e ∷ es) ((e.0, v) ∷ es) (e ∷ insert_entry name_order es k v)) h

pub at_head : {X : Type 0} (n m : NameParts) (w : X) (rest : List (NameParts × X)) → n ≡ m → at_name ((m, w) ∷ rest) n ≡ Some w
at_head n m w rest is = ap (λ (b : Bool). cond b (Some w) (at_name rest n)) ((same_name n m).1 is)

pub at_tail : {X : Type 0} (n m : NameParts) (w : X) (rest : List (NameParts × X)) → (n ≡ m → ⊥) → at_name ((m, w) ∷ rest) n ≡ at_name rest n
at_tail n m w rest apart = by_bool (is_at (name_order n) m) (λ is. absurd (apart ((same_name n m).0 is))) (λ is. ap (λ (b : Bool). cond b (Some w) (at_name rest n)) is)

pub put_here : {X : Type 0} (k : NameParts) (v : X) (n : NameParts) (es : List (NameParts × X)) → n ≡ k → at_name (insert_entry name_order es k v) n ≡ Some v
put_here k v n [] is = at_head n k v [] is
put_here k v n (e ∷ es) is = by_ordering (name_order k e.0)
    (λ r. ap (λ l. at_name l n) (put_step k v e es Less r) ∙ at_head n k v (e ∷ es) is)
    (λ r. ap (λ l. at_name l n) (put_step k v e es Equal r) ∙ at_head n e.0 v es (is ∙ exact_names k e.0 r))
    (λ r. ap (λ l. at_name l n) (put_step k v e es Greater r)
    ∙ at_tail n e.0 e.1 (insert_entry name_order es k v) (λ (same : n ≡ e.0). greater_apart k e.0 r (sym is ∙ same))
    ∙ put_here k v n es is)

put_there : {X : Type 0} (k : NameParts) (v : X) (n : NameParts) (es : List (NameParts × X)) → (n ≡ k → ⊥) → at_name (insert_entry name_order es k v) n ≡ at_name es n
put_there k v n [] apart = at_tail n k v [] apart
put_there k v n (e ∷ es) apart = by_ordering (name_order k e.0)
    (λ r. ap (λ l. at_name l n) (put_step k v e es Less r) ∙ at_tail n k v (e ∷ es) apart)
    (λ r. ap (λ l. at_name l n) (put_step k v e es Equal r)
    ∙ at_tail n e.0 v es (λ (same : n ≡ e.0). apart (same ∙ sym (exact_names k e.0 r)))
    ∙ sym (at_tail n e.0 e.1 es (λ (same : n ≡ e.0). apart (same ∙ sym (exact_names k e.0 r)))))
    (λ r. ap (λ l. at_name l n) (put_step k v e es Greater r)
    ∙ ap (λ (o : Option _). cond (is_at (name_order n) e.0) (Some e.1) o) (put_there k v n es apart))

-- the value at a name after one is put
pub at_name-put : {X : Type 0} (k : NameParts) (v : X) (n : NameParts) (es : List (NameParts × X)) → at_name (insert_entry name_order es k v) n ≡ cond (is_same_name k n) (Some v) (at_name es n)
at_name-put k v n es = by_bool (is_same_name k n)
    (λ is. put_here k v n es (sym ((name k n).0 is)) ∙ sym (ap (λ (b : Bool). cond b (Some v) (at_name es n)) is))
    (λ is. put_there k v n es (λ (e : n ≡ k). true≢false (sym ((name k n).1 (sym e)) ∙ is)) ∙ sym (ap (λ (b : Bool). cond b (Some v) (at_name es n)) is))

-- and after one is taken out
pub at_name-take : {X : Type 0} (k n : NameParts) (es : List (NameParts × X)) → AreOrdered es → at_name (remove_entry (is_at (name_order k)) es) n ≡ cond (is_same_name k n) None (at_name es n)
at_name-take k n es ordered =
    lookup-remove_entry (eq_by_cmp_equiv names_total) (is_at (name_order k)) (λ x y is. ap (λ (z : NameParts). is_at (name_order z) y) ((same_name k x).0 is)) n es (IsDistinct-from_sorted name_order (keys_of es) ordered)
    ∙ ap (λ (b : Bool). cond b None (at_name es n)) (same_tests k n)

-- ---- the order stays

pub no_order : (X : Type 0) → AreOrdered {V = X} []
unfolding IsStrictlySortedBy
no_order X = tt

all_put : {X : Type 0} (P : NameParts → Type 0) (k : NameParts) (v : X) (es : List (NameParts × X)) → P k → AllByRecursion P (keys_of es) → AllByRecursion P (keys_of (insert_entry name_order es k v))
all_put P k v [] p all = (p, tt)
all_put P k v (e ∷ es) p all = by_ordering (name_order k e.0)
    (λ r. subst (λ l. AllByRecursion P (keys_of l)) (sym (put_step k v e es Less r)) (p, all))
    (λ r. subst (λ l. AllByRecursion P (keys_of l)) (sym (put_step k v e es Equal r)) all)
    (λ r. subst (λ l. AllByRecursion P (keys_of l)) (sym (put_step k v e es Greater r)) (all.0, all_put P k v es p all.1))

all_below : (k m : NameParts) (ks : List NameParts) → name_order k m ≡ Less → AllByRecursion (λ y. name_order m y ≡ Less) ks → AllByRecursion (λ y. name_order k y ≡ Less) ks
all_below k m [] less all = tt
all_below k m (x ∷ ks) less all = (names_total.trans k m x less all.0, all_below k m ks less all.1)

pub ordered-put : {X : Type 0} (k : NameParts) (v : X) (es : List (NameParts × X)) → AreOrdered es → AreOrdered (insert_entry name_order es k v)
unfolding IsStrictlySortedBy
ordered-put k v [] ordered = (tt, tt)
ordered-put k v (e ∷ es) ordered = by_ordering (name_order k e.0)
    (λ r. subst AreOrdered (sym (put_step k v e es Less r)) ((r, all_below k e.0 (keys_of es) r ordered.0), ordered))
    (λ r. subst AreOrdered (sym (put_step k v e es Equal r)) ordered)
    (λ r. subst AreOrdered (sym (put_step k v e es Greater r)) (all_put (λ y. name_order e.0 y ≡ Less) k v es (names_total.antisymm e.0 k ∙ ap ordering_reverse r) ordered.0, ordered-put k v es ordered.1))

all_take : {X : Type 0} (P : NameParts → Type 0) (test : NameParts → Bool) (es : List (NameParts × X)) → AllByRecursion P (keys_of es) → AllByRecursion P (keys_of (remove_entry test es))
all_take P test [] all = tt
all_take P test (e ∷ es) all = by_bool (test e.0)
    (λ is. subst (λ (b : Bool). AllByRecursion P (keys_of (cond b es (e ∷ remove_entry test es)))) (sym is) all.1)
    (λ is. subst (λ (b : Bool). AllByRecursion P (keys_of (cond b es (e ∷ remove_entry test es)))) (sym is) (all.0, all_take P test es all.1))

pub ordered-take : {X : Type 0} (test : NameParts → Bool) (es : List (NameParts × X)) → AreOrdered es → AreOrdered (remove_entry test es)
unfolding IsStrictlySortedBy
ordered-take test [] ordered = tt
ordered-take test (e ∷ es) ordered = by_bool (test e.0)
    (λ is. subst (λ (b : Bool). AreOrdered (cond b es (e ∷ remove_entry test es))) (sym is) ordered.1)
    (λ is. subst (λ (b : Bool). AreOrdered (cond b es (e ∷ remove_entry test es))) (sym is) (all_take (λ y. name_order e.0 y ≡ Less) test es ordered.0, ordered-take test es ordered.1))

all_filter : {X : Type 0} (P : NameParts → Type 0) (test : NameParts → Bool) (es : List (NameParts × X)) → AllByRecursion P (keys_of es) → AllByRecursion P (keys_of (filter (λ (p : NameParts × X). test p.0) es))
all_filter P test [] all = tt
all_filter {X} P test (e ∷ es) all = by_bool (test e.0)
    (λ is. subst (λ (b : Bool). AllByRecursion P (keys_of (cond b (e ∷ filter (λ (p : NameParts × X). test p.0) es) (filter (λ (p : NameParts × X). test p.0) es)))) (sym is) (all.0, all_filter P test es all.1))
    (λ is. subst (λ (b : Bool). AllByRecursion P (keys_of (cond b (e ∷ filter (λ (p : NameParts × X). test p.0) es) (filter (λ (p : NameParts × X). test p.0) es)))) (sym is) (all_filter P test es all.1))

pub ordered-filter : {X : Type 0} (test : NameParts → Bool) (es : List (NameParts × X)) → AreOrdered es → AreOrdered (filter (λ (p : NameParts × X). test p.0) es)
unfolding IsStrictlySortedBy
ordered-filter test [] ordered = tt
ordered-filter {X} test (e ∷ es) ordered = by_bool (test e.0)
    (λ is. subst (λ (b : Bool). AreOrdered (cond b (e ∷ filter (λ (p : NameParts × X). test p.0) es) (filter (λ (p : NameParts × X). test p.0) es))) (sym is) (all_filter (λ y. name_order e.0 y ≡ Less) test es ordered.0, ordered-filter test es ordered.1))
    (λ is. subst (λ (b : Bool). AreOrdered (cond b (e ∷ filter (λ (p : NameParts × X). test p.0) es) (filter (λ (p : NameParts × X). test p.0) es))) (sym is) (ordered-filter test es ordered.1))

-- the names of a filter pass its test
pub passes-filter : {X : Type 0} (test : NameParts → Bool) (es : List (NameParts × X)) → AllByRecursion (λ (k : NameParts). test k ≡ true) (keys_of (filter (λ (p : NameParts × X). test p.0) es))
passes-filter test [] = tt
passes-filter {X} test (e ∷ es) = by_bool (test e.0)
    (λ is. subst (λ (b : Bool). AllByRecursion (λ (k : NameParts). test k ≡ true) (keys_of (cond b (e ∷ filter (λ (p : NameParts × X). test p.0) es) (filter (λ (p : NameParts × X). test p.0) es)))) (sym is) (is, passes-filter test es))
    (λ is. subst (λ (b : Bool). AllByRecursion (λ (k : NameParts). test k ≡ true) (keys_of (cond b (e ∷ filter (λ (p : NameParts × X). test p.0) es) (filter (λ (p : NameParts × X). test p.0) es)))) (sym is) (passes-filter test es))

-- the value at a name that passes the test
pub at_name-filter : {X : Type 0} (test : NameParts → Bool) (n : NameParts) (es : List (NameParts × X)) → test n ≡ true → at_name (filter (λ (p : NameParts × X). test p.0) es) n ≡ at_name es n
at_name-filter test n es is = lookup-filter-keys (is_at (name_order n)) test true (λ k at. ap test (sym ((same_name n k).0 at)) ∙ is) es

-- ---- a change at the index that a search found

pub set_put : {X : Type 0} (es : List (NameParts × X)) (k : NameParts) (v : X) (i : ℕ) → i < length es → IsAbove es k i → ((d : NameParts × X) → (get_or es i d).0 ≡ k) → set es i (k, v) ≡ insert_entry name_order es k v
set_put [] k v i within above at = absurd (omega arith)
set_put (e ∷ es) k v zero within above at = sym (put_step k v e es Equal (ap (name_order k) (at e) ∙ equal_only (name_order k k) ((same_name k k).1 refl)) ∙ ap (λ (m : NameParts). (m, v) ∷ es) (at e))
set_put (e ∷ es) k v (suc i) within above at =
    ap (λ l. e ∷ l) (set_put es k v i (omega arith) (λ j d less. above (suc j) d (omega arith)) (λ d. at d))
    ∙ sym (put_step k v e es Greater (above 0 e (omega arith)))

pub insert_put : {X : Type 0} (es : List (NameParts × X)) (k : NameParts) (v : X) (i : ℕ) → i ≤ length es → IsAbove es k i → IsBelow es k i → insert es i (k, v) ≡ insert_entry name_order es k v
insert_put [] k v zero within above below = refl
insert_put [] k v (suc i) within above below = absurd (omega arith)
insert_put (e ∷ es) k v zero within above below = sym (put_step k v e es Less (below 0 e (omega arith) (omega arith)))
insert_put (e ∷ es) k v (suc i) within above below =
    ap (λ l. e ∷ l) (insert_put es k v i (omega arith) (λ j d less. above (suc j) d (omega arith)) (λ j d from less. below (suc j) d (omega arith) (omega arith)))
    ∙ sym (put_step k v e es Greater (above 0 e (omega arith)))

pub remove_take : {X : Type 0} (es : List (NameParts × X)) (k : NameParts) (i : ℕ) → i < length es → IsAbove es k i → ((d : NameParts × X) → (get_or es i d).0 ≡ k) → remove es i ≡ remove_entry (is_at (name_order k)) es
remove_take [] k i within above at = absurd (omega arith)
remove_take (e ∷ es) k zero within above at = sym (ap (λ (b : Bool). cond b es (e ∷ remove_entry (is_at (name_order k)) es)) ((same_name k e.0).1 (sym (at e))))
remove_take (e ∷ es) k (suc i) within above at =
    ap (λ l. e ∷ l) (remove_take es k i (omega arith) (λ j d less. above (suc j) d (omega arith)) (λ d. at d))
    ∙ sym (ap (λ (b : Bool). cond b es (e ∷ remove_entry (is_at (name_order k)) es)) (ap is_eq (above 0 e (omega arith))))

pub at_found : {X : Type 0} (es : List (NameParts × X)) (k : NameParts) (i : ℕ) (d : NameParts × X) → i < length es → IsAbove es k i → (get_or es i d).0 ≡ k → at_name es k ≡ Some (get_or es i d).1
at_found [] k i d within above at = absurd (omega arith)
at_found (e ∷ es) k zero d within above at = at_head k e.0 e.1 es (sym at)
at_found (e ∷ es) k (suc i) d within above at =
    at_tail k e.0 e.1 es (greater_apart k e.0 (above 0 e (omega arith)))
    ∙ at_found es k i d (omega arith) (λ j d less. above (suc j) d (omega arith)) at

pub at_missed : {X : Type 0} (es : List (NameParts × X)) (k : NameParts) (i : ℕ) → IsAbove es k i → IsBelow es k i → at_name es k ≡ None
at_missed [] k i above below = refl
at_missed (e ∷ es) k zero above below = at_tail k e.0 e.1 es (less_apart k e.0 (below 0 e (omega arith) (omega arith))) ∙ at_missed es k zero (λ j d less. absurd (omega arith)) (λ j d from less. below (suc j) d (omega arith) (omega arith))
at_missed (e ∷ es) k (suc i) above below =
    at_tail k e.0 e.1 es (greater_apart k e.0 (above 0 e (omega arith)))
    ∙ at_missed es k i (λ j d less. above (suc j) d (omega arith)) (λ j d from less. below (suc j) d (omega arith) (omega arith))

-- ---- a search

head_below : {X : Type 0} (k : NameParts) (es : List (NameParts × X)) (i : ℕ) (d : NameParts × X) → i < length es → AllByRecursion (λ y. name_order k y ≡ Less) (keys_of es) → name_order k (get_or es i d).0 ≡ Less
head_below k [] i d within all = absurd (omega arith)
head_below k (e ∷ es) zero d within all = all.0
head_below k (e ∷ es) (suc i) d within all = head_below k es i d (omega arith) all.1

-- an earlier name is less than a later one
pub ordered_at : {X : Type 0} (es : List (NameParts × X)) (i j : ℕ) (d : NameParts × X) → AreOrdered es → i < j → j < length es → name_order (get_or es i d).0 (get_or es j d).0 ≡ Less
unfolding IsStrictlySortedBy
ordered_at [] i j d ordered less within = absurd (omega arith)
ordered_at (e ∷ es) zero zero d ordered less within = absurd (omega arith)
ordered_at (e ∷ es) zero (suc j) d ordered less within = head_below e.0 es j d (omega arith) ordered.0
ordered_at (e ∷ es) (suc i) zero d ordered less within = absurd (omega arith)
ordered_at (e ∷ es) (suc i) (suc j) d ordered less within = ordered_at es i j d ordered.1 (omega arith) (omega arith)

swapped : (a b : NameParts) → name_order a b ≡ Less → name_order b a ≡ Greater
swapped a b less = names_total.antisymm b a ∙ ap ordering_reverse less

-- a name that is less than an entry is less than all after it
pub below_more : {X : Type 0} (es : List (NameParts × X)) (k : NameParts) (i : ℕ) (x : NameParts × X) → AreOrdered es → i < length es → name_order k (get_or es i x).0 ≡ Less → IsBelow es k i
below_more {X} es k i x ordered within below j d from less =
    let here : name_order k (get_or es i d).0 ≡ Less = ap (λ (p : NameParts × X). name_order k p.0) (get_or_default es i d x within) ∙ below in
    elim (cases_eq j i) [
      | inl same ↦ subst (λ (m : ℕ). name_order k (get_or es m d).0 ≡ Less) (sym same) here
      | inr apart ↦ names_total.trans k (get_or es i d).0 (get_or es j d).0 here (ordered_at es i j d ordered (omega arith) less)
    ]

pub found_some : {X : Type 0} (es : List (NameParts × X)) (k : NameParts) (i : ℕ) → IsFoundAt es k i → is_some (at_name es k) ≡ true
found_some [] k i f = absurd (let within = f.within in omega (arith, within))
found_some (e ∷ es) k i f = ap is_some (at_found (e ∷ es) k i e f.within f.above (f.at e))

pub missed_none : {X : Type 0} (es : List (NameParts × X)) (k : NameParts) (i : ℕ) → IsGapAt es k i → is_some (at_name es k) ≡ false
missed_none es k i f = ap is_some (at_missed es k i f.above f.below)

pub ordered-map : {X Y : Type 0} (f : NameParts → X → Y) (es : List (NameParts × X)) → AreOrdered es → AreOrdered (map (λ (p : NameParts × X). (p.0, f p.0 p.1)) es)
ordered-map f es ordered = subst (λ (ks : List NameParts). IsStrictlySortedBy name_order ks) (sym (keys_of-map f es)) ordered

-- ---- what a binary search returns

pub rising : {X : Type 0} (es : List (NameParts × X)) (k : NameParts) → AreOrdered es → IsNonDecreasingBy (λ (e : NameParts × X). ordering_index (name_order e.0 k)) es
rising {X} es k ordered i j d upto within = elim (cases_eq i j) [
  | inl same ↦ subst (λ (m : ℕ). ordering_index (name_order (get_or es i d).0 k) ≤ ordering_index (name_order (get_or es m d).0 k)) same (omega arith)
  | inr apart ↦ index_le (get_or es i d).0 (get_or es j d).0 k _ _ refl refl (ordered_at es i j d ordered (omega arith) within)
]

pub found_at : {X : Type 0} (es : List (NameParts × X)) (k : NameParts) (i : ℕ) → AreOrdered es → i < length es → ((d : NameParts × X) → name_order (get_or es i d).0 k ≡ Equal) → IsFoundAt es k i
found_at {X} es k i ordered within equal = record {
  within = within;
  above = λ j d less. swapped (get_or es j d).0 k (ap (λ (m : NameParts). name_order (get_or es j d).0 m) (sym (at d)) ∙ ordered_at es j i d ordered less within);
  at = at;
}
  where
    at : (d : NameParts × X) → (get_or es i d).0 ≡ k
    at d = sym (sym (exact_names (get_or es i d).0 k (equal d)))

greater_back : (a b : NameParts) → name_order a b ≡ Greater → name_order b a ≡ Less
greater_back a b greater = names_total.antisymm b a ∙ ap ordering_reverse greater

pub gap_at : {X : Type 0} (es : List (NameParts × X)) (k : NameParts) (i : ℕ) → i ≤ length es
    → IsPartitionPoint (λ (e : NameParts × X). name_order e.0 k ≡ Less) (λ (e : NameParts × X). name_order e.0 k ≡ Greater) es i → IsGapAt es k i
gap_at es k i within parts = record {
  within = within;
  above = λ j d less. swapped (get_or es j d).0 k (parts.0 j d (omega arith) less);
  below = λ j d from less. greater_back (get_or es j d).0 k (parts.1 j d from less);
}

pub found_if : {X : Type 0} (es : List (NameParts × X)) (k : NameParts) (r : Result ℕ ℕ) → AreOrdered es → IsSearchInRange r (length es) → IsBinarySearchResult (λ (e : NameParts × X). name_order e.0 k) es r → IfOk r (IsFoundAt es k)
found_if es k (Ok i) ordered bound at = found_at es k i ordered bound at
found_if es k (Err i) ordered bound at = tt

pub gap_if : {X : Type 0} (es : List (NameParts × X)) (k : NameParts) (r : Result ℕ ℕ) → AreOrdered es → IsSearchInRange r (length es) → IsBinarySearchResult (λ (e : NameParts × X). name_order e.0 k) es r → IfErr r (IsGapAt es k)
gap_if es k (Ok i) ordered bound at = tt
gap_if es k (Err i) ordered bound at = gap_at es k i bound (at (rising es k ordered))

pub start_found : {X : Type 0} (es : List (NameParts × X)) (k : NameParts) (i : ℕ) → AreOrdered es → IsFoundAt es k i → IsStartAt es k i
start_found {X} es k i ordered f = record {
  within = (let within = f.within in omega (arith, within));
  above = f.above;
  later = later;
}
  where
    later : (j : ℕ) (d : NameParts × X) → i ≤ j → j < length es → is_gt (name_order k (get_or es j d).0) ≡ false
    later j d from less = elim (cases_eq j i) [
      | inl same ↦ subst (λ (m : NameParts). is_gt (name_order k m) ≡ false) (sym (f.at d) ∙ ap (λ (n : ℕ). (get_or es n d).0) (sym same)) (ap is_gt (tied_itself names_total k))
      | inr apart ↦ subst (λ (m : NameParts). is_gt (name_order m (get_or es j d).0) ≡ false) (f.at d) (ap is_gt (ordered_at es i j d ordered (omega arith) less))
    ]

-- taking an absent name out changes nothing
pub take_missed : {X : Type 0} (es : List (NameParts × X)) (k : NameParts) (i : ℕ) → IsAbove es k i → IsBelow es k i → es ≡ remove_entry (is_at (name_order k)) es
take_missed [] k i above below = refl
take_missed (e ∷ es) k zero above below =
    ap (λ l. e ∷ l) (take_missed es k zero (λ j d less. absurd (omega arith)) (λ j d from less. below (suc j) d (omega arith) (omega arith)))
    ∙ sym (ap (λ (b : Bool). cond b es (e ∷ remove_entry (is_at (name_order k)) es)) (ap is_eq (below 0 e (omega arith) (omega arith))))
take_missed (e ∷ es) k (suc i) above below =
    ap (λ l. e ∷ l) (take_missed es k i (λ j d less. above (suc j) d (omega arith)) (λ j d from less. below (suc j) d (omega arith) (omega arith)))
    ∙ sym (ap (λ (b : Bool). cond b es (e ∷ remove_entry (is_at (name_order k)) es)) (ap is_eq (above 0 e (omega arith))))

-- what holds of all holds at each index
pub index_of_all : {X : Type 0} (P : X → Type 0) (xs : List X) (k : ℕ) (d : X) → AllByRecursion P xs → k < length xs → P (get_or xs k d)
index_of_all P [] k d all less = absurd (omega arith)
index_of_all P (x ∷ xs) zero d all less = all.0
index_of_all P (x ∷ xs) (suc k) d all less = index_of_all P xs k d all.1 (omega arith)

-- ---- lengths

pub length-put_le : {X : Type 0} (es : List (NameParts × X)) (k : NameParts) (v : X) → length (insert_entry name_order es k v) ≤ length es + 1
length-put_le [] k v = omega arith
length-put_le (e ∷ es) k v = by_ordering (name_order k e.0)
    (λ r. let l = ap length (put_step k v e es _ r) in omega (arith, l))
    (λ r. let l = ap length (put_step k v e es _ r) in omega (arith, l))
    (λ r. let l = ap length (put_step k v e es _ r) in let rest = length-put_le es k v in omega (arith, l, rest))

pub length-put_held : {X : Type 0} (es : List (NameParts × X)) (k : NameParts) (v : X) → AreOrdered es → is_some (at_name es k) ≡ true → length (insert_entry name_order es k v) ≡ length es
unfolding IsStrictlySortedBy
length-put_held [] k v ordered some = absurd (true≢false (sym some))
length-put_held (e ∷ es) k v ordered some = by_ordering (name_order k e.0)
    (λ r. absurd (true≢false (sym some ∙ ap is_some (at_missed (e ∷ es) k 0 (λ j d less. absurd (omega arith)) (below_more (e ∷ es) k 0 e ordered (omega arith) r)))))
    (λ r. ap length (put_step k v e es _ r))
    (λ r. ap length (put_step k v e es _ r) ∙ ap suc (length-put_held es k v ordered.1
    (sym (ap (λ (b : Bool). is_some (cond b (Some e.1) (at_name es k))) (ap is_eq r)) ∙ some)))

pub length-take_le : {X : Type 0} (es : List (NameParts × X)) (test : NameParts → Bool) → length (remove_entry test es) ≤ length es
length-take_le [] test = omega arith
length-take_le (e ∷ es) test = by_bool (test e.0)
    (λ is. let l = ap (λ (b : Bool). length (cond b es (e ∷ remove_entry test es))) is in omega (arith, l))
    (λ is. let l = ap (λ (b : Bool). length (cond b es (e ∷ remove_entry test es))) is in let rest = length-take_le es test in omega (arith, l, rest))

-- ---- a name's part

unit_option : (o : Option Place) → option_map (λ (p : Place). p.unit) o ≡ unit_of o
unit_option None = refl
unit_option (Some p) = refl

-- the part has the units that the places have
pub units_at : (root : NameParts) (ps : Places) (n : NameParts) → is_within root n ≡ true → at_name (units_in root ps) n ≡ unit_of (at_name ps n)
units_at root ps n within =
    at_name-map (λ (k : NameParts) (p : Place). p.unit) n (part_in root ps)
    ∙ unit_option (at_name (part_in root ps) n)
    ∙ ap unit_of (at_name-filter (is_within root) n ps within)

-- ---- a change

ordered-placed : (ps : Places) (c : Change) (revision : ℕ) → AreOrdered ps → AreOrdered (placed ps c revision)
ordered-placed ps (Types t) revision ordered = ordered
ordered-placed ps (Put m u) revision ordered = ordered-put m (written u revision) ps ordered
ordered-placed ps (Remove m) revision ordered = ordered-take (is_at (name_order m)) ps ordered
ordered-placed ps (Answer m o) revision ordered = ordered
ordered-placed ps (Answers rows) revision ordered = ordered
ordered-placed ps Nothing revision ordered = ordered

pub ordered-changed : (s : ShelfView) (c : Change) (revision : ℕ) → AreOrdered s.places → AreOrdered (changed s c revision).places
ordered-changed s c revision ordered = ordered-map (mark c) (placed s.places c revision) (ordered-placed s.places c revision ordered)

-- at each name the place stays, or is gone, or is new, with this revision; then the change makes the name's answer void
abbrev pub Placing : Places → Places → NameParts → Change → ℕ → Type 0
Placing ps qs n c revision =
    (at_name qs n ≡ at_name ps n)
    ⊎ ((at_name qs n ≡ None)
    ⊎ ((p : Place) × (at_name qs n ≡ Some p) × (voids c n ≡ true) × (p.revision ≡ revision)))

pub placing : (ps : Places) (n : NameParts) (c : Change) (revision : ℕ) → AreOrdered ps → Placing ps (placed ps c revision) n c revision
placing ps n (Types t) revision ordered = inl refl
placing ps n (Put m u) revision ordered = by_bool (is_same_name m n)
    (λ same. inr (inr (written u revision, at_name-put m (written u revision) n ps ∙ ap (λ (x : Bool). cond x (Some (written u revision)) (at_name ps n)) same, ap (is_within n) ((name m n).0 same) ∙ within_self n, refl)))
    (λ apart. inl (at_name-put m (written u revision) n ps ∙ ap (λ (x : Bool). cond x (Some (written u revision)) (at_name ps n)) apart))
placing ps n (Remove m) revision ordered = by_bool (is_same_name m n)
    (λ same. inr (inl (at_name-take m n ps ordered ∙ ap (λ (x : Bool). cond x None (at_name ps n)) same)))
    (λ apart. inl (at_name-take m n ps ordered ∙ ap (λ (x : Bool). cond x None (at_name ps n)) apart))
placing ps n (Answer m o) revision ordered = inl refl
placing ps n (Answers rows) revision ordered = inl refl
placing ps n Nothing revision ordered = inl refl
