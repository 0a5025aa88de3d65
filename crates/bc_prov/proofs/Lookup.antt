-- What a search by name finds in a list whose names ascend.
use Rattle.std.proofs.Common.{◌≡◌, ◌≢◌, ℕ, zero, suc, ◌<◌, ◌≤◌, Bool, true, false, List, [], ◌∷◌, length, get_or, refl, sym, ◌∙◌, cond, subst, arith, Some, None, ◌⊎◌, inl, inr}
use Rattle.std.specs.Ordering.{is_eq, ordering_index}
use Rattle.std.specs.List.{AllByRecursion, AllWithin}
use Rattle.std.specs.List.Sorted.{IsStrictlySortedBy, IsNonDecreasingBy, IsPartitionPoint}
use Rattle.std.specs.Map.{keys_of}
use Rattle.std.specs.BTreeMap.{is_at}
use Rattle.std.specs.Cmp.{eq_by_cmp_equiv}
use Rattle.std.specs.declared.cmp.Ordering.{Ordering}
use Rattle.std.specs.declared.cmp.Ordering.TheVariants.{Less, Equal, Greater}
use Rattle.std.proofs.lemmas.Bool.{cases_lt}
use Rattle.std.proofs.lemmas.Cmp.{tied_itself, alike_right}
use Rattle.std.proofs.lemmas.Option.{slice_get-get_or}
use Rattle.std.proofs.lemmas.Map.Entries.{lookup_tail, lookup_from_place}
use Rattle.std.proofs.lemmas.Map.Keys.{sorted_head, sorted_tail, IsDistinct-from_sorted}
use Rattle.bc_syntax.specs.declared.syntax.Body.{Body}
use Rattle.bc_names.specs.Names.{NameParts, name_order}
use Rattle.bc_names.proofs.Equality.{exact_names, names_total}
use Rattle.bc_prov.specs.State.{AreSuited, Suits, at_name}

-- if x comes before y, then x compares to n no higher than y does
pub index_le : (x y n : NameParts) (a b : Ordering) → name_order x n ≡ a → name_order y n ≡ b → name_order x y ≡ Less → ordering_index a ≤ ordering_index b
index_le x y n Less b xn yn xy = omega arith
index_le x y n Equal Less xn yn xy = absurd (let e = names_total.trans x y n xy yn in cc)
index_le x y n Equal Equal xn yn xy = omega arith
index_le x y n Equal Greater xn yn xy = omega arith
index_le x y n Greater Less xn yn xy = absurd (let e = names_total.trans x y n xy yn in cc)
index_le x y n Greater Equal xn yn xy = absurd (let e = alike_right names_total y n x yn in cc)
index_le x y n Greater Greater xn yn xy = omega arith

pub equal_only : (o : Ordering) → is_eq o ≡ true → o ≡ Equal
equal_only Less e = absurd cc
equal_only Equal e = refl
equal_only Greater e = absurd cc

-- nothing but the name itself is found at a name
pub at_itself : (n name : NameParts) → is_at (name_order n) name ≡ true → n ≡ name
at_itself n name at = exact_names n name (equal_only (name_order n name) at)

not_at : (x n : NameParts) → name_order x n ≢ Equal → is_at (name_order n) x ≡ false
not_at x n apart = by_cases (is_at (name_order n) x) refl
  where
    by_cases : (b : Bool) → is_at (name_order n) x ≡ b → b ≡ false
    by_cases true e = absurd (apart (subst (λ m. name_order x m ≡ Equal) (sym (at_itself n x e)) (tied_itself names_total x)))
    by_cases false e = refl

module _ {V : Type 0} where
  later : (P : NameParts → Type 0) (entries : List (NameParts × V)) (i : ℕ) (d : NameParts × V) → AllByRecursion P (keys_of entries) → i < length entries → P (get_or entries i d).0
  later P [] i d h within = absurd (omega (arith, within))
  later P (u ∷ us) zero d h within = h.0
  later P (u ∷ us) (suc i) d h within = later P us i d h.1 (omega (arith, within))

  rising : (entries : List (NameParts × V)) (n : NameParts) → IsStrictlySortedBy name_order (keys_of entries) → (i j : ℕ) (d : NameParts × V) → i ≤ j → j < length entries
      → ordering_index (name_order (get_or entries i d).0 n) ≤ ordering_index (name_order (get_or entries j d).0 n)
  rising [] n h i j d upto within = absurd (omega (arith, within))
  rising (u ∷ us) n h zero zero d upto within = omega arith
  rising (u ∷ us) n h zero (suc j) d upto within =
      index_le u.0 (get_or us j d).0 n _ _ refl refl (later (λ m. name_order u.0 m ≡ Less) us j d (sorted_head name_order u.0 (keys_of us) h) (omega (arith, within)))
  rising (u ∷ us) n h (suc i) zero d upto within = absurd (omega (arith, upto))
  rising (u ∷ us) n h (suc i) (suc j) d upto within = rising us n (sorted_tail name_order u.0 (keys_of us) h) i j d (omega (arith, upto)) (omega (arith, within))

  -- a search that ends at an entry of this name finds that entry
  pub found : (entries : List (NameParts × V)) (n : NameParts) (i : ℕ) (d : NameParts × V) → IsStrictlySortedBy name_order (keys_of entries) → i < length entries → name_order (get_or entries i d).0 n ≡ Equal
      → at_name entries n ≡ Some (get_or entries i d).1
  found entries n i d sorted within is =
      subst (λ (m : NameParts). at_name entries m ≡ Some (get_or entries i d).1) (exact_names (get_or entries i d).0 n is)
      (lookup_from_place (eq_by_cmp_equiv names_total) entries i (get_or entries i d).0 (get_or entries i d).1 (IsDistinct-from_sorted name_order (keys_of entries) sorted) (slice_get-get_or entries i d within))

  none_found : (entries : List (NameParts × V)) (n : NameParts) → ((i : ℕ) (d : NameParts × V) → i < length entries → name_order (get_or entries i d).0 n ≢ Equal) → at_name entries n ≡ None
  none_found [] n apart = refl
  none_found (u ∷ us) n apart =
      lookup_tail (is_at (name_order n)) u us (not_at u.0 n (apart zero u (omega arith)))
      ∙ none_found us n (λ i d within. apart (suc i) d (omega (arith, within)))

  -- a search that ends between the names before this one and those after it finds nothing
  pub none_at : (entries : List (NameParts × V)) (n : NameParts) (i : ℕ) → IsStrictlySortedBy name_order (keys_of entries)
      → (IsNonDecreasingBy (λ (u : NameParts × V). ordering_index (name_order u.0 n)) entries → IsPartitionPoint (λ (u : NameParts × V). name_order u.0 n ≡ Less) (λ (u : NameParts × V). name_order u.0 n ≡ Greater) entries i)
      → at_name entries n ≡ None
  none_at entries n i sorted parts =
      let there = parts (rising entries n sorted) in
      none_found entries n (λ k d within is. by_cases k d within is there.0 there.1 (cases_lt k i))
    where
      by_cases : (k : ℕ) (d : NameParts × V) → k < length entries → name_order (get_or entries k d).0 n ≡ Equal → AllWithin (λ (u : NameParts × V). name_order u.0 n ≡ Less) entries 0 i → AllWithin (λ (u : NameParts × V). name_order u.0 n ≡ Greater) entries i (length entries)
          → (k < i) ⊎ (i ≤ k) → ⊥
      by_cases k d within is low high (inl before) = let e = low k d (omega arith) before in absurd (cc)
      by_cases k d within is low high (inr behind) = let e = high k d behind within in absurd (cc)

-- what holds at each index holds of all
pub all_by_index : {X : Type 0} (P : X → Type 0) (xs : List X) → ((k : ℕ) (d : X) → k < length xs → P (get_or xs k d)) → AllByRecursion P xs
all_by_index P [] f = tt
all_by_index P (x ∷ xs) f = (f 0 x (omega arith), all_by_index P xs (λ k d less. f (suc k) d (omega arith)))

-- if all bodies of a list suit their names, then each body that is found by its name does
pub all_suited : (units : List (NameParts × Body)) → AllByRecursion (λ (u : NameParts × Body). Suits u.1 u.0) units → AreSuited (at_name units)
all_suited [] h n body held = absurd cc
all_suited (u ∷ us) h n body held = by_cases (is_at (name_order n) u.0) refl held (λ is. all_suited us h.1 n body is)
  where
    by_cases : (b : Bool) → is_at (name_order n) u.0 ≡ b → cond b (Some u.1) (at_name us n) ≡ Some body → (at_name us n ≡ Some body → Suits body n) → Suits body n
    by_cases true e is rest =
        let same : u.1 ≡ body = cc in
        subst (λ (p : Body × NameParts). Suits p.0 p.1) (λ i. (same i, sym (at_itself n u.0 e) i)) h.0
    by_cases false e is rest = rest is
