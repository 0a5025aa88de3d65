-- The number of a declared region and its name determine each other.
use Rattle.std.proofs.Common.{◌≡◌, ℕ, zero, suc, ◌+◌, ◌≤◌, ◌<◌, Bool, true, false, ltb, List, [], ◌∷◌, ◌++◌, length, map, Option, Some, None, refl, sym, ap, ◌∙◌, subst, inl, inr, append_assoc, arith}
use Rattle.std.specs.Prelude.{codes, get_or}
use Rattle.std.specs.List.{position_from, list_any}
use Rattle.std.specs.Option.{option_map}
use Rattle.std.specs.Str.{bytes_eq}
use Rattle.std.proofs.lemmas.Bool.{cases_Bool, and_parts, leb-true, ltb-true, lt-ltb, not-true}
use Rattle.std.proofs.lemmas.Slice.Eq.{bytes_eq-Decides}
use Rattle.bc_syntax.specs.declared.syntax.RegionName.{RegionName}
use Rattle.bc_syntax.specs.Fits.{is_new, are_new}
use Rattle.bc_syntax.proofs.Keywords.{is_text}
use Rattle.bc_syntax.specs.Universals.{universal_names}
use Rattle.bc_text.specs.Universals.{number_of}

same_text : (xs : List ℕ) → bytes_eq xs xs ≡ true
same_text xs = (bytes_eq-Decides xs xs).1 refl

-- a declared region has this name
abbrev named : List ℕ → RegionName → Bool
named name other = bytes_eq other.bytes name

abbrev bytes_of : RegionName → List ℕ
bytes_of other = other.bytes

-- ---- from the name to the number

found_at : (regions : List RegionName) (name : List ℕ) (i k : ℕ) → position_from (named name) i regions ≡ Some k → (j : ℕ) × (k ≡ i + j) × (j < length regions) × (get_or (map bytes_of regions) j [] ≡ name)
found_at [] name i k e = absurd cc
found_at (r ∷ regions) name i k e =
    elim (cases_Bool (named name r)) [
      | inl here ↦ let at : Some i ≡ Some k = rw here at e in let is : i ≡ k = cc in (0, omega (arith, is), omega arith, is_text r.bytes name here)
      | inr gone ↦
          let later : position_from (named name) (i + 1) regions ≡ Some k = rw gone at e in
          let found = found_at regions name (i + 1) k later in
          (suc found.0, omega (arith, found.1), omega (arith, found.2), found.3)
    ]

next_is : (o : Option ℕ) (k : ℕ) → option_map (λ position. position + 1) o ≡ Some k → (j : ℕ) × (o ≡ Some j) × (k ≡ suc j)
next_is None k e = absurd cc
next_is (Some j) k e = let is : j + 1 ≡ k = cc in (j, refl, omega (arith, is))

pub number_found : (regions : List RegionName) (name : List ℕ) (k : ℕ) → number_of regions name ≡ Some k → (get_or (universal_names regions) k [] ≡ name) × (ltb k (length regions + 1) ≡ true)
unfolding number_of
number_found regions name k e =
    elim (cases_Bool (bytes_eq name (codes "static"))) [
      | inl first ↦
          let at : Some 0 ≡ Some k = rw first at e in
          let zero_is : 0 ≡ k = cc in
          (subst (λ n. get_or (universal_names regions) n [] ≡ name) zero_is (sym (is_text name (codes "static") first)), subst (λ n. ltb n (length regions + 1) ≡ true) zero_is (lt-ltb 0 (length regions + 1) (omega arith)))
      | inr other ↦
          let declared : option_map (λ position. position + 1) (position_from (named name) 0 regions) ≡ Some k = rw other at e in
          let behind = next_is (position_from (named name) 0 regions) k declared in
          let found = found_at regions name 0 behind.0 behind.1 in
          let same : behind.0 ≡ found.0 = omega (arith, found.1) in
          (subst (λ n. get_or (universal_names regions) n [] ≡ name) (sym (behind.2 ∙ ap suc same)) found.3, subst (λ n. ltb n (length regions + 1) ≡ true) (sym (behind.2 ∙ ap suc same)) (lt-ltb (suc found.0) (length regions + 1) (omega (arith, found.2))))
    ]

-- ---- from the number to the name

-- a name is found after names that differ from it
found_behind : (before : List RegionName) (r : RegionName) (after : List RegionName) (i : ℕ) → list_any (named r.bytes) before ≡ false → position_from (named r.bytes) i (before ++ r ∷ after) ≡ Some (i + length before)
found_behind [] r after i none = rw (same_text r.bytes) (ap Some (omega arith))
found_behind (b ∷ before) r after i none =
    elim (cases_Bool (named r.bytes b)) [
      | inl here ↦ let bad : true ≡ false = rw here at none in absurd cc
      | inr gone ↦
          let rest : list_any (named r.bytes) before ≡ false = rw gone at none in
          rw gone (found_behind before r after (i + 1) rest ∙ ap Some (omega arith))
    ]

-- what a new name is after others
pub record IsNew (before : List RegionName) (r : RegionName) : Type 0 where
  pub short : length r.bytes ≤ 16
  pub not_static : bytes_eq r.bytes (codes "static") ≡ false
  pub apart : list_any (named r.bytes) before ≡ false

pub new_is : (before : List RegionName) (r : RegionName) → is_new before r ≡ true → IsNew before r
new_is before r e =
    let a = and_parts _ _ e in
    let b = and_parts _ _ a.0 in
    let c = and_parts _ _ b.0 in
    record { short = leb-true (length r.bytes) 16 c.1; not_static = not-true _ b.1; apart = not-true _ a.1 }

length_after : (before : List RegionName) (r : RegionName) → length (before ++ r ∷ []) ≡ suc (length before)
length_after [] r = refl
length_after (b ∷ before) r = ap suc (length_after before r)

number_at : (before names : List RegionName) (j : ℕ) → are_new before names ≡ true → j < length names
    → (number_of (before ++ names) (get_or (map bytes_of names) j []) ≡ Some (suc (length before + j))) × (length (get_or (map bytes_of names) j []) ≤ 16)
unfolding number_of
number_at before [] j new below = absurd (omega arith)
number_at before (r ∷ names) zero new below =
    let parts = and_parts (is_new before r) (are_new (before ++ r ∷ []) names) new in
    let fresh = new_is before r parts.0 in
    (rw (fresh.not_static, found_behind before r names 0 fresh.apart) (ap Some (omega arith)), fresh.short)
number_at before (r ∷ names) (suc j) new below =
    let parts = and_parts (is_new before r) (are_new (before ++ r ∷ []) names) new in
    let more = number_at (before ++ r ∷ []) names j parts.1 (omega arith) in
    let list : (before ++ r ∷ []) ++ names ≡ before ++ r ∷ names = append_assoc before (r ∷ []) names in
    let name = get_or (map bytes_of names) j [] in
    let moved : number_of (before ++ r ∷ names) name ≡ Some (suc (length (before ++ r ∷ []) + j)) = subst (λ (l : List RegionName). number_of l name ≡ Some (suc (length (before ++ r ∷ []) + j))) list more.0 in
    (moved ∙ ap Some (omega (arith, length_after before r)), more.1)

pub number_again : (regions : List RegionName) (k : ℕ) → are_new [] regions ≡ true → ltb k (length regions + 1) ≡ true
    → (number_of regions (get_or (universal_names regions) k []) ≡ Some k) × (length (get_or (universal_names regions) k []) ≤ 16)
unfolding number_of
number_again regions zero new below = (refl, omega arith)
number_again regions (suc j) new below =
    let few = ltb-true (suc j) (length regions + 1) below in
    let at = number_at [] regions j new (omega (arith, few)) in
    let same : 0 + j ≡ j = omega arith in
    (at.0 ∙ ap (λ (i : ℕ). Some (suc i)) same, at.1)
