-- Pairs of regions in a table of bits.
use Rattle.std.proofs.Common.{◌≡◌, ℕ, zero, suc, ◌+◌, ◌<◌, Bool, cond, ◌||◌, List, [], ◌∷◌, ◌++◌, length, take, get_or, map, refl, sym, ap, subst, ◌∙◌, arith}
use Rattle.std.specs.List.{flat_map, range_with_len}
use Rattle.std.proofs.lemmas.List.{map-append}
use Rattle.std.proofs.lemmas.List.Folds.{list_any_more}
use Rattle.bc_flow.specs.Flow.{holds, HaveSize}
use Rattle.bc_syntax.specs.declared.syntax.Region.TheVariants.{Universal}
use Rattle.bc_types.specs.declared.subtype.Constraint.{Constraint}
use Rattle.bc_types.specs.RegionPairs.{AreMarked, IsMarked}
use Rattle.bc_types.specs.Subtype.{outlives}
use Rattle.bc_types.specs.WellFormed.{is_demanded, is_pair, pair_where, row_where, pairs_where}

-- mapping lists that were made of elements maps the list of each
pub map-flat_map : {A B C : Type 0} (f : B → C) (g : A → List B) (xs : List A) → map f (flat_map g xs) ≡ flat_map (λ x. map f (g x)) xs
map-flat_map f g [] = refl
map-flat_map f g (x ∷ xs) = map-append f (g x) (flat_map g xs) ∙ ap (λ ys. map f (g x) ++ ys) (map-flat_map f g xs)

-- what a loop has appended whose turns append such lists
pub all-turns : {B C : Type 0} (f : B → C) (g : ℕ → List B) (old items : List C) (count n : ℕ) → n ≡ count → items ≡ old ++ flat_map (λ k. map f (g k)) (range_with_len 0 n) → items ≡ old ++ map f (flat_map g (range_with_len 0 count))
all-turns f g old items count n whole is =
    is ∙ ap (λ m. old ++ flat_map (λ k. map f (g k)) (range_with_len 0 m)) whole
    ∙ ap (λ xs. old ++ xs) (sym (map-flat_map f g (range_with_len 0 count)))

-- lists for the numbers of a range are equal if the lists for each number are
flat_map-same : {A : Type 0} (f g : ℕ → List A) (first count : ℕ) → ((n : ℕ) → n < first + count → f n ≡ g n) → flat_map f (range_with_len first count) ≡ flat_map g (range_with_len first count)
flat_map-same f g first zero same = refl
flat_map-same f g first (suc count) same =
    ap (λ xs. xs ++ flat_map f (range_with_len (first + 1) count)) (same first (omega arith))
    ∙ ap (λ xs. g first ++ xs) (flat_map-same f g (first + 1) count (λ n below. same n (omega (arith, below))))

-- tests that agree on the first regions have the same pairs
pub pairs-same : (p q : ℕ → ℕ → Bool) (count : ℕ) → ((longer shorter : ℕ) → longer < count → shorter < count → p longer shorter ≡ q longer shorter) → pairs_where p count ≡ pairs_where q count
pairs-same p q count same =
    flat_map-same (row_where p count) (row_where q count) 0 count (λ longer below.
    flat_map-same (pair_where p longer) (pair_where q longer) 0 count (λ shorter within.
    ap (λ b. cond b (outlives (Universal longer) (Universal shorter) ∷ []) []) (same longer shorter (omega (arith, below)) (omega (arith, within)))))

-- the table of pairs holds those that are among them
pub marked-pairs : (count : ℕ) (pairs : List Constraint) (table : List (List Bool)) → AreMarked count pairs table → pairs_where (holds table) (length table) ≡ pairs_where (is_demanded pairs) count
marked-pairs count pairs table are =
    ap (pairs_where (holds table)) are.count ∙ pairs-same (holds table) (is_demanded pairs) count are.bits

-- the table with the bits of the first pairs, and that of one more
pub marked-more : (count : ℕ) (pairs : List Constraint) (i : ℕ) (d : Constraint) (old new : List (List Bool)) → i < length pairs → AreMarked count (take i pairs) old → IsMarked old new (get_or pairs i d) → AreMarked count (take (i + 1) pairs) new
marked-more count pairs i d old new below are one = record {
  count = one.count ∙ are.count;
  size = subst (λ n. HaveSize n new) are.count one.size;
  bits = λ longer shorter first second.
      one.bits longer shorter (subst (λ n. longer < n) (sym are.count) first) (subst (λ n. shorter < n) (sym are.count) second)
      ∙ ap (λ b. b || is_pair longer shorter (get_or pairs i d)) (are.bits longer shorter first second)
      ∙ sym (list_any_more (is_pair longer shorter) pairs i d below);
}
