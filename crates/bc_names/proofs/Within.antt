-- Which names begin with which.
use Rattle.std.proofs.Common.{◌≡◌, ℕ, ◌<◌, Bool, true, false, true≢false, List, [], ◌∷◌, ◌++◌, length, take, drop, refl, sym, ap, ◌∙◌, subst, append_assoc, arith}
use Rattle.std.specs.Prelude.{◌&&◌, ◌==◌}
use Rattle.std.specs.List.{starts_with}
use Rattle.std.specs.Cmp.Lexicographic.{pointwise, slice_cmp}
use Rattle.std.specs.Ordering.{MatchOrdering, is_gt, nat_cmp, ordering_then, ordering_reverse}
use Rattle.std.specs.declared.cmp.Ordering.{Ordering}
use Rattle.std.specs.declared.cmp.Ordering.TheVariants.{Less, Equal, Greater}
use Rattle.std.proofs.lemmas.Bool.Decides.{Decides-eqb}
use Rattle.std.proofs.lemmas.Cmp.{ranked, nat_list_cmp_total, tied_itself}
use Rattle.std.proofs.lemmas.List.{append-nil, take_at, take-append-drop}
use Rattle.std.proofs.lemmas.Map.Lookups.{exact_bytes}
use Rattle.std.proofs.lemmas.Slice.Eq.{slice_eq-Decides, starts_is}
use Rattle.bc_names.specs.Names.{NameParts, is_within, name_order}

-- both tests hold if each does
pub both : (a b : Bool) → a ≡ true → b ≡ true → (a && b) ≡ true
both a b p q = ap (λ x. x && b) p ∙ q

pub first_of : (a b : Bool) → (a && b) ≡ true → a ≡ true
first_of true b e = refl
first_of false b e = e

pub second_of : (a b : Bool) → (a && b) ≡ true → b ≡ true
second_of true b e = e
second_of false b e = absurd (true≢false (sym e))

-- a name begins with itself
pub within_self : (name : NameParts) → is_within name name ≡ true
within_self name =
    both _ _ ((slice_eq-Decides Decides-eqb name.root name.root _ refl).1 refl)
    ((starts_is Decides-eqb name.segments name.segments _ refl).1 [] (sym (append-nil name.segments)))

-- a closure of a name begins with what the name begins with
pub within_child : (root name : NameParts) (number : ℕ) → is_within root name ≡ true → is_within root (record { root = name.root; segments = name.segments ++ number ∷ [] }) ≡ true
within_child root name number within =
    let front = (starts_is Decides-eqb name.segments root.segments _ refl).0 (second_of (pointwise ◌==◌ root.root name.root) (starts_with ◌==◌ name.segments root.segments) within) in
    both _ _ (first_of (pointwise ◌==◌ root.root name.root) (starts_with ◌==◌ name.segments root.segments) within)
    ((starts_is Decides-eqb (name.segments ++ number ∷ []) root.segments _ refl).1 (drop (length root.segments) name.segments ++ number ∷ [])
    (ap (λ l. l ++ number ∷ []) front ∙ append_assoc root.segments (drop (length root.segments) name.segments) (number ∷ [])))

-- ---- a name begins with its beginnings and with no other name

same_root : (root name : NameParts) → is_within root name ≡ true → root.root ≡ name.root
same_root root name within = (slice_eq-Decides Decides-eqb root.root name.root _ refl).0 (first_of (pointwise ◌==◌ root.root name.root) (starts_with ◌==◌ name.segments root.segments) within)

goes_on : (root name : NameParts) → is_within root name ≡ true → name.segments ≡ root.segments ++ drop (length root.segments) name.segments
goes_on root name within = (starts_is Decides-eqb name.segments root.segments _ refl).0 (second_of (pointwise ◌==◌ root.root name.root) (starts_with ◌==◌ name.segments root.segments) within)

within_by : (root name : NameParts) (rest : List ℕ) → root.root ≡ name.root → name.segments ≡ root.segments ++ rest → is_within root name ≡ true
within_by root name rest roots segments =
    both _ _ ((slice_eq-Decides Decides-eqb root.root name.root _ refl).1 roots) ((starts_is Decides-eqb name.segments root.segments _ refl).1 rest segments)

-- the name that has the first `depth` segments alone
abbrev pub beginning : NameParts → ℕ → NameParts
beginning name depth = record { root = name.root; segments = take depth name.segments }

pub beginning_within : (name : NameParts) (depth : ℕ) → is_within (beginning name depth) name ≡ true
beginning_within name depth = within_by (beginning name depth) name (drop depth name.segments) refl (sym (take-append-drop depth name.segments))

pub within_beginning : (root name : NameParts) → is_within root name ≡ true → root ≡ beginning name (length root.segments)
within_beginning root name within =
    let first : take (length root.segments) name.segments ≡ root.segments =
    ap (take (length root.segments)) (goes_on root name within) ∙ take_at root.segments (drop (length root.segments) name.segments) (length root.segments) refl in
    λ i. record { root = same_root root name within i; segments = sym first i }

-- ---- names that begin with one name are neighbours among ascending names

-- a list does not come after those that begin with it
no_later : (xs ys : List ℕ) → is_gt (slice_cmp nat_cmp xs (xs ++ ys)) ≡ false
no_later [] [] = refl
no_later [] (y ∷ ys) = refl
no_later (x ∷ xs) ys = by_rank (nat_cmp x x) (ranked x x _ refl) (no_later xs ys)
  where
    by_rank : (o : Ordering) → MatchOrdering o (x < x) (x ≡ x) (x < x) → is_gt (slice_cmp nat_cmp xs (xs ++ ys)) ≡ false → is_gt (ordering_then o (slice_cmp nat_cmp xs (xs ++ ys))) ≡ false
    by_rank Less h rest = refl
    by_rank Equal h rest = rest
    by_rank Greater h rest = absurd (omega (arith, h))

-- what lies between a list and one that begins with it also begins with it
between : (xs ys zs : List ℕ) → is_gt (slice_cmp nat_cmp xs ys) ≡ false → is_gt (slice_cmp nat_cmp ys (xs ++ zs)) ≡ false → (rest : List ℕ) × (ys ≡ xs ++ rest)
between [] ys zs low high = (ys, refl)
between (x ∷ xs) [] zs low high = absurd (true≢false low)
between (x ∷ xs) (y ∷ ys) zs low high = by_ranks (nat_cmp x y) (nat_cmp y x) (ranked x y _ refl) (ranked y x _ refl) low high (between xs ys zs)
  where
    by_ranks : (o p : Ordering) → MatchOrdering o (x < y) (x ≡ y) (y < x) → MatchOrdering p (y < x) (y ≡ x) (x < y) → is_gt (ordering_then o (slice_cmp nat_cmp xs ys)) ≡ false
        → is_gt (ordering_then p (slice_cmp nat_cmp ys (xs ++ zs))) ≡ false
        → (is_gt (slice_cmp nat_cmp xs ys) ≡ false → is_gt (slice_cmp nat_cmp ys (xs ++ zs)) ≡ false → (rest : List ℕ) × (ys ≡ xs ++ rest)) → (rest : List ℕ) × (y ∷ ys ≡ x ∷ xs ++ rest)
    by_ranks Greater p h k low' high' rest = absurd (true≢false low')
    by_ranks Less Greater h k low' high' rest = absurd (true≢false high')
    by_ranks Less Less h k low' high' rest = absurd (omega (arith, h, k))
    by_ranks Less Equal h k low' high' rest = absurd (omega (arith, h, k))
    by_ranks Equal Greater h k low' high' rest = absurd (true≢false high')
    by_ranks Equal Less h k low' high' rest = absurd (omega (arith, h, k))
    by_ranks Equal Equal h k low' high' rest = let found = rest low' high' in (found.0, λ i. sym h i ∷ found.1 i)

-- a name does not come after those that begin with it
pub within_least : (root name : NameParts) → is_within root name ≡ true → is_gt (name_order root name) ≡ false
within_least root name within =
    subst (λ (n : NameParts). is_gt (name_order root n) ≡ false) (λ i. record { root = same_root root name within i; segments = sym (goes_on root name within) i })
    (ap (λ o. is_gt (ordering_then o (slice_cmp nat_cmp root.segments (root.segments ++ drop (length root.segments) name.segments)))) (tied_itself nat_list_cmp_total root.root)
    ∙ no_later root.segments (drop (length root.segments) name.segments))

-- what lies between a name and one that begins with it also begins with it
pub within_between : (root name last : NameParts) → is_gt (name_order root name) ≡ false → is_gt (name_order name last) ≡ false → is_within root last ≡ true → is_within root name ≡ true
within_between root name last low high within =
    by_roots (slice_cmp nat_cmp root.root name.root) refl low
    (subst (λ (n : NameParts). is_gt (name_order name n) ≡ false) (λ i. record { root = sym (same_root root last within) i; segments = goes_on root last within i }) high)
  where
    rest : List ℕ
    rest = drop (length root.segments) last.segments

    back : (o : Ordering) → slice_cmp nat_cmp root.root name.root ≡ o → slice_cmp nat_cmp name.root root.root ≡ ordering_reverse o
    back o e = nat_list_cmp_total.antisymm name.root root.root ∙ ap ordering_reverse e

    by_roots : (o : Ordering) → slice_cmp nat_cmp root.root name.root ≡ o → is_gt (ordering_then o (slice_cmp nat_cmp root.segments name.segments)) ≡ false
        → is_gt (ordering_then (slice_cmp nat_cmp name.root root.root) (slice_cmp nat_cmp name.segments (root.segments ++ rest))) ≡ false → is_within root name ≡ true
    by_roots Greater e low' high' = absurd (true≢false low')
    by_roots Less e low' high' = absurd (true≢false (sym (ap (λ o. is_gt (ordering_then o (slice_cmp nat_cmp name.segments (root.segments ++ rest)))) (back Less e)) ∙ high'))
    by_roots Equal e low' high' =
        let found = between root.segments name.segments rest low' (sym (ap (λ o. is_gt (ordering_then o (slice_cmp nat_cmp name.segments (root.segments ++ rest)))) (back Equal e)) ∙ high') in
        within_by root name found.0 (exact_bytes root.root name.root e) found.1
