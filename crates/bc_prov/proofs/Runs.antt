-- The pieces of one name are adjacent in a list whose names ascend.
use Rattle.std.proofs.Common.{◌≡◌, ℕ, zero, suc, ◌+◌, ◌-◌, ◌<◌, ◌≤◌, Bool, true, false, true≢false, List, [], ◌∷◌, length, get_or, take, drop, cond, refl, sym, ap, ◌∙◌, subst, arith}
use Rattle.std.specs.Prelude.{filter}
use Rattle.std.specs.Ordering.{is_eq, is_lt, ordering_index, ordering_reverse}
use Rattle.std.specs.List.{AllByRecursion}
use Rattle.std.specs.List.Sorted.{IsNonDecreasingBy, IsPartitionPoint, IsPartitionedBy}
use Rattle.std.specs.declared.cmp.Ordering.{Ordering}
use Rattle.std.specs.declared.cmp.Ordering.TheVariants.{Less, Equal, Greater}
use Rattle.std.proofs.lemmas.Cmp.{alike_right}
use Rattle.std.proofs.lemmas.List.{get_or-drop, length-drop, take_rest}
use Rattle.std.proofs.lemmas.List.Sorted.{IsNonDecreasingBy-from_all_adjacent}
use Rattle.bc_syntax.specs.declared.syntax.Declaration.{Declaration}
use Rattle.bc_syntax.specs.declared.syntax.Body.{Body}
use Rattle.bc_names.specs.Names.{NameParts, name_order}
use Rattle.bc_names.proofs.Equality.{exact_names, names_total}
use Rattle.bc_prov.specs.Pieces.{PieceView, AreAscending, ArePieces, IsPieceFor, pieces_at}
use Rattle.bc_prov.specs.State.{at_name}
use Rattle.bc_prov.proofs.Lookup.{equal_only}

-- ---- adjacent elements that pass a test

none_pass : {X : Type 0} (test : X → Bool) (es : List X) → ((k : ℕ) (d : X) → k < length es → test (get_or es k d) ≡ false) → [] ≡ filter test es
none_pass test [] none = refl
none_pass test (e ∷ es) none = none_pass test es (λ k d less. none (suc k) d (omega arith)) ∙ sym (ap (λ (b : Bool). cond b (e ∷ filter test es) (filter test es)) (none 0 e (omega arith)))

first_pass : {X : Type 0} (test : X → Bool) (es : List X) (j : ℕ) → j ≤ length es → ((k : ℕ) (d : X) → k < j → test (get_or es k d) ≡ true) → ((k : ℕ) (d : X) → j ≤ k → k < length es → test (get_or es k d) ≡ false) → take j es ≡ filter test es
first_pass test es zero bound inside outside = none_pass test es (λ k d less. outside k d (omega arith) less)
first_pass test [] (suc j) bound inside outside = absurd (omega arith)
first_pass test (e ∷ es) (suc j) bound inside outside =
    ap (λ l. e ∷ l) (first_pass test es j (omega arith) (λ k d less. inside (suc k) d (omega arith)) (λ k d from less. outside (suc k) d (omega arith) (omega arith)))
    ∙ sym (ap (λ (b : Bool). cond b (e ∷ filter test es) (filter test es)) (inside 0 e (omega arith)))

pub run_passes : {X : Type 0} (test : X → Bool) (es : List X) (i j : ℕ) → i ≤ length es → ((k : ℕ) (d : X) → k < i → test (get_or es k d) ≡ false) → j ≤ length (drop i es)
    → ((k : ℕ) (d : X) → k < j → test (get_or (drop i es) k d) ≡ true) → ((k : ℕ) (d : X) → j ≤ k → k < length (drop i es) → test (get_or (drop i es) k d) ≡ false) → take j (drop i es) ≡ filter test es
run_passes test es zero j within before bound inside outside = first_pass test es j bound inside outside
run_passes test [] (suc i) j within before bound inside outside = absurd (omega arith)
run_passes test (e ∷ es) (suc i) j within before bound inside outside =
    run_passes test es i j (omega arith) (λ k d less. before (suc k) d (omega arith)) bound inside outside
    ∙ sym (ap (λ (b : Bool). cond b (e ∷ filter test es) (filter test es)) (before 0 e (omega arith)))

-- ---- names that ascend, compared with one name

-- if y does not come before x, then x compares to n no higher than y does
index_up : (x y n : NameParts) (a b : Ordering) → name_order x n ≡ a → name_order y n ≡ b → is_lt (name_order y x) ≡ false → ordering_index a ≤ ordering_index b
index_up x y n Less b xn yn up = omega arith
index_up x y n Equal Less xn yn up = absurd (true≢false (sym (ap is_lt (alike_right names_total x n y xn ∙ yn)) ∙ up))
index_up x y n Equal Equal xn yn up = omega arith
index_up x y n Equal Greater xn yn up = omega arith
index_up x y n Greater Less xn yn up = absurd (true≢false (sym (ap is_lt (names_total.trans y n x yn (names_total.antisymm n x ∙ ap ordering_reverse xn))) ∙ up))
index_up x y n Greater Equal xn yn up = absurd (true≢false (sym (ap is_lt (names_total.congr y n x yn ∙ names_total.antisymm n x ∙ ap ordering_reverse xn)) ∙ up))
index_up x y n Greater Greater xn yn up = omega arith

stays_less : (a b : Ordering) → ordering_index a ≤ ordering_index b → is_lt b ≡ true → is_lt a ≡ true
stays_less Less b upto is = refl
stays_less Equal Less upto is = absurd (omega (arith, upto))
stays_less Equal Equal upto is = absurd cc
stays_less Equal Greater upto is = absurd cc
stays_less Greater Less upto is = absurd (omega (arith, upto))
stays_less Greater Equal upto is = absurd cc
stays_less Greater Greater upto is = absurd cc

stays_equal : (a b : Ordering) → ordering_index a ≤ ordering_index b → is_lt a ≡ false → is_eq b ≡ true → is_eq a ≡ true
stays_equal Less b upto above is = absurd cc
stays_equal Equal b upto above is = refl
stays_equal Greater Less upto above is = absurd cc
stays_equal Greater Equal upto above is = absurd (omega (arith, upto))
stays_equal Greater Greater upto above is = absurd cc

less_apart : (a : Ordering) → is_lt a ≡ true → is_eq a ≡ false
less_apart Less is = refl
less_apart Equal is = absurd cc
less_apart Greater is = absurd cc

module _ (name : NameParts) where
  rises : (es : List (NameParts × PieceView)) → AreAscending es → IsNonDecreasingBy (λ (e : NameParts × PieceView). ordering_index (name_order e.0 name)) es
  rises es up =
      IsNonDecreasingBy-from_all_adjacent (λ (e : NameParts × PieceView). ordering_index (name_order e.0 name)) es
      (λ k d less. index_up (get_or es k d).0 (get_or es (k + 1) d).0 name _ _ refl refl (up k d (omega arith) less))

  before_parted : (es : List (NameParts × PieceView)) → AreAscending es → IsPartitionedBy (λ (e : NameParts × PieceView). is_lt (name_order e.0 name)) es
  before_parted es up a b d upto less is = stays_less _ _ (rises es up a b d upto less) is

  run_parted : (es : List (NameParts × PieceView)) (i : ℕ) → AreAscending es
      → IsPartitionPoint (λ (e : NameParts × PieceView). is_lt (name_order e.0 name) ≡ true) (λ (e : NameParts × PieceView). is_lt (name_order e.0 name) ≡ false) es i
      → IsPartitionedBy (λ (e : NameParts × PieceView). is_eq (name_order e.0 name)) (drop i es)
  run_parted es i up parts a b d upto less is =
      let long = length-drop i es in
      subst (λ (e : NameParts × PieceView). is_eq (name_order e.0 name) ≡ true) (sym (get_or-drop i es a d))
      (stays_equal _ _ (rises es up (i + a) (i + b) d (omega arith) (omega (arith, long))) (parts.1 (i + a) d (omega arith) (omega (arith, long)))
      (sym (ap (λ (e : NameParts × PieceView). is_eq (name_order e.0 name)) (get_or-drop i es b d)) ∙ is))

  run : (es : List (NameParts × PieceView)) (i j : ℕ) → i ≤ length es
      → IsPartitionPoint (λ (e : NameParts × PieceView). is_lt (name_order e.0 name) ≡ true) (λ (e : NameParts × PieceView). is_lt (name_order e.0 name) ≡ false) es i
      → j ≤ length (drop i es)
      → IsPartitionPoint (λ (e : NameParts × PieceView). is_eq (name_order e.0 name) ≡ true) (λ (e : NameParts × PieceView). is_eq (name_order e.0 name) ≡ false) (drop i es) j
      → take j (drop i es) ≡ pieces_at name es
  run es i j within start bound parts =
      run_passes (λ (e : NameParts × PieceView). is_eq (name_order e.0 name)) es i j within (λ k d less. less_apart _ (start.0 k d (omega arith) less)) bound
      (λ k d less. parts.0 k d (omega arith) less) parts.1

  -- the slice from the first name that is not before this one, as long as the names equal it, has the pieces of this name
  pub pieces_slice : (es : List (NameParts × PieceView)) (i j : ℕ) → AreAscending es → i ≤ length es
      → (IsPartitionedBy (λ (e : NameParts × PieceView). is_lt (name_order e.0 name)) es → IsPartitionPoint (λ (e : NameParts × PieceView). is_lt (name_order e.0 name) ≡ true) (λ (e : NameParts × PieceView). is_lt (name_order e.0 name) ≡ false) es i)
      → j ≤ length (take (length es - i) (drop i es))
      → (IsPartitionedBy (λ (e : NameParts × PieceView). is_eq (name_order e.0 name)) (take (length es - i) (drop i es)) → IsPartitionPoint (λ (e : NameParts × PieceView). is_eq (name_order e.0 name) ≡ true) (λ (e : NameParts × PieceView). is_eq (name_order e.0 name) ≡ false) (take (length es - i) (drop i es)) j)
      → take j (take (length es - i) (drop i es)) ≡ pieces_at name es
  pieces_slice es i j up within start =
      let there = start (before_parted es up) in
      subst (λ (l : List (NameParts × PieceView)). j ≤ length l → (IsPartitionedBy (λ (e : NameParts × PieceView). is_eq (name_order e.0 name)) l → IsPartitionPoint (λ (e : NameParts × PieceView). is_eq (name_order e.0 name) ≡ true) (λ (e : NameParts × PieceView). is_eq (name_order e.0 name) ≡ false) l j) → take j l ≡ pieces_at name es)
      (sym (take_rest es i)) (λ bound point. run es i j within there bound (point (run_parted es i up there)))

  -- the pieces of a name are of its body
  pub pieces_at_for : (types : List Declaration) (units : List (NameParts × Body)) (pieces : List (NameParts × PieceView)) → ArePieces types units pieces
      → AllByRecursion (λ (p : NameParts × PieceView). IsPieceFor types (at_name units name) p.1) (pieces_at name pieces)
  pieces_at_for types units [] are = tt
  pieces_at_for types units (p ∷ ps) are = by_test (is_eq (name_order p.0 name)) refl (pieces_at_for types units ps are.1)
    where
      by_test : (b : Bool) → is_eq (name_order p.0 name) ≡ b → AllByRecursion (λ (q : NameParts × PieceView). IsPieceFor types (at_name units name) q.1) (pieces_at name ps)
          → AllByRecursion (λ (q : NameParts × PieceView). IsPieceFor types (at_name units name) q.1) (cond b (p ∷ pieces_at name ps) (pieces_at name ps))
      by_test true is rest = (subst (λ (n : NameParts). IsPieceFor types (at_name units n) p.1) (exact_names p.0 name (equal_only _ is)) are.0, rest)
      by_test false is rest = rest
