-- What is written in parts is written as a whole.
use Rattle.std.proofs.Common.{◌≡◌, true, false, ℕ, zero, suc, ◌+◌, ◌<◌, ◌≤◌, List, [], ◌∷◌, ◌++◌, Option, length, take, get_or, refl, sym, ap, ◌∙◌, subst, append_assoc, append-nil, arith}
use Rattle.std.specs.Io.KnownBytes.{Appends}
use Rattle.std.proofs.KnownBytes.{Appends-nil, Appends-trans}
use Rattle.std.specs.Prelude.{◌==◌, codes}
use Rattle.std.proofs.lemmas.Bool.{eqb-true}
use Rattle.std.specs.List.{flat_map, zip}
use Rattle.bc_print.specs.PrintedTypes.{comma_before, first_word, behind_word}
use Rattle.bc_syntax.specs.declared.symbol.Symbol.TheVariants as s
use Rattle.bc_syntax.specs.Token.{Token}
use Rattle.bc_syntax.specs.declared.syntax.RegionName.{RegionName}
use Rattle.bc_syntax.specs.declared.syntax.Ty.{Ty}
use Rattle.bc_syntax.specs.declared.syntax.Block.{Block}
use Rattle.bc_syntax.specs.declared.syntax.Declaration.{Declaration}
use Rattle.bc_syntax.specs.declared.syntax.Declaration.TheVariants as declarations
use Rattle.bc_syntax.specs.Symbol.{text}
use Rattle.bc_syntax.specs.Spelling.{declaration, struct_rest, extern_rest, symbol, commas, behind_commas, angled, label, braced, block, blocks, declared, lets}
use Rattle.bc_print.specs.Printing.{token_text, spaced, texts, printed, Writes}

pub spaced-append : (x y : List Token) → spaced (x ++ y) ≡ spaced x ++ spaced y
unfolding spaced
spaced-append [] y = refl
spaced-append (t ∷ x) y = ap (λ l. 32 ∷ (token_text t ++ l)) (spaced-append x y) ∙ ap (λ l. 32 ∷ l) (sym (append_assoc (token_text t) (spaced x) (spaced y)))

pub writes_nothing : (a : Option (List ℕ)) → Writes a a []
unfolding spaced
writes_nothing a = Appends-nil a

pub writes_both : (a b c : Option (List ℕ)) (x y : List Token) → Writes a b x → Writes b c y → Writes a c (x ++ y)
writes_both a b c x y p q = subst (λ l. Appends a c l) (sym (spaced-append x y)) (Appends-trans a b c (spaced x) (spaced y) p q)

pub writes_token : (a b c : Option (List ℕ)) (t : Token) (y : List Token) → Writes a b (t ∷ []) → Writes b c y → Writes a c (t ∷ y)
writes_token a b c t y p q = writes_both a b c (t ∷ []) y p q

-- the first token without a space, more tokens, and a line feed
pub prints : (a b c d e : Option (List ℕ)) (t : Token) (x y : List Token) → Appends a b (token_text t) → Writes b c x → Writes c d y → Appends d e (codes "\n") → Appends a e (printed (t ∷ (x ++ y)))
prints a b c d e t x y p q r last =
    Appends-trans a d e (token_text t ++ spaced (x ++ y)) (codes "\n") (Appends-trans a b d (token_text t) (spaced (x ++ y)) p (writes_both b c d x y q r)) last

-- ---- items in order

module _ {A : Type 0} (item : A → List Token) where
  pub one_more_item : (xs : List A) (i : ℕ) (d : A) → i < length xs → flat_map item (take (i + 1) xs) ≡ flat_map item (take i xs) ++ item (get_or xs i d)
  one_more_item [] i d below = absurd (omega arith)
  one_more_item (x ∷ xs) zero d below = append-nil (item x)
  one_more_item (x ∷ xs) (suc i) d below =
      let turn : suc i + 1 ≡ suc (i + 1) = omega arith in
      let less : i < length xs = omega (arith, below) in
      ap (λ k. flat_map item (take k (x ∷ xs))) turn ∙ ap (λ l. item x ++ l) (one_more_item xs i d less) ∙ sym (append_assoc (item x) (flat_map item (take i xs)) (item (get_or xs i d)))

  pub writes_one_more : (a b c : Option (List ℕ)) (xs : List A) (i : ℕ) (d x : A) → i < length xs → x ≡ get_or xs i d → Writes a b (flat_map item (take i xs)) → Writes b c (item x) → Writes a c (flat_map item (take (i + 1) xs))
  writes_one_more a b c xs i d x below is p q =
      subst (λ (l : List Token). Writes a c l) (sym (one_more_item xs i d below)) (writes_both a b c (flat_map item (take i xs)) (item (get_or xs i d)) p (subst (λ (y : A). Writes b c (item y)) is q))

-- ---- blocks and `let` locals

module _ (regions : List RegionName) where
  one_more_block : (k : ℕ) (bs : List Block) (i : ℕ) (d : Block) → i < length bs → blocks regions k (take (i + 1) bs) ≡ blocks regions k (take i bs) ++ block regions (k + i) (get_or bs i d)
  one_more_block k [] i d below = absurd (omega arith)
  one_more_block k (b ∷ bs) zero d below = let same : k ≡ k + 0 = omega arith in append-nil (block regions k b) ∙ ap (λ n. block regions n b) same
  one_more_block k (b ∷ bs) (suc i) d below =
      let turn : suc i + 1 ≡ suc (i + 1) = omega arith in
      let less : i < length bs = omega (arith, below) in
      let number : (k + 1) + i ≡ k + suc i = omega arith in
      ap (λ n. blocks regions k (take n (b ∷ bs))) turn
      ∙ ap (λ l. block regions k b ++ l) (one_more_block (k + 1) bs i d less ∙ ap (λ n. blocks regions (k + 1) (take i bs) ++ block regions n (get_or bs i d)) number)
      ∙ sym (append_assoc (block regions k b) (blocks regions (k + 1) (take i bs)) (block regions (k + suc i) (get_or bs i d)))

  pub writes_block : (a b c d : Option (List ℕ)) (bs : List Block) (i : ℕ) (x : Block) → i < length bs → x ≡ get_or bs i x → Writes a b (blocks regions 0 (take i bs)) → Writes b c (label i) → Writes c d (braced regions x) → Writes a d (blocks regions 0 (take (i + 1) bs))
  writes_block a b c d bs i x below is p q r =
      let number : i ≡ 0 + i = omega arith in
      let one : Writes b d (block regions (0 + i) (get_or bs i x)) = subst (λ (n : ℕ). Writes b d (block regions n (get_or bs i x))) number (subst (λ (y : Block). Writes b d (block regions i y)) is (writes_both b c d (label i) (braced regions x) q r)) in
      subst (λ (l : List Token). Writes a d l) (sym (one_more_block 0 bs i x below)) (writes_both a b d (blocks regions 0 (take i bs)) (block regions (0 + i) (get_or bs i x)) p one)

  one_more_let : (k : ℕ) (ts : List Ty) (i : ℕ) (d : Ty) → i < length ts → lets regions k (take (i + 1) ts) ≡ lets regions k (take i ts) ++ declared regions (k + i) (get_or ts i d)
  one_more_let k [] i d below = absurd (omega arith)
  one_more_let k (t ∷ ts) zero d below = let same : k ≡ k + 0 = omega arith in append-nil (declared regions k t) ∙ ap (λ n. declared regions n t) same
  one_more_let k (t ∷ ts) (suc i) d below =
      let turn : suc i + 1 ≡ suc (i + 1) = omega arith in
      let less : i < length ts = omega (arith, below) in
      let number : (k + 1) + i ≡ k + suc i = omega arith in
      ap (λ n. lets regions k (take n (t ∷ ts))) turn
      ∙ ap (λ l. declared regions k t ++ l) (one_more_let (k + 1) ts i d less ∙ ap (λ n. lets regions (k + 1) (take i ts) ++ declared regions n (get_or ts i d)) number)
      ∙ sym (append_assoc (declared regions k t) (lets regions (k + 1) (take i ts)) (declared regions (k + suc i) (get_or ts i d)))

  pub writes_let : (a b c : Option (List ℕ)) (k : ℕ) (ts : List Ty) (i : ℕ) (x : Ty) → i < length ts → x ≡ get_or ts i x → Writes a b (lets regions k (take i ts)) → Writes b c (declared regions (k + i) x) → Writes a c (lets regions k (take (i + 1) ts))
  writes_let a b c k ts i x below is p q =
      subst (λ (l : List Token). Writes a c l) (sym (one_more_let k ts i x below)) (writes_both a b c (lets regions k (take i ts)) (declared regions (k + i) (get_or ts i x)) p (subst (λ (y : Ty). Writes b c (declared regions (k + i) y)) is q))

-- ---- lists with commas

module _ {A : Type 0} (item : A → List Token) where
  pub writes_no_commas : (a : Option (List ℕ)) (xs : List A) → length xs ≡ 0 → Writes a a (commas item xs)
  writes_no_commas a [] e = writes_nothing a
  writes_no_commas a (x ∷ xs) e = absurd cc

  pub writes_commas : (a b c : Option (List ℕ)) (x : A) (others xs : List A) → xs ≡ x ∷ others → Writes a b (item x) → Writes b c (behind_commas item others) → Writes a c (commas item xs)
  writes_commas a b c x others xs e p q = subst (λ (l : List A). Writes a c (commas item l)) (sym e) (writes_both a b c (item x) (behind_commas item others) p q)

  pub writes_no_angled : (a : Option (List ℕ)) (xs : List A) → true ≡ (length xs == 0) → Writes a a (angled item xs)
  writes_no_angled a [] e = writes_nothing a
  writes_no_angled a (x ∷ xs) e = let none : suc (length xs) ≡ 0 = eqb-true (suc (length xs)) 0 (sym e) in absurd (omega (arith, none))

  pub writes_angled : (a b c d : Option (List ℕ)) (xs : List A) → false ≡ (length xs == 0) → Writes a b (symbol s.Less) → Writes b c (commas item xs) → Writes c d (symbol s.Greater) → Writes a d (angled item xs)
  writes_angled a b c d [] e p q r = absurd cc
  writes_angled a b c d (x ∷ xs) e p q r = writes_both a b d (symbol s.Less) (commas item (x ∷ xs) ++ symbol s.Greater) p (writes_both b c d (commas item (x ∷ xs)) (symbol s.Greater) q r)

-- ---- items with their commas, in order

module _ {A : Type 0} (item : A → List Token) where
  one_more_behind : (x : A) (xs : List A) (i : ℕ) (d : A) → i < length (x ∷ xs) → commas item (take (i + 1) (x ∷ xs)) ≡ commas item (take i (x ∷ xs)) ++ (comma_before i ++ item (get_or (x ∷ xs) i d))
  one_more_behind x xs zero d below = append-nil (item x)
  one_more_behind x xs (suc i) d below =
      let turn : suc i + 1 ≡ suc (i + 1) = omega arith in
      let less : i < length xs = omega (arith, below) in
      let next : A → List Token = λ y. symbol s.Comma ++ item y in
      ap (λ k. commas item (take k (x ∷ xs))) turn ∙ ap (λ l. item x ++ l) (one_more_item next xs i d less) ∙ sym (append_assoc (item x) (behind_commas item (take i xs)) (next (get_or xs i d)))

  pub one_more_listed : (xs : List A) (i : ℕ) (d : A) → i < length xs → commas item (take (i + 1) xs) ≡ commas item (take i xs) ++ (comma_before i ++ item (get_or xs i d))
  one_more_listed [] i d below = absurd (omega arith)
  one_more_listed (x ∷ xs) i d below = one_more_behind x xs i d below

  pub writes_listed : (a b c e : Option (List ℕ)) (xs : List A) (i : ℕ) (d x : A) → i < length xs → x ≡ get_or xs i d → Writes a b (commas item (take i xs)) → Writes b c (comma_before i) → Writes c e (item x) → Writes a e (commas item (take (i + 1) xs))
  writes_listed a b c e xs i d x below is p q r =
      subst (λ (l : List Token). Writes a e l) (sym (one_more_listed xs i d below))
      (writes_both a b e (commas item (take i xs)) (comma_before i ++ item (get_or xs i d)) p (writes_both b c e (comma_before i) (item (get_or xs i d)) q (subst (λ (y : A). Writes c e (item y)) is r)))

pub zipped_at : {A B : Type 0} (xs : List A) (ys : List B) (i : ℕ) (x : A) (y : B) → i < length xs → length xs ≡ length ys → get_or (zip xs ys) i (x, y) ≡ (get_or xs i x, get_or ys i y)
zipped_at [] ys i x y below same = absurd (omega arith)
zipped_at (a ∷ xs) [] i x y below same = absurd (omega arith)
zipped_at (a ∷ xs) (b ∷ ys) zero x y below same = refl
zipped_at (a ∷ xs) (b ∷ ys) (suc i) x y below same = zipped_at xs ys i x y (omega (arith, below)) (omega (arith, same))

pub zipped_length : {A B : Type 0} (xs : List A) (ys : List B) → length xs ≡ length ys → length (zip xs ys) ≡ length ys
zipped_length [] [] same = refl
zipped_length [] (b ∷ ys) same = absurd (omega arith)
zipped_length (a ∷ xs) [] same = absurd (omega arith)
zipped_length (a ∷ xs) (b ∷ ys) same = ap suc (zipped_length xs ys (omega (arith, same)))

pub taken_whole : {A : Type 0} (n : ℕ) (xs : List A) → length xs ≤ n → take n xs ≡ xs
taken_whole zero [] h = refl
taken_whole (suc n) [] h = refl
taken_whole zero (x ∷ xs) h = absurd (omega arith)
taken_whole {A} (suc n) (x ∷ xs) h = ap (λ (l : List A). x ∷ l) (taken_whole n xs (omega (arith, h)))

-- ---- declarations

pub writes_declaration : (a b c : Option (List ℕ)) (d : Declaration) → Writes a b (symbol (first_word d)) → Writes b c (behind_word d) → Writes a c (declaration d)
writes_declaration a b c (declarations.Struct d) p q = writes_both a b c (symbol s.Struct) (struct_rest d) p q
writes_declaration a b c (declarations.Extern d) p q = writes_both a b c (symbol s.Extern) (extern_rest d) p q

pub writes_first : (a b c e : Option (List ℕ)) (d : Declaration) (others ds : List Declaration) → ds ≡ d ∷ others → Appends a b (text (first_word d)) → Writes b c (behind_word d)
    → Writes c e (flat_map declaration others) → Appends a e (texts (flat_map declaration ds))
writes_first a b c e (declarations.Struct d) others ds is p q r =
    let rest = struct_rest d ++ flat_map declaration others in
    subst (λ (l : List Declaration). Appends a e (texts (flat_map declaration l))) (sym is) (Appends-trans a b e (text s.Struct) (spaced rest) p (writes_both b c e (struct_rest d) (flat_map declaration others) q r))
writes_first a b c e (declarations.Extern d) others ds is p q r =
    let rest = extern_rest d ++ flat_map declaration others in
    subst (λ (l : List Declaration). Appends a e (texts (flat_map declaration l))) (sym is) (Appends-trans a b e (text s.Extern) (spaced rest) p (writes_both b c e (extern_rest d) (flat_map declaration others) q r))
