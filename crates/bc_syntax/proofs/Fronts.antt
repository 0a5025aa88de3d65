-- The keyword at the front of a text, found before its whole run is read.
use Rattle.std.proofs.Common.{◌≡◌, ◌≢◌, ℕ, ◌<◌, ◌≤◌, Bool, true, false, cond, List, [], ◌∷◌, ◌++◌, length, take, drop, get_or, refl, sym, ap, ◌∙◌, subst, slice_index, arith}
use Rattle.std.specs.Prelude.{Option, Some, None, IfSome, ◌&&◌, ◌==◌, not, nat_eq}
use Rattle.std.specs.Bool.{then_some}
use Rattle.std.specs.List.{AllByRecursion, list_all, prefix_len}
use Rattle.std.specs.Str.{bytes_eq}
use Rattle.std.proofs.lemmas.Bool.{and_parts}
use Rattle.std.proofs.lemmas.Bool.Decides.{nat_tests}
use Rattle.std.proofs.lemmas.Grind.{same_number_lists}
use Rattle.std.proofs.lemmas.List.{take-append-drop, length-take-le, get_or-take}
use Rattle.std.proofs.lemmas.Slice.Eq.{bytes_eq-Decides}
use Rattle.std.proofs.lemmas.List.Sums.{take_while-cons}
use Rattle.bc_syntax.specs.declared.symbol.Symbol.{Symbol}
use Rattle.bc_syntax.specs.declared.symbol.TheConstants.{KEYWORDS}
use Rattle.bc_syntax.specs.Bytes.{is_run_byte, run}
use Rattle.bc_syntax.specs.Symbol.{text, keyword_of}
use Rattle.bc_syntax.specs.Likely.{likely_keyword}
use Rattle.bc_syntax.proofs.Keywords.{is_text, found_in}

-- ---- whether a run is a word

run_is : (b : ℕ) (bytes : List ℕ) (t : Bool) → is_run_byte b ≡ t → run (b ∷ bytes) ≡ cond t (b ∷ run bytes) []
run_is b bytes t e = take_while-cons is_run_byte b bytes ∙ ap (λ u. cond u (b ∷ run bytes) []) e

differs : (w b : ℕ) (word bytes : List ℕ) → nat_eq w b ≡ false → (t : Bool) → is_run_byte b ≡ t → false ≡ bytes_eq (w ∷ word) (run (b ∷ bytes))
differs w b word bytes e true h = sym (ap (λ (l : List ℕ). bytes_eq (w ∷ word) l) (run_is b bytes true h) ∙ ap (λ t. t && bytes_eq word (run bytes)) e)
differs w b word bytes e false h = sym (ap (λ (l : List ℕ). bytes_eq (w ∷ word) l) (run_is b bytes false h))

ends : (b : ℕ) (bytes : List ℕ) (t : Bool) → is_run_byte b ≡ t → not (is_run_byte b) ≡ bytes_eq [] (run (b ∷ bytes))
ends b bytes true e = ap not e ∙ sym (ap (λ (l : List ℕ). bytes_eq [] l) (run_is b bytes true e))
ends b bytes false e = ap not e ∙ sym (ap (λ (l : List ℕ). bytes_eq [] l) (run_is b bytes false e))

pub runs_as : (word bytes : List ℕ) → list_all is_run_byte word ≡ true
    → (bytes_eq word (take (length word) bytes) && not (is_run_byte (slice_index bytes (length word)))) ≡ bytes_eq word (run bytes)
runs_as [] [] h = refl
runs_as [] (b ∷ bytes) h = ends b bytes (is_run_byte b) refl
runs_as (w ∷ word) [] h = refl
runs_as (w ∷ word) (b ∷ bytes) h =
    let parts = and_parts (is_run_byte w) (list_all is_run_byte word) h in
    by parts.0 (runs_as word bytes parts.1) (nat_eq w b) refl
  where
    by : is_run_byte w ≡ true → (bytes_eq word (take (length word) bytes) && not (is_run_byte (slice_index bytes (length word)))) ≡ bytes_eq word (run bytes)
        → (t : Bool) → nat_eq w b ≡ t
        → ((nat_eq w b && bytes_eq word (take (length word) bytes)) && not (is_run_byte (slice_index bytes (length word)))) ≡ bytes_eq (w ∷ word) (run (b ∷ bytes))
    by first others true e =
        let same : w ≡ b = grind (arith, nat_tests, e) in
        let inside : is_run_byte b ≡ true = ap is_run_byte (sym same) ∙ first in
        ap (λ t. (t && bytes_eq word (take (length word) bytes)) && not (is_run_byte (slice_index bytes (length word)))) e
        ∙ others
        ∙ sym (ap (λ t. t && bytes_eq word (run bytes)) e)
        ∙ sym (ap (λ (l : List ℕ). bytes_eq (w ∷ word) l) (run_is b bytes true inside))
    by first others false e =
        ap (λ t. (t && bytes_eq word (take (length word) bytes)) && not (is_run_byte (slice_index bytes (length word)))) e
        ∙ differs w b word bytes e (is_run_byte b) refl

-- ---- whether a text begins with a word

pub same_front : (word bytes : List ℕ) → length word ≤ length bytes → ((k : ℕ) → k < length word → get_or word k 0 ≡ get_or bytes k 0)
    → true ≡ bytes_eq word (take (length word) bytes)
same_front word bytes le same =
    let all : word ≡ take (length word) bytes = same_number_lists word (take (length word) bytes) (sym (length-take-le (length word) bytes le)) (λ k lt. same k lt ∙ sym (get_or-take (length word) bytes k 0 lt)) in
    grind (arith, bytes_eq-Decides word (take (length word) bytes), all)

pub other_front : (word bytes : List ℕ) (k : ℕ) → k < length word → get_or word k 0 ≢ get_or bytes k 0 → false ≡ bytes_eq word (take (length word) bytes)
other_front word bytes k lt other = by (bytes_eq word (take (length word) bytes)) refl
  where
    by : (t : Bool) → bytes_eq word (take (length word) bytes) ≡ t → false ≡ t
    by true e = absurd (other (ap (λ (l : List ℕ). get_or l k 0) (is_text word (take (length word) bytes) e) ∙ get_or-take (length word) bytes k 0 lt))
    by false e = refl

-- ---- the one keyword that a text may begin with

abbrev IsOwn : Option Symbol → Type 0
IsOwn None = Unit {0}
IsOwn (Some s) = (list_all is_run_byte (text s) ≡ true) × (keyword_of (text s) ≡ Some s)

either : (b : Bool) (x y : Option Symbol) → IsOwn x → IsOwn y → IsOwn (cond b x y)
either true x y p q = p
either false x y p q = q

all_own : (w : List ℕ) → IsOwn (likely_keyword w)
unfolding likely_keyword text keyword_of
all_own w =
    let first = slice_index w 0 in
    let second = slice_index w 1 in
    let third = slice_index w 2 in
    let fourth = slice_index w 3 in
    either (first == 99) _ _ (either (second == 108) _ _ (refl, refl) (either (second == 111) _ _ (refl, refl) (either (fourth == 99) _ _ (refl, refl) (refl, refl))))
    (either (first == 100) _ _ (either (second == 101) _ _ (refl, refl) (refl, refl))
    (either (first == 101) _ _ (refl, refl)
    (either (first == 102) _ _ (refl, refl)
    (either (first == 103) _ _ (refl, refl)
    (either (first == 105) _ _ (either (second == 102) _ _ (refl, refl) (either (third == 116) _ _ (refl, refl) (refl, refl)))
    (either (first == 108) _ _ (refl, refl)
    (either (first == 109) _ _ (either (second == 117) _ _ (refl, refl) (refl, refl))
    (either (first == 110) _ _ (refl, refl)
    (either (first == 114) _ _ (refl, refl)
    (either (first == 115) _ _ (either (third == 111) _ _ (refl, refl) (refl, refl))
    (either (first == 119) _ _ (refl, refl) tt)))))))))))

pub likely_own : (w : List ℕ) (s : Symbol) → likely_keyword w ≡ Some s → (list_all is_run_byte (text s) ≡ true) × (keyword_of (text s) ≡ Some s)
likely_own w s e = subst IsOwn e (all_own w)

told : AllByRecursion (λ s. (rest : List ℕ) → likely_keyword (text s ++ rest) ≡ Some s) KEYWORDS
unfolding likely_keyword text
told = (λ r. refl, (λ r. refl, (λ r. refl, (λ r. refl, (λ r. refl, (λ r. refl, (λ r. refl, (λ r. refl, (λ r. refl, (λ r. refl, (λ r. refl, (λ r. refl, (λ r. refl, (λ r. refl, (λ r. refl, (λ r. refl, (λ r. refl, (λ r. refl, (λ r. refl, (λ r. refl, tt))))))))))))))))))))

-- a run is the keyword that its text may begin with
likely_front : (bytes : List ℕ) (s : Symbol) → keyword_of (run bytes) ≡ Some s → (likely_keyword bytes ≡ Some s) × (bytes_eq (text s) (run bytes) ≡ true)
unfolding keyword_of
likely_front bytes s e =
    let h = found_in (λ s. bytes_eq (text s) (run bytes)) (λ s. (rest : List ℕ) → likely_keyword (text s ++ rest) ≡ Some s) KEYWORDS told s e in
    let n = prefix_len is_run_byte bytes in
    let whole : run bytes ++ drop n bytes ≡ bytes = take-append-drop n bytes in
    (ap likely_keyword (sym whole) ∙ ap (λ (l : List ℕ). likely_keyword (l ++ drop n bytes)) (sym (is_text (text s) (run bytes) h.0)) ∙ h.1 (drop n bytes), h.0)

pub none_front : (bytes : List ℕ) → likely_keyword bytes ≡ None → None ≡ keyword_of (run bytes)
none_front bytes e = by (keyword_of (run bytes)) refl
  where
    by : (o : Option Symbol) → keyword_of (run bytes) ≡ o → None ≡ o
    by None f = refl
    by (Some s) f = let h = likely_front bytes s f in absurd cc

pub one_front : (bytes : List ℕ) (s : Symbol) → likely_keyword bytes ≡ Some s → then_some (bytes_eq (text s) (run bytes)) s ≡ keyword_of (run bytes)
one_front bytes s e = by (bytes_eq (text s) (run bytes)) refl
  where
    other : bytes_eq (text s) (run bytes) ≡ false → (o : Option Symbol) → keyword_of (run bytes) ≡ o → None ≡ o
    other f None g = refl
    other f (Some t) g =
        let h = likely_front bytes t g in
        let same : s ≡ t = cc in
        let back : bytes_eq (text s) (run bytes) ≡ true = ap (λ (z : Symbol). bytes_eq (text z) (run bytes)) same ∙ h.1 in
        absurd cc

    by : (b : Bool) → bytes_eq (text s) (run bytes) ≡ b → then_some b s ≡ keyword_of (run bytes)
    by true f = sym (likely_own bytes s e).1 ∙ ap keyword_of (is_text (text s) (run bytes) f)
    by false f = other f (keyword_of (run bytes)) refl

-- a run that is a keyword is the keyword's spelling
pub spelled : (r : List ℕ) (o : Option Symbol) → o ≡ keyword_of r → IfSome o (λ s. r ≡ text s)
unfolding keyword_of
spelled r None e = tt
spelled r (Some s) e =
    let h = found_in (λ s. bytes_eq (text s) r) (λ s. Unit {0}) KEYWORDS nothing_more s (sym e) in
    sym (is_text (text s) r h.0)
  where
    nothing_more : AllByRecursion (λ (s : Symbol). Unit {0}) KEYWORDS
    nothing_more = (tt, (tt, (tt, (tt, (tt, (tt, (tt, (tt, (tt, (tt, (tt, (tt, (tt, (tt, (tt, (tt, (tt, (tt, (tt, (tt, tt))))))))))))))))))))
