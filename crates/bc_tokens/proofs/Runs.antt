-- Runs that are read once, and the tokens that they are.
use Rattle.std.proofs.Common.{◌≡◌, ◌≢◌, ℕ, suc, ◌+◌, ◌<◌, ◌≤◌, Bool, true, false, cond, List, [], ◌∷◌, length, take, drop, refl, sym, ap, ◌∙◌, subst, arith, inl, inr}
use Rattle.std.specs.Prelude.{slice_index, ◌==◌, ◌&&◌, ◌||◌, not, eqb, nat_le, nat_lt, take_while, Option, Some, None}
use Rattle.std.specs.Char.{is_ascii_digit, is_ascii_alphabetic}
use Rattle.std.specs.List.{AllByRecursion, list_all, prefix_len}
use Rattle.std.specs.Str.{bytes_eq}
use Rattle.std.proofs.lemmas.Bool.{and_parts, cases_Bool}
use Rattle.std.proofs.lemmas.Bool.Decides.{nat_tests}
use Rattle.std.proofs.lemmas.List.Folds.{length-prefix_len}
use Rattle.std.proofs.lemmas.List.Sums.{take_while-cons}
use Rattle.bc_syntax.specs.declared.numbering.Numbering.TheVariants as numberings
use Rattle.bc_syntax.specs.declared.symbol.Symbol.TheVariants.{Arrow}
use Rattle.bc_syntax.specs.Bytes.{is_run_byte, run}
use Rattle.bc_syntax.specs.Symbol.{text, keyword_of, sign_of}
use Rattle.bc_syntax.specs.declared.symbol.Symbol.{Symbol}
use Rattle.bc_syntax.specs.declared.symbol.TheConstants.{SIGNS}
use Rattle.bc_syntax.proofs.Keywords.{is_text, found_in}
use Rattle.bc_syntax.specs.Words.{is_region_byte, is_number, is_label}
use Rattle.bc_syntax.specs.Token.{Token, Fixed, Word, Numbered, NotAscii, Stray}
use Rattle.bc_tokens.specs.Token.{value, word, run_token, region_token, variable_token, sign_token, lexeme}

-- ---- the front of a run, and the rest of it

pub more : (k : ℕ) → 1 + k ≡ suc k
more k = omega arith

positive : (k : ℕ) → eqb (suc k) 0 ≡ false
positive k = grind (arith, nat_tests)

front_splits : (p q : ℕ → Bool) → ((b : ℕ) → q b ≡ true → p b ≡ true) → (bytes : List ℕ)
    → prefix_len p bytes ≡ prefix_len q bytes + prefix_len p (drop (prefix_len q bytes) bytes)
front_splits p q inside [] = refl
front_splits p q inside (b ∷ bytes) =
    elim (cases_Bool (q b)) [
      | inl holds ↦
          let py : p b ≡ true = inside b holds in
          let e : prefix_len p bytes ≡ prefix_len q bytes + prefix_len p (drop (prefix_len q bytes) bytes) = front_splits p q inside bytes in
          rw (holds, py, more (prefix_len q bytes)) (omega (arith, e))
      | inr fails ↦ rw fails (omega arith)
    ]

front_is_all : (p q : ℕ → Bool) → ((b : ℕ) → q b ≡ true → p b ≡ true) → (bytes : List ℕ)
    → eqb (prefix_len p (drop (prefix_len q bytes) bytes)) 0 ≡ list_all q (take (prefix_len p bytes) bytes)
front_is_all p q inside [] = refl
front_is_all p q inside (b ∷ bytes) =
    elim (cases_Bool (q b)) [
      | inl holds ↦
          let py : p b ≡ true = inside b holds in
          let e : eqb (prefix_len p (drop (prefix_len q bytes) bytes)) 0 ≡ list_all q (take (prefix_len p bytes) bytes) = front_is_all p q inside bytes in
          rw (py, more (prefix_len p bytes), holds, more (prefix_len q bytes)) e
      | inr fails ↦
          elim (cases_Bool (p b)) [
            | inl py ↦ rw (fails, py, more (prefix_len p bytes), fails) (positive (prefix_len p bytes))
            | inr pn ↦ rw (fails, pn) refl
          ]
    ]

pub digit_in_run : (b : ℕ) → is_ascii_digit b ≡ true → is_run_byte b ≡ true
digit_in_run b h = grind (arith, nat_tests)

pub region_in_run : (b : ℕ) → is_region_byte b ≡ true → is_run_byte b ≡ true
region_in_run b h = grind (arith, nat_tests)

others_are : (q : ℕ → Bool) (bytes rest : List ℕ) (front others : ℕ) → front ≡ prefix_len q bytes → rest ≡ drop front bytes
    → others ≡ length (run rest) → others ≡ prefix_len is_run_byte (drop (prefix_len q bytes) bytes)
others_are q bytes rest front others f rest-is others-is =
    others-is ∙ length-prefix_len is_run_byte rest ∙ ap (λ (l : List ℕ). prefix_len is_run_byte l) (rest-is ∙ ap (λ k. drop k bytes) f)

splits : (q : ℕ → Bool) → ((b : ℕ) → q b ≡ true → is_run_byte b ≡ true) → (bytes rest : List ℕ) (front others : ℕ)
    → front ≡ length (take_while q bytes) → rest ≡ drop front bytes → others ≡ length (run rest) → take (front + others) bytes ≡ run bytes
splits q inside bytes rest front others front-is rest-is others-is =
    let f : front ≡ prefix_len q bytes = front-is ∙ length-prefix_len q bytes in
    let o : others ≡ prefix_len is_run_byte (drop (prefix_len q bytes) bytes) = others_are q bytes rest front others f rest-is others-is in
    let s : front + others ≡ prefix_len is_run_byte bytes = omega (arith, f, o, front_splits is_run_byte q inside bytes) in
    ap (λ k. take k bytes) s

all_front : (q : ℕ → Bool) → ((b : ℕ) → q b ≡ true → is_run_byte b ≡ true) → (bytes rest : List ℕ) (front others : ℕ)
    → front ≡ length (take_while q bytes) → rest ≡ drop front bytes → others ≡ length (run rest) → eqb others 0 ≡ list_all q (take (front + others) bytes)
all_front q inside bytes rest front others front-is rest-is others-is =
    let f : front ≡ prefix_len q bytes = front-is ∙ length-prefix_len q bytes in
    let o : others ≡ prefix_len is_run_byte (drop (prefix_len q bytes) bytes) = others_are q bytes rest front others f rest-is others-is in
    ap (λ k. eqb k 0) o ∙ front_is_all is_run_byte q inside bytes ∙ ap (list_all q) (sym (splits q inside bytes rest front others front-is rest-is others-is))

pub digits_split : (bytes rest : List ℕ) (front others : ℕ) → front ≡ length (take_while is_ascii_digit bytes) → rest ≡ drop front bytes
    → others ≡ length (run rest) → take (front + others) bytes ≡ run bytes
digits_split = splits is_ascii_digit digit_in_run

pub all_digits : (bytes rest : List ℕ) (front others : ℕ) → front ≡ length (take_while is_ascii_digit bytes) → rest ≡ drop front bytes
    → others ≡ length (run rest) → eqb others 0 ≡ list_all is_ascii_digit (take (front + others) bytes)
all_digits = all_front is_ascii_digit digit_in_run

-- a run that is a number ends with its digits
pub number_ends : (r : List ℕ) (others : ℕ) → eqb others 0 ≡ list_all is_ascii_digit r → is_number r ≡ true → others ≡ 0
unfolding is_number
number_ends r others all number =
    let front = and_parts (list_all is_ascii_digit r && nat_le 1 (length r)) (length r == 1 || not (slice_index r 0 == 48)) number in
    let digits : list_all is_ascii_digit r ≡ true = (and_parts (list_all is_ascii_digit r) (nat_le 1 (length r)) front.0).0 in
    let none : eqb others 0 ≡ true = all ∙ digits in
    grind (arith, nat_tests, none)

pub region_splits : (bytes rest : List ℕ) (front others : ℕ) → front ≡ length (take_while is_region_byte bytes) → rest ≡ drop front bytes
    → others ≡ length (run rest) → take (front + others) bytes ≡ run bytes
region_splits = splits is_region_byte region_in_run

pub all_region_bytes : (bytes rest : List ℕ) (front others : ℕ) → front ≡ length (take_while is_region_byte bytes) → rest ≡ drop front bytes
    → others ≡ length (run rest) → eqb others 0 ≡ list_all is_region_byte (take (front + others) bytes)
all_region_bytes = all_front is_region_byte region_in_run

-- ---- fronts of one item or two

none : (p : ℕ → Bool) (bytes : List ℕ) → p (slice_index bytes 0) ≡ false → take_while p bytes ≡ []
none p [] h = refl
none p (b ∷ bytes) h = take_while-cons p b bytes ∙ ap (λ t. cond t (b ∷ take_while p bytes) []) h

one : (p : ℕ → Bool) (bytes : List ℕ) → p 0 ≡ false → p (slice_index bytes 0) ≡ true → p (slice_index bytes 1) ≡ false → take_while p bytes ≡ take 1 bytes
one p [] z h n = absurd cc
one p (b ∷ []) z h n = take_while-cons p b [] ∙ ap (λ t. cond t (b ∷ take_while p []) []) h
one p (b ∷ c ∷ bytes) z h n = take_while-cons p b (c ∷ bytes) ∙ ap (λ t. cond t (b ∷ take_while p (c ∷ bytes)) []) h ∙ ap (λ (l : List ℕ). b ∷ l) (none p (c ∷ bytes) n)

two : (p : ℕ → Bool) (bytes : List ℕ) → p 0 ≡ false → p (slice_index bytes 0) ≡ true → p (slice_index bytes 1) ≡ true → p (slice_index bytes 2) ≡ false
    → take_while p bytes ≡ take 2 bytes
two p [] z h k n = absurd cc
two p (b ∷ bytes) z h k n = take_while-cons p b bytes ∙ ap (λ t. cond t (b ∷ take_while p bytes) []) h ∙ ap (λ (l : List ℕ). b ∷ l) (one p bytes z k n)

three : (p : ℕ → Bool) (bytes : List ℕ) → p 0 ≡ false → p (slice_index bytes 0) ≡ true → p (slice_index bytes 1) ≡ true → p (slice_index bytes 2) ≡ true
    → p (slice_index bytes 3) ≡ false → take_while p bytes ≡ take 3 bytes
three p [] z h k m n = absurd cc
three p (b ∷ bytes) z h k m n = take_while-cons p b bytes ∙ ap (λ t. cond t (b ∷ take_while p bytes) []) h ∙ ap (λ (l : List ℕ). b ∷ l) (two p bytes z k m n)

-- one digit is a number
pub one_digit : (bytes : List ℕ) → is_ascii_digit (slice_index bytes 0) ≡ true → is_run_byte (slice_index bytes 1) ≡ false
    → (take 1 bytes ≡ run bytes) × (true ≡ is_number (run bytes))
unfolding is_number
one_digit [] h n = absurd cc
one_digit (b ∷ bytes) h n =
    let e : run (b ∷ bytes) ≡ b ∷ [] = one is_run_byte (b ∷ bytes) refl (digit_in_run b h) n in
    (sym e, rw (e, h) refl)

-- two digits that do not begin with 0 are a number
pub two_digits : (bytes : List ℕ) → is_ascii_digit (slice_index bytes 0) ≡ true → (slice_index bytes 0 == 48) ≡ false → is_ascii_digit (slice_index bytes 1) ≡ true
    → is_run_byte (slice_index bytes 2) ≡ false
    → (take 2 bytes ≡ run bytes) × (true ≡ is_number (run bytes))
unfolding is_number
two_digits [] h other k n = absurd cc
two_digits (b ∷ []) h other k n = absurd cc
two_digits (b ∷ c ∷ bytes) h other k n =
    let e : run (b ∷ c ∷ bytes) ≡ b ∷ c ∷ [] = two is_run_byte (b ∷ c ∷ bytes) refl (digit_in_run b h) (digit_in_run c k) n in
    (sym e, rw (e, h, k, other) refl)

-- three digits that do not begin with 0 are a number
pub three_digits : (bytes : List ℕ) → is_ascii_digit (slice_index bytes 0) ≡ true → (slice_index bytes 0 == 48) ≡ false → is_ascii_digit (slice_index bytes 1) ≡ true
    → is_ascii_digit (slice_index bytes 2) ≡ true → is_run_byte (slice_index bytes 3) ≡ false
    → (take 3 bytes ≡ run bytes) × (true ≡ is_number (run bytes))
unfolding is_number
three_digits [] h other k m n = absurd cc
three_digits (b ∷ []) h other k m n = absurd cc
three_digits (b ∷ c ∷ []) h other k m n = absurd cc
three_digits (b ∷ c ∷ d ∷ bytes) h other k m n =
    let e : run (b ∷ c ∷ d ∷ bytes) ≡ b ∷ c ∷ d ∷ [] = three is_run_byte (b ∷ c ∷ d ∷ bytes) refl (digit_in_run b h) (digit_in_run c k) (digit_in_run d m) n in
    (sym e, rw (e, h, k, m, other) refl)

-- ---- what a run is, by its first byte

run-cons : (b : ℕ) (bytes : List ℕ) → is_run_byte b ≡ true → run (b ∷ bytes) ≡ b ∷ run bytes
run-cons b bytes h = take_while-cons is_run_byte b bytes ∙ ap (λ t. cond t (b ∷ run bytes) []) h

pub begins_with : (k : ℕ) (bytes : List ℕ) → slice_index bytes 0 ≡ suc k → bytes ≡ suc k ∷ drop 1 bytes
begins_with k [] e = absurd (omega (arith, e))
begins_with k (b ∷ bytes) e = ap (λ (n : ℕ). n ∷ bytes) e

digit_token : (r : List ℕ) → is_ascii_digit (slice_index r 0) ≡ true → run_token r ≡ cond (is_number r) (Numbered numberings.Number (value r)) Stray
unfolding run_token is_label
digit_token r h =
    let n95 : (slice_index r 0 == 95) ≡ false = grind (arith, nat_tests) in
    let n98 : (slice_index r 0 == 98) ≡ false = grind (arith, nat_tests) in
    let letter : is_ascii_alphabetic (slice_index r 0) ≡ false = grind (arith, nat_tests) in
    rw (n95, n98, letter) refl

local_token : (r : List ℕ) → run_token (95 ∷ r) ≡ cond (is_number r) (Numbered numberings.Local (value r)) Stray
unfolding run_token is_label is_number
local_token r = refl

label_token : (r : List ℕ) → run_token (98 ∷ 98 ∷ r) ≡ cond (is_number r) (Numbered numberings.Label (value r)) (word (98 ∷ 98 ∷ r) (keyword_of (98 ∷ 98 ∷ r)))
unfolding run_token is_label is_number
label_token r = refl

label_run : (bytes : List ℕ) → slice_index bytes 0 ≡ 98 → slice_index bytes 1 ≡ 98 → run bytes ≡ 98 ∷ 98 ∷ run (drop 2 bytes)
label_run [] e f = absurd (omega (arith, e))
label_run (a ∷ []) e f = absurd (omega (arith, f))
label_run (a ∷ b ∷ bytes) e f =
    ap (λ (n : ℕ). run (n ∷ b ∷ bytes)) e ∙ ap (λ (n : ℕ). run (98 ∷ n ∷ bytes)) f ∙ run-cons 98 (98 ∷ bytes) refl ∙ ap (λ (l : List ℕ). 98 ∷ l) (run-cons 98 bytes refl)

label_rest : (bytes rest : List ℕ) → slice_index bytes 0 ≡ 98 → slice_index bytes 1 ≡ 98 → rest ≡ drop 2 bytes → run bytes ≡ 98 ∷ 98 ∷ run rest
label_rest bytes rest first second rest-is = label_run bytes first second ∙ ap (λ (l : List ℕ). 98 ∷ 98 ∷ run l) (sym rest-is)

label_or_word : (bytes rest : List ℕ) (t : Bool) → slice_index bytes 0 ≡ 98 → slice_index bytes 1 ≡ 98 → rest ≡ drop 2 bytes → is_number (run rest) ≡ t
    → run_token (run bytes) ≡ cond t (Numbered numberings.Label (value (run rest))) (word (run bytes) (keyword_of (run bytes)))
label_or_word bytes rest t first second rest-is number =
    let e : run bytes ≡ 98 ∷ 98 ∷ run rest = label_rest bytes rest first second rest-is in
    ap run_token e ∙ label_token (run rest)
    ∙ ap (λ (u : Bool). cond u (Numbered numberings.Label (value (run rest))) (word (98 ∷ 98 ∷ run rest) (keyword_of (98 ∷ 98 ∷ run rest)))) number
    ∙ ap (λ (l : List ℕ). cond t (Numbered numberings.Label (value (run rest))) (word l (keyword_of l))) (sym e)

-- `bb` and a number
pub label_number : (bytes rest digits : List ℕ) → slice_index bytes 0 ≡ 98 → slice_index bytes 1 ≡ 98 → rest ≡ drop 2 bytes → digits ≡ run rest
    → is_number (run rest) ≡ true → Numbered numberings.Label (value digits) ≡ run_token (run bytes)
label_number bytes rest digits first second rest-is digits-are number =
    ap (λ (d : List ℕ). Numbered numberings.Label (value d)) digits-are ∙ sym (label_or_word bytes rest true first second rest-is number)

-- another word that begins with `bb`
pub label_word : (bytes rest digits : List ℕ) → slice_index bytes 0 ≡ 98 → slice_index bytes 1 ≡ 98 → rest ≡ drop 2 bytes → digits ≡ run rest
    → is_number (run rest) ≡ false → word (take (2 + length digits) bytes) (keyword_of (take (2 + length digits) bytes)) ≡ run_token (run bytes)
label_word bytes rest digits first second rest-is digits-are number =
    let e : run bytes ≡ 98 ∷ 98 ∷ run rest = label_rest bytes rest first second rest-is in
    let n : 2 + length digits ≡ prefix_len is_run_byte bytes = omega (arith, ap (λ (l : List ℕ). length l) digits-are, ap (λ (l : List ℕ). length l) e, length-prefix_len is_run_byte bytes) in
    ap (λ k. word (take k bytes) (keyword_of (take k bytes))) n ∙ sym (label_or_word bytes rest false first second rest-is number)

letter_in_run : (b : ℕ) → is_ascii_alphabetic b ≡ true → is_run_byte b ≡ true
letter_in_run b h = grind (arith, nat_tests)

-- a text begins with `b` if its run does
second_b : (bytes : List ℕ) → slice_index (run bytes) 0 ≡ 98 → slice_index bytes 0 ≡ 98
second_b [] e = e
second_b (b ∷ bytes) e =
    elim (cases_Bool (is_run_byte b)) [
      | inl holds ↦ ap (λ (l : List ℕ). slice_index l 0) (sym (run-cons b bytes holds)) ∙ e
      | inr fails ↦ absurd (omega (arith, ap (λ (l : List ℕ). slice_index l 0) (take_while-cons is_run_byte b bytes ∙ ap (λ t. cond t (b ∷ run bytes) []) fails), e))
    ]

letter_run_token : (b : ℕ) (r : List ℕ) → is_ascii_alphabetic b ≡ true → (b == 98 && slice_index r 0 == 98) ≡ false → run_token (b ∷ r) ≡ word (b ∷ r) (keyword_of (b ∷ r))
unfolding run_token is_label is_number
letter_run_token b r letter not_label =
    let digit : is_ascii_digit b ≡ false = grind (arith, nat_tests) in
    let n95 : (b == 95) ≡ false = grind (arith, nat_tests) in
    elim (cases_Bool (b == 98)) [
      | inl holds ↦
          let second : (slice_index r 0 == 98) ≡ false = ap (λ (t : Bool). t && slice_index r 0 == 98) (sym holds) ∙ not_label in
          rw (digit, n95, holds, second, letter) refl
      | inr fails ↦ rw (digit, n95, fails, letter) refl
    ]

pub letter_token : (bytes : List ℕ) → is_ascii_alphabetic (slice_index bytes 0) ≡ true → ((slice_index bytes 0 ≡ 98) × (slice_index bytes 1 ≡ 98) → ⊥)
    → run_token (run bytes) ≡ word (run bytes) (keyword_of (run bytes))
letter_token [] letter not_label = absurd (grind (arith, letter))
letter_token (b ∷ bytes) letter not_label =
    let e : run (b ∷ bytes) ≡ b ∷ run bytes = run-cons b bytes (letter_in_run b letter) in
    elim (cases_Bool (b == 98 && slice_index (run bytes) 0 == 98)) [
      | inl holds ↦
          let parts = and_parts (b == 98) (slice_index (run bytes) 0 == 98) holds in
          let one : b ≡ 98 = grind (arith, nat_tests, parts.0) in
          let two : slice_index (run bytes) 0 ≡ 98 = grind (arith, nat_tests, parts.1) in
          absurd (not_label (one, second_b bytes two))
      | inr fails ↦ rw e (letter_run_token b (run bytes) letter fails)
    ]

-- a keyword, and another word
pub letter_keyword : (bytes : List ℕ) (keyword : Symbol) → is_ascii_alphabetic (slice_index bytes 0) ≡ true → ((slice_index bytes 0 ≡ 98) × (slice_index bytes 1 ≡ 98) → ⊥)
    → Some keyword ≡ keyword_of (run bytes) → Fixed keyword ≡ run_token (run bytes)
letter_keyword bytes keyword letter not_label e = ap (λ (o : Option Symbol). word (run bytes) o) e ∙ sym (letter_token bytes letter not_label)

pub letter_word : (bytes : List ℕ) → is_ascii_alphabetic (slice_index bytes 0) ≡ true → ((slice_index bytes 0 ≡ 98) × (slice_index bytes 1 ≡ 98) → ⊥)
    → None ≡ keyword_of (run bytes) → Word (run bytes) ≡ run_token (run bytes)
letter_word bytes letter not_label e = ap (λ (o : Option Symbol). word (run bytes) o) e ∙ sym (letter_token bytes letter not_label)

-- ---- the token at the front of a text, by its first byte

lexeme_run : (bytes : List ℕ) → is_run_byte (slice_index bytes 0) ≡ true → (run_token (run bytes), length (run bytes)) ≡ lexeme bytes
unfolding lexeme
lexeme_run bytes h = rw h refl

first_of_run : (bytes : List ℕ) → is_run_byte (slice_index bytes 0) ≡ true → slice_index (run bytes) 0 ≡ slice_index bytes 0
first_of_run [] h = refl
first_of_run (b ∷ bytes) h = ap (λ (l : List ℕ). slice_index l 0) (run-cons b bytes h)

pub lexeme_digit : (bytes : List ℕ) (token : Token) (len : ℕ) → 48 ≤ slice_index bytes 0 → slice_index bytes 0 ≤ 57
    → token ≡ cond (is_number (run bytes)) (Numbered numberings.Number (value (run bytes))) Stray → len ≡ length (run bytes) → (token, len) ≡ lexeme bytes
lexeme_digit bytes token len low high is-token is-len =
    let digit : is_ascii_digit (slice_index bytes 0) ≡ true = grind (arith, nat_tests) in
    let h : is_run_byte (slice_index bytes 0) ≡ true = digit_in_run (slice_index bytes 0) digit in
    let digit2 : is_ascii_digit (slice_index (run bytes) 0) ≡ true = ap is_ascii_digit (first_of_run bytes h) ∙ digit in
    ap (λ (t : Token). (t, len)) (is-token ∙ sym (digit_token (run bytes) digit2)) ∙ ap (λ (n : ℕ). (run_token (run bytes), n)) is-len ∙ lexeme_run bytes h

pub lexeme_letter : (bytes : List ℕ) (token : Token) (len : ℕ) → is_ascii_alphabetic (slice_index bytes 0) ≡ true
    → token ≡ run_token (run bytes) → len ≡ length (run bytes) → (token, len) ≡ lexeme bytes
lexeme_letter bytes token len letter is-token is-len =
    ap (λ (t : Token). (t, len)) is-token ∙ ap (λ (n : ℕ). (run_token (run bytes), n)) is-len ∙ lexeme_run bytes (letter_in_run (slice_index bytes 0) letter)

lexeme_local_cons : (bytes : List ℕ) (token : Token) (len : ℕ) → token ≡ cond (is_number (run bytes)) (Numbered numberings.Local (value (run bytes))) Stray
    → len ≡ length (run bytes) → (token, 1 + len) ≡ lexeme (95 ∷ bytes)
lexeme_local_cons bytes token len is-token is-len =
    let e : run (95 ∷ bytes) ≡ 95 ∷ run bytes = run-cons 95 bytes refl in
    let t : token ≡ run_token (run (95 ∷ bytes)) = is-token ∙ sym (local_token (run bytes)) ∙ ap run_token (sym e) in
    let n : 1 + len ≡ length (run (95 ∷ bytes)) = omega (arith, is-len, ap (λ (l : List ℕ). length l) e) in
    ap (λ (t : Token). (t, 1 + len)) t ∙ ap (λ (n : ℕ). (run_token (run (95 ∷ bytes)), n)) n ∙ lexeme_run (95 ∷ bytes) refl

pub lexeme_local : (bytes rest : List ℕ) (token : Token) (len : ℕ) → slice_index bytes 0 ≡ 95 → rest ≡ drop 1 bytes
    → token ≡ cond (is_number (run rest)) (Numbered numberings.Local (value (run rest))) Stray
    → len ≡ length (run rest) → (token, 1 + len) ≡ lexeme bytes
lexeme_local bytes rest token len first rest-is is-token is-len =
    lexeme_local_cons rest token len is-token is-len ∙ ap (λ (l : List ℕ). lexeme (95 ∷ l)) rest-is ∙ ap lexeme (sym (begins_with 94 bytes first))

variable_at : (bytes : List ℕ) → slice_index bytes 0 ≡ 63 → lexeme (39 ∷ bytes) ≡ (variable_token (run (drop 1 bytes)), 2 + length (run (drop 1 bytes)))
unfolding lexeme
variable_at bytes first = rw first refl

variable_is : (r : List ℕ) → variable_token r ≡ cond (is_number r) (Numbered numberings.Variable (value r)) Stray
unfolding variable_token
variable_is r = refl

pub lexeme_variable : (bytes rest : List ℕ) (token : Token) (len : ℕ) → slice_index bytes 0 ≡ 63 → rest ≡ drop 1 bytes
    → token ≡ cond (is_number (run rest)) (Numbered numberings.Variable (value (run rest))) Stray
    → len ≡ length (run rest) → (token, 1 + (1 + len)) ≡ lexeme (39 ∷ bytes)
lexeme_variable bytes rest token len first rest-is is-token is-len =
    let n : 1 + (1 + len) ≡ 2 + length (run rest) = omega (arith, is-len) in
    ap (λ (t : Token). (t, 1 + (1 + len))) (is-token ∙ sym (variable_is (run rest))) ∙ ap (λ (k : ℕ). (variable_token (run rest), k)) n
    ∙ ap (λ (l : List ℕ). (variable_token (run l), 2 + length (run l))) rest-is ∙ sym (variable_at bytes first)

pub lexeme_region : (bytes : List ℕ) (token : Token) (len : ℕ) → slice_index bytes 0 ≢ 63
    → token ≡ region_token (run bytes) → len ≡ length (run bytes) → (token, 1 + len) ≡ lexeme (39 ∷ bytes)
unfolding lexeme
lexeme_region bytes token len first is-token is-len =
    let no : (slice_index bytes 0 == 63) ≡ false = grind (arith, nat_tests) in
    rw (no, is-token, is-len) refl

pub lexeme_arrow : (bytes : List ℕ) → slice_index bytes 0 ≡ 45 → slice_index bytes 1 ≡ 62 → (Fixed Arrow, 2) ≡ lexeme bytes
unfolding lexeme
lexeme_arrow bytes first second = rw (first, second) refl

pub lexeme_high : (bytes : List ℕ) → 128 ≤ slice_index bytes 0 → (NotAscii, 1) ≡ lexeme bytes
unfolding lexeme
lexeme_high bytes high =
    let other : is_run_byte (slice_index bytes 0) ≡ false = grind (arith, nat_tests) in
    let n39 : (slice_index bytes 0 == 39) ≡ false = grind (arith, nat_tests) in
    let n45 : (slice_index bytes 0 == 45) ≡ false = grind (arith, nat_tests) in
    let n128 : nat_le 128 (slice_index bytes 0) ≡ true = grind (arith, nat_tests) in
    rw (other, n39, n45, n128) refl

pub lexeme_sign : (bytes : List ℕ) (token : Token) → is_run_byte (slice_index bytes 0) ≡ false → slice_index bytes 0 ≢ 39 → (slice_index bytes 0 ≡ 45 → slice_index bytes 1 ≢ 62)
    → slice_index bytes 0 < 128 → token ≡ sign_token (sign_of (slice_index bytes 0)) → (token, 1) ≡ lexeme bytes
unfolding lexeme
lexeme_sign bytes token other quote arrow low is-token =
    let n39 : (slice_index bytes 0 == 39) ≡ false = grind (arith, nat_tests) in
    let n45 : (slice_index bytes 0 == 45 && slice_index bytes 1 == 62) ≡ false = grind (arith, nat_tests, arrow) in
    let n128 : nat_le 128 (slice_index bytes 0) ≡ false = grind (arith, nat_tests) in
    rw (other, n39, n45, n128, is-token) refl

-- ---- signs below `?`

abbrev IsSign : ℕ → Type 0
IsSign b = (is_run_byte b ≡ false) × ((b == 39) ≡ false) × ((b == 45) ≡ false) × (nat_le 128 b ≡ false)

all_signs : AllByRecursion (λ s. IsSign (slice_index (text s) 0)) SIGNS
unfolding text
all_signs = (
  (refl, refl, refl, refl),
  (
    (refl, refl, refl, refl),
    (
      (refl, refl, refl, refl),
      (
        (refl, refl, refl, refl),
        (
          (refl, refl, refl, refl),
          (
            (refl, refl, refl, refl),
            (
              (refl, refl, refl, refl),
              (
                (refl, refl, refl, refl),
                (
                  (refl, refl, refl, refl),
                  (
                    (refl, refl, refl, refl),
                    (
                      (refl, refl, refl, refl),
                      (
                        (refl, refl, refl, refl),
                        ((refl, refl, refl, refl), ((refl, refl, refl, refl), ((refl, refl, refl, refl), ((refl, refl, refl, refl), tt)))),
                      ),
                    ),
                  ),
                ),
              ),
            ),
          ),
        ),
      ),
    ),
  ),
)

is_sign : (b : ℕ) (s : Symbol) → sign_of b ≡ Some s → IsSign b
unfolding sign_of
is_sign b s e =
    let h = found_in (λ s. bytes_eq (text s) (b ∷ [])) (λ s. IsSign (slice_index (text s) 0)) SIGNS all_signs s e in
    subst IsSign (ap (λ (l : List ℕ). slice_index l 0) (is_text (text s) (b ∷ []) h.0)) h.1

low_is : (t : Bool) (o : Option Symbol) (s : Symbol) → Some s ≡ cond t o None → o ≡ Some s
low_is true o s e = sym e
low_is false o s e = absurd cc

pub lexeme_low : (bytes : List ℕ) (s : Symbol) → Some s ≡ cond (nat_lt (slice_index bytes 0) 63) (sign_of (slice_index bytes 0)) None → (Fixed s, 1) ≡ lexeme bytes
unfolding lexeme
lexeme_low bytes s e =
    let sign : sign_of (slice_index bytes 0) ≡ Some s = low_is (nat_lt (slice_index bytes 0) 63) (sign_of (slice_index bytes 0)) s e in
    let h = is_sign (slice_index bytes 0) s sign in
    rw (h.0, h.1, h.2, h.3, sign) refl
