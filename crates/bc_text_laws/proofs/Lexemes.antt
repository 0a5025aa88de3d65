-- The text of a token, with a blank after it, is cut into that token again.
use Rattle.std.proofs.Common.{◌≡◌, ℕ, zero, suc, ◌+◌, ◌-◌, ◌*◌, ◌^◌, ◌<◌, Bool, true, false, cond, List, [], ◌∷◌, ◌++◌, length, Option, Some, None, refl, ap, ◌∙◌, inl, inr, arith, rules}
use Rattle.std.specs.Prelude.{is_some, slice_index, decimal, not, ◌&&◌, ◌==◌, ◌⊎◌, fold}
use Rattle.std.specs.Char.{is_ascii_digit, is_ascii_alphabetic, is_ascii_lowercase}
use Rattle.std.specs.List.{list_all}
use Rattle.std.proofs.lemmas.Bool.{and_parts, and_from, not-true}
use Rattle.std.proofs.lemmas.Bool.Decides.{nat_tests}
use Rattle.std.proofs.lemmas.List.Sums.{take_while-cons}
use Rattle.std.proofs.lemmas.Str.Parse.{IsNumeralModel, numerals_by_fold}
use Rattle.std.proofs.lemmas.Fmt.{digits_decimal, digits_value-decimal, decimal_digit, decimal_nonempty, first_decimal}
use Rattle.bc_syntax.specs.declared.symbol.Symbol.{Symbol}
use Rattle.bc_syntax.specs.declared.symbol.Symbol.TheVariants as s
use Rattle.bc_syntax.specs.declared.numbering.Numbering.TheVariants as n
use Rattle.bc_syntax.specs.Bytes.{is_run_byte, run}
use Rattle.bc_syntax.specs.Symbol.{text, keyword_of, sign_of}
use Rattle.bc_syntax.specs.Words.{is_region_byte, is_number, is_region_name, is_label, is_keyword, is_word}
use Rattle.bc_syntax.specs.Token.{Token, Fixed, Numbered, Word, Region, NotAscii, Stray, End}
use Rattle.bc_tokens.specs.Token.{is_blank, value, run_token, region_token, variable_token, lexeme}
use Rattle.bc_print.specs.Printing.{token_text}
use Rattle.bc_tokens.proofs.Runs.{more, digit_in_run, region_in_run}

-- a token that texts have, other than the end
abbrev pub IsWhole : Token → Type 0
IsWhole (Fixed symbol) = Unit {0}
IsWhole (Numbered numbering number) = number < 2 ^ 64
IsWhole (Word name) = is_word name ≡ true
IsWhole (Region name) = is_region_name name ≡ true
IsWhole NotAscii = ⊥
IsWhole Stray = ⊥
IsWhole End = ⊥

-- ---- runs

run_stops : (r : List ℕ) (w : ℕ) (rest : List ℕ) → list_all is_run_byte r ≡ true → is_run_byte w ≡ false → run (r ++ w ∷ rest) ≡ r
run_stops [] w rest all other = take_while-cons is_run_byte w rest ∙ ap (λ t. cond t (w ∷ run rest) []) other
run_stops (b ∷ r) w rest all other =
    let p = and_parts (is_run_byte b) (list_all is_run_byte r) all in
    take_while-cons is_run_byte b (r ++ w ∷ rest) ∙ ap (λ t. cond t (b ∷ run (r ++ w ∷ rest)) []) p.0 ∙ ap (λ (l : List ℕ). b ∷ l) (run_stops r w rest p.1 other)

blank_ends : (w : ℕ) → is_blank w ≡ true → is_run_byte w ≡ false
blank_ends w h = grind (arith, nat_tests)

-- bytes that pass a test pass a weaker one
all_pass : (p q : ℕ → Bool) → ((b : ℕ) → p b ≡ true → q b ≡ true) → (bytes : List ℕ) → list_all p bytes ≡ true → list_all q bytes ≡ true
all_pass p q to [] h = refl
all_pass p q to (b ∷ bytes) h =
    let parts = and_parts (p b) (list_all p bytes) h in
    and_from (q b) (list_all q bytes) (to b parts.0) (all_pass p q to bytes parts.1)

chosen_true : {A : Type 0} (b : Bool) (x y : A) → b ≡ true → cond b x y ≡ x
chosen_true true x y e = refl
chosen_true false x y e = absurd cc

run_lexeme : (r : List ℕ) (w : ℕ) (rest : List ℕ) → list_all is_run_byte r ≡ true → 0 < length r → is_blank w ≡ true → lexeme (r ++ w ∷ rest) ≡ (run_token r, length r)
unfolding lexeme
run_lexeme [] w rest all some blank = absurd (omega arith)
run_lexeme (b ∷ r) w rest all some blank =
    let p = and_parts (is_run_byte b) (list_all is_run_byte r) all in
    let e = run_stops (b ∷ r) w rest all (blank_ends w blank) in
    chosen_true (is_run_byte b) _ _ p.0 ∙ ap (λ (l : List ℕ). (run_token l, length l)) e

-- ---- numbers

digits : IsNumeralModel (λ ds. list_all is_ascii_digit ds ≡ true) value
digits = numerals_by_fold (λ ds. list_all is_ascii_digit ds ≡ true) (search rules) (λ n ds. fold (λ m b. m * 10 + (b - 48)) n ds) (search rules)

is_number_of : (ds : List ℕ) → list_all is_ascii_digit ds ≡ true → 0 < length ds → (48 < slice_index ds 0) ⊎ (length ds ≡ 1) → is_number ds ≡ true
unfolding is_number
is_number_of ds all some first = grind (arith, nat_tests)

decimal_is_number : (k : ℕ) → k < 2 ^ 64 → is_number (decimal k) ≡ true
decimal_is_number zero h = is_number_of (decimal 0) (digits_decimal digits 0 h) (decimal_nonempty 0 h) (inr (ap length (decimal_digit 0 (omega arith))))
decimal_is_number (suc k) h = is_number_of (decimal (suc k)) (digits_decimal digits (suc k) h) (decimal_nonempty (suc k) h) (inl (first_decimal (suc k) (omega arith) h))

decimal_in_run : (k : ℕ) → k < 2 ^ 64 → list_all is_run_byte (decimal k) ≡ true
decimal_in_run k h = all_pass is_ascii_digit is_run_byte digit_in_run (decimal k) (digits_decimal digits k h)

value_decimal : (k : ℕ) → k < 2 ^ 64 → value (decimal k) ≡ k
value_decimal k h = digits_value-decimal digits k h

number_run : (k : ℕ) → k < 2 ^ 64 → run_token (decimal k) ≡ Numbered n.Number k
unfolding run_token
number_run k h = rw (decimal_is_number k h, value_decimal k h) refl

no_number : (b : ℕ) (r : List ℕ) → is_ascii_digit b ≡ false → is_number (b ∷ r) ≡ false
unfolding is_number
no_number b r h = rw h refl

local_run : (k : ℕ) → k < 2 ^ 64 → run_token (95 ∷ decimal k) ≡ Numbered n.Local k
unfolding run_token
local_run k h = rw (no_number 95 (decimal k) refl, decimal_is_number k h, value_decimal k h) refl

label_run : (k : ℕ) → k < 2 ^ 64 → run_token (98 ∷ 98 ∷ decimal k) ≡ Numbered n.Label k
unfolding run_token is_label
label_run k h = rw (no_number 98 (98 ∷ decimal k) refl, decimal_is_number k h, value_decimal k h) refl

-- ---- words

not_found : (o : Option Symbol) → not (is_some o) ≡ true → o ≡ None
not_found None h = refl
not_found (Some symbol) h = absurd cc

no_digit : (b : ℕ) → is_ascii_alphabetic b ≡ true → is_ascii_digit b ≡ false
no_digit b h = grind (arith, nat_tests)

no_underscore : (b : ℕ) → is_ascii_alphabetic b ≡ true → (b == 95) ≡ false
no_underscore b h = grind (arith, nat_tests)

pub record WordParts (r : List ℕ) : Type 0 where
  pub first : is_ascii_alphabetic (slice_index r 0) ≡ true
  pub all : list_all is_run_byte r ≡ true
  pub label : is_label r ≡ false
  pub keyword : keyword_of r ≡ None

word_parts : (r : List ℕ) → is_word r ≡ true → WordParts r
unfolding is_word
word_parts r h =
    let first = is_ascii_alphabetic (slice_index r 0) in
    let all = list_all is_run_byte r in
    let c = and_parts ((first && all) && not (is_label r)) (not (is_keyword r)) h in
    let b = and_parts (first && all) (not (is_label r)) c.0 in
    let a = and_parts first all b.0 in
    record { first = a.0; all = a.1; label = not-true (is_label r) b.1; keyword = not_found (keyword_of r) c.1 }

word_run : (r : List ℕ) → is_word r ≡ true → run_token r ≡ Word r
unfolding run_token
word_run [] h = let parts = word_parts [] h in let first = parts.first in absurd cc
word_run (b ∷ r) h =
    let parts = word_parts (b ∷ r) h in
    rw (no_number b r (no_digit b parts.first), no_underscore b parts.first, parts.label, parts.first, parts.keyword) refl

-- ---- regions and variables

no_question : (b : ℕ) → is_ascii_lowercase b ≡ true → (b == 63) ≡ false
no_question b h = grind (arith, nat_tests)

two_more : (k : ℕ) → 2 + k ≡ suc (suc k)
two_more k = omega arith

name_parts : (r : List ℕ) → is_region_name r ≡ true → (is_ascii_lowercase (slice_index r 0) ≡ true) × (list_all is_region_byte r ≡ true)
unfolding is_region_name
name_parts r h = and_parts (is_ascii_lowercase (slice_index r 0)) (list_all is_region_byte r) h

region_lexeme : (r : List ℕ) (w : ℕ) (rest : List ℕ) → is_region_name r ≡ true → is_blank w ≡ true → lexeme (39 ∷ (r ++ w ∷ rest)) ≡ (Region r, suc (length r))
unfolding lexeme region_token
region_lexeme [] w rest h blank = let parts = name_parts [] h in let first = parts.0 in absurd cc
region_lexeme (b ∷ r) w rest h blank =
    let parts = name_parts (b ∷ r) h in
    let e = run_stops (b ∷ r) w rest (all_pass is_region_byte is_run_byte region_in_run (b ∷ r) parts.1) (blank_ends w blank) in
    rw (no_question b parts.0, e, h) (ap (λ k. (Region (b ∷ r), k)) (more (length (b ∷ r))))

variable_lexeme : (k : ℕ) (w : ℕ) (rest : List ℕ) → k < 2 ^ 64 → is_blank w ≡ true → lexeme (39 ∷ 63 ∷ (decimal k ++ w ∷ rest)) ≡ (Numbered n.Variable k, suc (suc (length (decimal k))))
unfolding lexeme variable_token
variable_lexeme k w rest h blank =
    let e = run_stops (decimal k) w rest (decimal_in_run k h) (blank_ends w blank) in
    rw (e, decimal_is_number k h, value_decimal k h) (ap (λ m. (Numbered n.Variable k, m)) (two_more (length (decimal k))))

-- ---- symbols

symbol_space : (symbol : Symbol) (rest : List ℕ) → lexeme (text symbol ++ 32 ∷ rest) ≡ (Fixed symbol, length (text symbol))
unfolding lexeme run_token keyword_of sign_of text is_number is_label
symbol_space s.Fn rest = refl
symbol_space s.Closure rest = refl
symbol_space s.Where rest = refl
symbol_space s.Let rest = refl
symbol_space s.Int rest = refl
symbol_space s.Mut rest = refl
symbol_space s.Copy rest = refl
symbol_space s.Move rest = refl
symbol_space s.Calc rest = refl
symbol_space s.Dead rest = refl
symbol_space s.Drop rest = refl
symbol_space s.Nop rest = refl
symbol_space s.Goto rest = refl
symbol_space s.If rest = refl
symbol_space s.Call rest = refl
symbol_space s.Invoke rest = refl
symbol_space s.Return rest = refl
symbol_space s.Stop rest = refl
symbol_space s.Struct rest = refl
symbol_space s.Extern rest = refl
symbol_space s.OpenParen rest = refl
symbol_space s.CloseParen rest = refl
symbol_space s.OpenBrace rest = refl
symbol_space s.CloseBrace rest = refl
symbol_space s.OpenBracket rest = refl
symbol_space s.CloseBracket rest = refl
symbol_space s.Less rest = refl
symbol_space s.Greater rest = refl
symbol_space s.Comma rest = refl
symbol_space s.Semicolon rest = refl
symbol_space s.Colon rest = refl
symbol_space s.Equals rest = refl
symbol_space s.Plus rest = refl
symbol_space s.Ampersand rest = refl
symbol_space s.Dot rest = refl
symbol_space s.Star rest = refl
symbol_space s.Arrow rest = refl

symbol_line : (symbol : Symbol) (rest : List ℕ) → lexeme (text symbol ++ 10 ∷ rest) ≡ (Fixed symbol, length (text symbol))
unfolding lexeme run_token keyword_of sign_of text is_number is_label
symbol_line s.Fn rest = refl
symbol_line s.Closure rest = refl
symbol_line s.Where rest = refl
symbol_line s.Let rest = refl
symbol_line s.Int rest = refl
symbol_line s.Mut rest = refl
symbol_line s.Copy rest = refl
symbol_line s.Move rest = refl
symbol_line s.Calc rest = refl
symbol_line s.Dead rest = refl
symbol_line s.Drop rest = refl
symbol_line s.Nop rest = refl
symbol_line s.Goto rest = refl
symbol_line s.If rest = refl
symbol_line s.Call rest = refl
symbol_line s.Invoke rest = refl
symbol_line s.Return rest = refl
symbol_line s.Stop rest = refl
symbol_line s.Struct rest = refl
symbol_line s.Extern rest = refl
symbol_line s.OpenParen rest = refl
symbol_line s.CloseParen rest = refl
symbol_line s.OpenBrace rest = refl
symbol_line s.CloseBrace rest = refl
symbol_line s.OpenBracket rest = refl
symbol_line s.CloseBracket rest = refl
symbol_line s.Less rest = refl
symbol_line s.Greater rest = refl
symbol_line s.Comma rest = refl
symbol_line s.Semicolon rest = refl
symbol_line s.Colon rest = refl
symbol_line s.Equals rest = refl
symbol_line s.Plus rest = refl
symbol_line s.Ampersand rest = refl
symbol_line s.Dot rest = refl
symbol_line s.Star rest = refl
symbol_line s.Arrow rest = refl

pub blank_is : (w : ℕ) → is_blank w ≡ true → (w ≡ 32) ⊎ (w ≡ 10)
blank_is w h = grind (arith, nat_tests)

symbol_lexeme : (symbol : Symbol) (w : ℕ) (rest : List ℕ) → is_blank w ≡ true → lexeme (text symbol ++ w ∷ rest) ≡ (Fixed symbol, length (text symbol))
symbol_lexeme symbol w rest blank =
    elim (blank_is w blank) [
      | inl space ↦ ap (λ b. lexeme (text symbol ++ b ∷ rest)) space ∙ symbol_space symbol rest
      | inr line ↦ ap (λ b. lexeme (text symbol ++ b ∷ rest)) line ∙ symbol_line symbol rest
    ]

-- ---- tokens

some_word : (r : List ℕ) → is_word r ≡ true → 0 < length r
some_word [] h = let parts = word_parts [] h in let first = parts.first in absurd cc
some_word (b ∷ r) h = omega arith

pub token_lexeme : (t : Token) (w : ℕ) (rest : List ℕ) → IsWhole t → is_blank w ≡ true → lexeme (token_text t ++ w ∷ rest) ≡ (t, length (token_text t))
token_lexeme (Fixed symbol) w rest whole blank = symbol_lexeme symbol w rest blank
token_lexeme (Numbered n.Number k) w rest whole blank = run_lexeme (decimal k) w rest (decimal_in_run k whole) (decimal_nonempty k whole) blank ∙ ap (λ (t : Token). (t, length (decimal k))) (number_run k whole)
token_lexeme (Numbered n.Local k) w rest whole blank = run_lexeme (95 ∷ decimal k) w rest (decimal_in_run k whole) (omega arith) blank ∙ ap (λ (t : Token). (t, length (95 ∷ decimal k))) (local_run k whole)
token_lexeme (Numbered n.Label k) w rest whole blank = run_lexeme (98 ∷ 98 ∷ decimal k) w rest (decimal_in_run k whole) (omega arith) blank ∙ ap (λ (t : Token). (t, length (98 ∷ 98 ∷ decimal k))) (label_run k whole)
token_lexeme (Numbered n.Variable k) w rest whole blank = variable_lexeme k w rest whole blank
token_lexeme (Word r) w rest whole blank = run_lexeme r w rest (word_parts r whole).all (some_word r whole) blank ∙ ap (λ (t : Token). (t, length r)) (word_run r whole)
token_lexeme (Region r) w rest whole blank = region_lexeme r w rest whole blank
token_lexeme NotAscii w rest whole blank = absurd whole
token_lexeme Stray w rest whole blank = absurd whole
token_lexeme End w rest whole blank = absurd whole
