-- The printed text of tokens has one line feed, after the last token.
use Rattle.std.proofs.Common.{◌≡◌, ℕ, ◌*◌, ◌+◌, ◌-◌, ◌<◌, ◌^◌, Bool, true, List, [], ◌∷◌, ◌++◌, refl, arith, rules}
use Rattle.std.specs.Prelude.{not, ◌&&◌, ◌==◌, decimal, fold, slice_index}
use Rattle.std.specs.Char.{is_ascii_digit, is_ascii_alphabetic, is_ascii_lowercase}
use Rattle.std.specs.List.{list_all}
use Rattle.std.proofs.lemmas.Bool.{and_parts, and_from}
use Rattle.std.proofs.lemmas.Bool.Decides.{nat_tests}
use Rattle.std.proofs.lemmas.Str.Parse.{IsNumeralModel, numerals_by_fold}
use Rattle.std.proofs.lemmas.Fmt.{digits_decimal}
use Rattle.bc_syntax.specs.declared.symbol.Symbol.{Symbol}
use Rattle.bc_syntax.specs.declared.symbol.Symbol.TheVariants as s
use Rattle.bc_syntax.specs.declared.numbering.Numbering.TheVariants as n
use Rattle.bc_syntax.specs.Bytes.{is_run_byte}
use Rattle.bc_syntax.specs.Symbol.{text}
use Rattle.bc_syntax.specs.Words.{is_region_byte, is_region_name, is_word, is_label, is_keyword}
use Rattle.bc_syntax.specs.Token.{Token, Fixed, Numbered, Word, Region, NotAscii, Stray, End}
use Rattle.bc_print.specs.Printing.{token_text, spaced, texts}
use Rattle.bc_text_laws.proofs.Lexemes.{IsWhole}
use Rattle.bc_text_laws.proofs.Printed.{AllWhole}

-- the byte is no line feed
abbrev pub is_ink : ℕ → Bool
is_ink b = not (b == 10)

abbrev pub IsInk : List ℕ → Type 0
IsInk bytes = list_all is_ink bytes ≡ true

pub joined : (x y : List ℕ) → IsInk x → IsInk y → IsInk (x ++ y)
joined [] y p q = q
joined (b ∷ x) y p q = let parts = and_parts (is_ink b) (list_all is_ink x) p in and_from (is_ink b) (list_all is_ink (x ++ y)) parts.0 (joined x y parts.1 q)

-- bytes that pass a test that line feeds fail
passed : (p : ℕ → Bool) → ((b : ℕ) → p b ≡ true → is_ink b ≡ true) → (bytes : List ℕ) → list_all p bytes ≡ true → IsInk bytes
passed p to [] h = refl
passed p to (b ∷ bytes) h =
    let parts = and_parts (p b) (list_all p bytes) h in
    and_from (is_ink b) (list_all is_ink bytes) (to b parts.0) (passed p to bytes parts.1)

digit_ink : (b : ℕ) → is_ascii_digit b ≡ true → is_ink b ≡ true
digit_ink b h = grind (arith, nat_tests)

run_ink : (b : ℕ) → is_run_byte b ≡ true → is_ink b ≡ true
run_ink b h = grind (arith, nat_tests)

region_ink : (b : ℕ) → is_region_byte b ≡ true → is_ink b ≡ true
region_ink b h = grind (arith, nat_tests)

digits : IsNumeralModel (λ ds. list_all is_ascii_digit ds ≡ true) (λ ds. fold (λ m b. m * 10 + (b - 48)) 0 ds)
digits = numerals_by_fold (λ ds. list_all is_ascii_digit ds ≡ true) (search rules) (λ k ds. fold (λ m b. m * 10 + (b - 48)) k ds) (search rules)

number_ink : (k : ℕ) → k < 2 ^ 64 → IsInk (decimal k)
number_ink k h = passed is_ascii_digit digit_ink (decimal k) (digits_decimal digits k h)

word_ink : (name : List ℕ) → is_word name ≡ true → IsInk name
unfolding is_word
word_ink name h =
    let first = is_ascii_alphabetic (slice_index name 0) in
    let all = list_all is_run_byte name in
    let c = and_parts ((first && all) && not (is_label name)) (not (is_keyword name)) h in
    let b = and_parts (first && all) (not (is_label name)) c.0 in
    passed is_run_byte run_ink name (and_parts first all b.0).1

name_ink : (name : List ℕ) → is_region_name name ≡ true → IsInk name
unfolding is_region_name
name_ink name h = passed is_region_byte region_ink name (and_parts (is_ascii_lowercase (slice_index name 0)) (list_all is_region_byte name) h).1

symbol_ink : (symbol : Symbol) → IsInk (text symbol)
unfolding text
symbol_ink s.Fn = refl
symbol_ink s.Closure = refl
symbol_ink s.Where = refl
symbol_ink s.Let = refl
symbol_ink s.Int = refl
symbol_ink s.Mut = refl
symbol_ink s.Copy = refl
symbol_ink s.Move = refl
symbol_ink s.Calc = refl
symbol_ink s.Dead = refl
symbol_ink s.Drop = refl
symbol_ink s.Nop = refl
symbol_ink s.Goto = refl
symbol_ink s.If = refl
symbol_ink s.Call = refl
symbol_ink s.Invoke = refl
symbol_ink s.Return = refl
symbol_ink s.Stop = refl
symbol_ink s.Struct = refl
symbol_ink s.Extern = refl
symbol_ink s.OpenParen = refl
symbol_ink s.CloseParen = refl
symbol_ink s.OpenBrace = refl
symbol_ink s.CloseBrace = refl
symbol_ink s.OpenBracket = refl
symbol_ink s.CloseBracket = refl
symbol_ink s.Less = refl
symbol_ink s.Greater = refl
symbol_ink s.Comma = refl
symbol_ink s.Semicolon = refl
symbol_ink s.Colon = refl
symbol_ink s.Equals = refl
symbol_ink s.Plus = refl
symbol_ink s.Ampersand = refl
symbol_ink s.Dot = refl
symbol_ink s.Star = refl
symbol_ink s.Arrow = refl

token_ink : (t : Token) → IsWhole t → IsInk (token_text t)
token_ink (Fixed symbol) whole = symbol_ink symbol
token_ink (Numbered n.Number k) whole = number_ink k whole
token_ink (Numbered n.Local k) whole = number_ink k whole
token_ink (Numbered n.Label k) whole = number_ink k whole
token_ink (Numbered n.Variable k) whole = number_ink k whole
token_ink (Word name) whole = word_ink name whole
token_ink (Region name) whole = name_ink name whole
token_ink NotAscii whole = absurd whole
token_ink Stray whole = absurd whole
token_ink End whole = absurd whole

spaced_ink : (ts : List Token) → AllWhole ts → IsInk (spaced ts)
unfolding spaced
spaced_ink [] whole = refl
spaced_ink (t ∷ ts) whole = joined (token_text t) (spaced ts) (token_ink t whole.0) (spaced_ink ts whole.1)

pub texts_ink : (ts : List Token) → AllWhole ts → IsInk (texts ts)
texts_ink [] whole = refl
texts_ink (t ∷ ts) whole = joined (token_text t) (spaced ts) (token_ink t whole.0) (spaced_ink ts whole.1)
