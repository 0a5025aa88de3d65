-- The values of options.
use Rattle.std.proofs.Common.{◌≡◌, ◌<◌, ◌≤◌, ◌^◌, ℕ, Bool, List, [], ◌∷◌, Option, Some, None, Result, Ok, Err, true, false, refl, ap, arith, nat_lt}
use Rattle.std.specs.Prelude.{if◌then◌else◌, length}
use Rattle.std.specs.List.{list_all}
use Rattle.std.specs.Char.{digit_value}
use Rattle.std.specs.Result.{result_unwrap_or}
use Rattle.std.specs.Str.Parse.{AllDigits, IsNumeral, ParsesUnsigned, digits_value, without_leading_plus}
use Rattle.std.proofs.lemmas.Bool.{lt-ltb, ltb-true, leb-true}
use Rattle.clap.specs.Walk.{byte_or_zero}
use Rattle.clap.specs.ValueTests.{is_numeral}
use Rattle.clap.proofs.WalkLemmas.{both}
use Rattle.cli_line.specs.Values.{capacity_named, is_capacity, is_job_count, is_session_count, jobs_named, sessions_named}

-- the number of a word, if it is one of sessions
pub named : (word : List ℕ) (count : ℕ) (is_count : Bool) → count ≡ byte_or_zero word → is_count ≡ is_session_count count
    → (if is_count then Some count else None) ≡ sessions_named word
named word count is_count is fits = rw (fits, is) refl

-- the number of a word, if it is one of jobs
pub jobs_of : (word : List ℕ) (count : ℕ) (is_count : Bool) → count ≡ byte_or_zero word → is_count ≡ is_job_count count
    → (if is_count then Some count else None) ≡ jobs_named word
jobs_of word count is_count is fits = rw (fits, is) refl

-- digits, and their test
digits_pass : (ds : List ℕ) → AllDigits 10 ds → list_all (λ d. nat_lt (digit_value d) 10) ds ≡ true
digits_pass [] h = refl
digits_pass (d ∷ ds) h = rw (lt-ltb (digit_value d) 10 h.0) (digits_pass ds h.1)

digits_from : (ds : List ℕ) → list_all (λ d. nat_lt (digit_value d) 10) ds ≡ true → AllDigits 10 ds
digits_from [] e = tt
digits_from (d ∷ ds) e =
    let parts = both _ _ e in
    (ltb-true _ _ parts.0, digits_from ds parts.1)

numeral_passes : (ds : List ℕ) → IsNumeral 10 ds → is_numeral ds ≡ true
numeral_passes ds h = rw (lt-ltb 0 (length ds) h.0, digits_pass ds h.1) refl

numeral_from : (ds : List ℕ) → is_numeral ds ≡ true → IsNumeral 10 ds
numeral_from ds e =
    let parts = both _ _ e in
    (ltb-true _ _ parts.0, digits_from ds parts.1)

-- the choice by a test of a number
abbrev chosen : ℕ → Option ℕ
chosen count = if is_capacity count then Some count else None

-- a capacity is read from each word that names one
read : {E : Type 0} (word : List ℕ) (r : Result ℕ E) → ParsesUnsigned 32 10 word r → chosen (result_unwrap_or r 0) ≡ capacity_named word
read word (Ok n) h = rw (numeral_passes (without_leading_plus word) h.0.0) (ap chosen h.1)
read word (Err e) h = go (is_numeral (without_leading_plus word)) refl
  where
    large : (b : Bool) → is_capacity (digits_value 10 (without_leading_plus word)) ≡ b → is_numeral (without_leading_plus word) ≡ true
        → None ≡ chosen (digits_value 10 (without_leading_plus word))
    large false is numeral = rw is refl
    large true is numeral =
        let most : digits_value 10 (without_leading_plus word) ≤ 1000000 = leb-true _ _ (both _ _ is).1 in
        let small : digits_value 10 (without_leading_plus word) < 2 ^ 32 = omega arith in
        absurd (h (numeral_from (without_leading_plus word) numeral, small))

    go : (b : Bool) → is_numeral (without_leading_plus word) ≡ b → None ≡ capacity_named word
    go false is = rw is refl
    go true is = rw is (large (is_capacity (digits_value 10 (without_leading_plus word))) refl is)

-- the number of a word, if it is a capacity
pub capacity_of : {E : Type 0} (word : List ℕ) (count : ℕ) (r : Result ℕ E) (is_count : Bool) → ParsesUnsigned 32 10 word r → count ≡ result_unwrap_or r 0
    → is_count ≡ is_capacity count → (if is_count then Some count else None) ≡ capacity_named word
capacity_of word count r is_count parses is fits = rw (fits, is) (read word r parses)
