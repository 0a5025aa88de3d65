-- Words that name things: regions, structs and extern functions.
use Rattle.std.specs.Prelude.{ℕ, Bool, not, ◌||◌, ◌&&◌, ◌==◌, nat_le, List, length, drop, slice_index, is_some}
use Rattle.std.specs.Char.{is_ascii_digit, is_ascii_alphabetic, is_ascii_lowercase}
use Rattle.std.specs.List.{list_all}
use Rattle.bc_syntax.specs.Bytes.{is_run_byte}
use Rattle.bc_syntax.specs.Symbol.{keyword_of}

-- the byte is a lower-case letter, a digit or `_`
abbrev pub is_region_byte : ℕ → Bool
is_region_byte b = is_ascii_lowercase b || is_ascii_digit b || b == 95

-- the bytes are `0`, or digits without a leading zero
unfoldable pub is_number : List ℕ → Bool
is_number digits = list_all is_ascii_digit digits && nat_le 1 (length digits) && (length digits == 1 || not (slice_index digits 0 == 48))

-- the bytes are the name of a region: a lower-case letter, then such letters, digits and `_`
unfoldable pub is_region_name : List ℕ → Bool
is_region_name name = is_ascii_lowercase (slice_index name 0) && list_all is_region_byte name

-- the run is `bb` and a number
unfoldable pub is_label : List ℕ → Bool
is_label run = slice_index run 0 == 98 && slice_index run 1 == 98 && is_number (drop 2 run)

-- the word is a keyword
abbrev pub is_keyword : List ℕ → Bool
is_keyword word = is_some (keyword_of word)

-- the bytes are letters, digits and `_` that begin with a letter, and no label or keyword
unfoldable pub is_word : List ℕ → Bool
is_word bytes = is_ascii_alphabetic (slice_index bytes 0) && list_all is_run_byte bytes && not (is_label bytes) && not (is_keyword bytes)
