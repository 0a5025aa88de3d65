-- How a table of sets is stored: row after row in one block of words, each in the same number of whole words.
use Rattle.std.specs.Prelude.{◌≡◌, ℕ, ◌+◌, ◌*◌, ◌/◌, ◌<◌, ◌≤◌, Bool, false, List, map, length}
use Rattle.std.specs.List.{range_with_len}
use Rattle.bc_flow.specs.Packed.{bit}

-- the first `size` bits from word `at` on
unfoldable pub row_of : ℕ → List ℕ → ℕ → List Bool
row_of size words at = map (λ i. bit words (64 * at + i)) (range_with_len 0 size)

-- the table that the words store: its rows, each in `width` words
unfoldable pub table_of : ℕ → ℕ → ℕ → List ℕ → List (List Bool)
table_of rows width size words = map (λ n. row_of size words (n * width)) (range_with_len 0 rows)

-- there are as many words as the rows need, and no bit past the size of a row is set
pub record IsTable (rows width size : ℕ) (words : List ℕ) : Type 0 where
  pub count : length words ≡ rows * width
  pub wide : width ≡ (size + 63) / 64
  pub clean : (n i : ℕ) → n < rows → size ≤ i → i < 64 * width → bit words (64 * (n * width) + i) ≡ false
