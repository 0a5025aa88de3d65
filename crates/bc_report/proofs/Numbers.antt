-- The lengths of numbers.
use Rattle.std.proofs.Common.{ℕ, ◌^◌, ◌<◌, ◌≤◌, length, arith}
use Rattle.std.specs.Fmt.{decimal}
use Rattle.std.proofs.lemmas.Fmt.{length-decimal-le}

-- a number of 64 bits has at most 20 digits
pub decimal_has_20_digits : (n : ℕ) → n < 2 ^ 64 → length (decimal n) ≤ 20
decimal_has_20_digits n fits = length-decimal-le 20 n (omega arith) (omega arith) fits

-- a number of 16 bits has at most 5 digits
pub decimal_has_5_digits : (n : ℕ) → n < 2 ^ 16 → length (decimal n) ≤ 5
decimal_has_5_digits n fits = length-decimal-le 5 n (omega arith) (omega arith) (omega arith)
