use Rattle.std.proofs.Common.{◌≡◌, ◌<◌, ℕ, true, take, get_or}
use Rattle.std.specs.Char.{is_ascii_digit}
use Rattle.bc_tokens.specs.Token.{Counts, value}
use Rattle.bc_tokens.proofs.token.counted.Given as goal

abbrev pub invariant-loop-index : goal.invariant-loop-index
invariant-loop-index l = ((k : ℕ) → k < l.index → is_ascii_digit (get_or l.bytes k 0) ≡ true) × Counts l.number (value (take l.index l.bytes))
