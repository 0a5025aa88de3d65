use Rattle.std.proofs.Common.{◌≡◌, ◌-◌, []}
use Rattle.bc_tokens.specs.Parser.{separated_from, sees_region}
use Rattle.bc_text.specs.Reading.{clause}
use Rattle.bc_text.proofs.reader.some_clauses.Given as goal

abbrev pub invariant-loop-turn : goal.invariant-loop-turn
invariant-loop-turn l = separated_from sees_region (clause l.regions) 32 [] l.initial.cursor ≡ separated_from sees_region (clause l.regions) (32 - l._turn) l.found l.cursor
