use Rattle.std.proofs.Common.{◌≡◌, ◌-◌, [], length}
use Rattle.std.specs.List.{zip}
use Rattle.bc_tokens.specs.Parser.{declared_from}
use Rattle.bc_text.specs.Reading.{begins_mark, mark}
use Rattle.bc_text.proofs.declarations.some_marks.Given as goal

abbrev pub invariant-loop-turn : goal.invariant-loop-turn
invariant-loop-turn l = (declared_from begins_mark mark 8 [] l.initial.cursor ≡ declared_from begins_mark mark (8 - l._turn) (zip l.found.variances l.found.regions) l.cursor) × (length l.found.regions ≡ l._turn) × (length l.found.variances ≡ l._turn)
