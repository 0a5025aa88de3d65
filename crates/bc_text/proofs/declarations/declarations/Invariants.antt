use Rattle.std.proofs.Common.{◌≡◌, ◌-◌, [], length}
use Rattle.bc_text.specs.Reading.{declarations_from, structs_in}
use Rattle.bc_text.proofs.declarations.declarations.Given as goal

abbrev pub invariant-loop-turn : goal.invariant-loop-turn
invariant-loop-turn l = (declarations_from 129 [] l.initial.cursor ≡ declarations_from (129 - l._turn) l.found l.cursor) × (length l.found ≡ l._turn) × (l.structs ≡ structs_in l.found)
