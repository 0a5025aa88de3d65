use Rattle.std.proofs.Common.{◌≡◌, ◌-◌, []}
use Rattle.bc_text.specs.Reading.{fields_from}
use Rattle.bc_text.proofs.declarations.some_fields.Given as goal

abbrev pub invariant-loop-turn : goal.invariant-loop-turn
invariant-loop-turn l = fields_from l.regions 16 [] l.initial.cursor ≡ fields_from l.regions (16 - l._turn) l.found l.cursor
