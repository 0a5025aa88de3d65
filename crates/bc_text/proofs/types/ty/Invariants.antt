use Rattle.std.proofs.Common.{◌≡◌, ◌-◌, []}
use Rattle.bc_text.specs.Reading.{ty_from}
use Rattle.bc_text.proofs.types.ty.Given as goal

abbrev pub invariant-loop-turn : goal.invariant-loop-turn
invariant-loop-turn l = ty_from l.variables l.regions 8 [] l.initial.cursor ≡ ty_from l.variables l.regions (8 - l._turn) l.references l.cursor
