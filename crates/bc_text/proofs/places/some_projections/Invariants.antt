use Rattle.std.proofs.Common.{◌≡◌, ◌-◌, [], length}
use Rattle.bc_text.specs.Reading.{projections_from}
use Rattle.bc_text.proofs.places.some_projections.Given as goal

abbrev pub invariant-loop-turn : goal.invariant-loop-turn
invariant-loop-turn l = (projections_from 8 [] l.initial.cursor ≡ projections_from (8 - l._turn) l.found l.cursor) × (length l.found ≡ l._turn)
