use Rattle.left_right.specs.Sides.{view}
use Rattle.bc_calls.specs.Calls.{IsLegal, StartsWith}
use Rattle.bc_versions.proofs.front.look_until.Given as goal

abbrev pub invariant-loop : goal.invariant-loop
invariant-loop g l = StartsWith (view l.reader.place) (view l.fn.reader.place) × IsLegal (view l.reader.place)
