use Rattle.std.proofs.Common.{◌≡◌, [], take, drop}
use Rattle.bc_syntax.specs.Fits.{are_new}
use Rattle.bc_fits.proofs.bodies.are_new.Given as goal

abbrev pub invariant-loop-index : goal.invariant-loop-index
invariant-loop-index l = are_new [] l.names ≡ are_new (take l.index l.names) (drop l.index l.names)
