use Rattle.std.proofs.Common.{◌≡◌, ◌++◌, drop, map}
use Rattle.bc_outcomes.specs.Reported.{errors_in}
use Rattle.bc_outcomes.proofs.verdicts.errors_of.Given as goal

abbrev pub invariant-loop-piece : goal.invariant-loop-piece
invariant-loop-piece l = l.found.items ++ map errors_in (drop l.piece-index l.pieces) ≡ map errors_in l.pieces
