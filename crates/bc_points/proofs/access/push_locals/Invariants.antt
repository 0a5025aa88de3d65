use Rattle.std.proofs.Common.{◌≡◌, ◌++◌}
use Rattle.bc_points.specs.Accesses.{return_accesses}
use Rattle.bc_points.proofs.access.push_locals.Given as goal

abbrev pub invariant-loop-local : goal.invariant-loop-local
invariant-loop-local l = l.accesses.items ≡ l.initial.accesses.items ++ return_accesses l.local
