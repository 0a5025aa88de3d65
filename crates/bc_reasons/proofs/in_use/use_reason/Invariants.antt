use Rattle.bc_reasons.specs.Uses.{AreDeadBelow}
use Rattle.bc_reasons.proofs.in_use.use_reason.Given as goal

abbrev pub invariant-loop-local : goal.invariant-loop-local
invariant-loop-local l = AreDeadBelow l.typed l.region l.point l.local
