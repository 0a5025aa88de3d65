use Rattle.std.proofs.Common.{◌≡◌, ◌++◌}
use Rattle.bc_reasons.specs.Parts.{return_parts}
use Rattle.bc_reasons.proofs.part.push_return.Given as goal

abbrev pub invariant-loop-local : goal.invariant-loop-local
invariant-loop-local l = l.parts.items ≡ l.initial.parts.items ++ return_parts l._local
