use Rattle.std.proofs.Common.{arith}
use Rattle.std.proofs.lemmas.Grind.{common_steps}
use Rattle.bc_flow.specs.BitSet.{has}
use Rattle.bc_judge.specs.Conflicts.{conflicts_of_access}
use Rattle.bc_judge.proofs.Walks.{each-end}
use Rattle.bc_judge.proofs.conflicts.BodyLoans.push_conflicts.Goals as goal

pub returns : goal.returns
returns c = each-end (conflicts_of_access c.args.self.now.typed.now (has c.args.scope.now) c.args.point) c.args.accesses.now _ _ c.loop-number.number c.loop-number-test.false c.loop-number.invariant

pub loop-number-preserved : goal.loop-number-preserved
loop-number-preserved c = grind (arith, common_steps)
