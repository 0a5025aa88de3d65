use Rattle.bc_flow.specs.BitSet.{has}
use Rattle.bc_judge.specs.Conflicts.{conflicts_at}
use Rattle.bc_judge.proofs.OutOfScope.{no_loan_in_scope, empty_set, nothing-added}
use Rattle.bc_judge.proofs.conflicts.BodyLoans.push_step.Goals as goal

pub returns-then-is_none : goal.returns-then-is_none
returns-then-is_none c =
    nothing-added c.args.conflicts.now.items (conflicts_at c.args.self.now.typed.now (has c.args.scope.now) (c.args.here.0, c.args.here.1.now))
    (no_loan_in_scope c.args.self.now.typed.now (has c.args.scope.now) (c.args.here.0, c.args.here.1.now) (empty_set c.args.scope.now c.next_member.result c.if-is_none.ensures c.next_member.ensures))

pub returns : goal.returns
returns c = rw (c.deref.ensures.value, c.in_ok-push_accesses.ensures, c.clear.ensures.items) at c.push_conflicts.ensures
