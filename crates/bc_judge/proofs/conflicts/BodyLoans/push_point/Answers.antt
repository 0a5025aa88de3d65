use Rattle.bc_flow.specs.Flow.{holds}
use Rattle.bc_judge.specs.Conflicts.{conflicts_of_step}
use Rattle.bc_judge.proofs.OutOfScope.{no_loan_in_scope, nothing-added}
use Rattle.bc_judge.proofs.conflicts.BodyLoans.push_point.Goals as goal

pub returns-in-None : goal.returns-in-None
returns-in-None c =
    nothing-added c.args.conflicts.now.items (conflicts_of_step c.args.self.now.typed.now (holds c.args.scopes.now) (c.args.here.0, c.args.here.1.now))
    (no_loan_in_scope c.args.self.now.typed.now (holds c.args.scopes.now c.args.here.0) (c.args.here.0, c.args.here.1.now) c.in-None.ensures.row)

pub returns-in-Some : goal.returns-in-Some
returns-in-Some c = rw c.in-Some.ensures.row at c.push_step.ensures
