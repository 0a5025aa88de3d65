use Rattle.bc_flow.specs.BitSet.{has}
use Rattle.bc_judge.specs.Conflicts.{conflicts_of_access}
use Rattle.bc_judge.proofs.Locals.{are_candidates}
use Rattle.bc_judge.proofs.OutOfScope.{no_candidates, nothing-added}
use Rattle.bc_judge.proofs.conflicts.BodyLoans.push_access.Goals as goal

pub push_candidates-requires : goal.push_candidates-requires
push_candidates-requires c =
    record { candidates = rw c.in-Some.ensures.row (are_candidates c.args.self.now.typed.now c.args.here.access.now c.args.self.now.loans.now c.args.self.now.rows c.args.self.now.candidates c.row_number-reached.result (rw c.local.ensures at c.row_number-reached.ensures.number)) }

pub returns-in-None : goal.returns-in-None
returns-in-None c =
    nothing-added c.args.conflicts.now.items (conflicts_of_access c.args.self.now.typed.now (has c.args.scope.now) c.args.here.point (c.args.here.number, c.args.here.access.now))
    (no_candidates c.args.self.now.typed.now c.args.scope.now c.args.here.point (c.args.here.number, c.args.here.access.now) c.args.self.now.rows c.row_number-reached.result (rw c.local.ensures at c.row_number-reached.ensures.number)
    (rw c.args.self.now.all at c.args.self.now.candidates) c.in-None.ensures.row)
