use Rattle.std.proofs.Common.{◌∙◌, arith}
use Rattle.bc_judge.proofs.Locals.{shared_added, mutable_added}
use Rattle.bc_judge.proofs.candidates.add_loan.Goals as goal

pub add-requires-clause-at : goal.add-requires-clause-at
add-requires-clause-at c = omega (arith, rw c.local-local.ensures at c.row_number-writes.ensures.number, c.requires.local)

pub add-requires-clause-loan : goal.add-requires-clause-loan
add-requires-clause-loan c = c.requires.number c.row_number-writes.result (omega (arith, rw c.local-local.ensures at c.row_number-writes.ensures.number, c.requires.local))

pub add-requires-in-Mutable-clause-at : goal.add-requires-in-Mutable-clause-at
add-requires-in-Mutable-clause-at c = omega (arith, rw c.local-local.ensures at c.row_number-reads.ensures.number, c.requires.local, c.add.ensures.rows)

pub add-requires-in-Mutable-clause-loan : goal.add-requires-in-Mutable-clause-loan
add-requires-in-Mutable-clause-loan c =
    let before = c.requires.number c.row_number-reads.result (omega (arith, rw c.local-local.ensures at c.row_number-reads.ensures.number, c.requires.local)) in
    omega (arith, before, c.add.ensures.sizes c.row_number-reads.result)

pub returns-in-Shared-clause-added : goal.returns-in-Shared-clause-added
returns-in-Shared-clause-added c =
    rw c.in-Shared.is (shared_added c.add.new.rows c.args.loan.now.path.local c.args.number c.row_number-writes.result (rw c.local-local.ensures at c.row_number-writes.ensures.number) c.add.ensures.added)

pub returns-in-Mutable-clause-sizes : goal.returns-in-Mutable-clause-sizes
returns-in-Mutable-clause-sizes c = λ n. c.add-in-Mutable.ensures.sizes n ∙ c.add.ensures.sizes n

pub returns-in-Mutable-clause-kept : goal.returns-in-Mutable-clause-kept
returns-in-Mutable-clause-kept c = λ n l there. c.add-in-Mutable.ensures.kept n l (c.add.ensures.kept n l there)

pub returns-in-Mutable-clause-added : goal.returns-in-Mutable-clause-added
returns-in-Mutable-clause-added c = λ kind _.
    mutable_added c.add-in-Mutable.new.rows c.args.loan.now.path.local c.args.number c.row_number-writes.result c.row_number-reads.result (rw c.local-local.ensures at c.row_number-writes.ensures.number) (rw c.local-local.ensures at c.row_number-reads.ensures.number)
    (c.add-in-Mutable.ensures.kept c.row_number-writes.result c.args.number c.add.ensures.added) c.add-in-Mutable.ensures.added kind
