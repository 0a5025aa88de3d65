use Rattle.bc_loans.proofs.Listing.{rows_project}
use Rattle.bc_loans.proofs.loan_set.loans_by_projection.Goals as goal

pub table-requires : goal.table-requires
table-requires c = rw c.deref.ensures.value c.in_ok-entries.ensures.within

pub returns-clause-loans : goal.returns-clause-loans
returns-clause-loans c = rows_project c.args.depth c.args.loans.now c.in_ok-rows.rows (rw (c.deref.ensures.value, c.in_ok-entries.ensures.entries) at c.in_ok-rows.ensures.entries)
