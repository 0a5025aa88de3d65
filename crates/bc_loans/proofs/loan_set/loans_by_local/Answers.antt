use Rattle.bc_loans.proofs.Listing.{locals_within, rows_begin}
use Rattle.bc_loans.proofs.loan_set.loans_by_local.Goals as goal

pub table-requires : goal.table-requires
table-requires c = rw (c.deref.ensures.value, c.in_ok-entries.ensures) (locals_within c.args.loans.now c.locals_bound.result c.locals_bound.ensures)

pub returns-clause-loans : goal.returns-clause-loans
returns-clause-loans c = rows_begin c.args.loans.now c.in_ok-rows.rows (rw (c.deref.ensures.value, c.in_ok-entries.ensures) at c.in_ok-rows.ensures.entries)
