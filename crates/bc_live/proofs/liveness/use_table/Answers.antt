use Rattle.bc_live.proofs.Within.{use_entries_within}
use Rattle.bc_live.proofs.liveness.use_table.Goals as goal

pub table-requires : goal.table-requires
table-requires c =
    rw (c.deref.ensures.value, c.in_ok-uses.ensures, c.steps.ensures.value, c.locals.ensures.value)
    (use_entries_within c.args.typed.now (rw c.locals.ensures.value at c.locals.ensures.some) (rw c.steps.ensures.value at c.steps.ensures.declared))

pub returns-clause-points : goal.returns-clause-points
returns-clause-points c = rw c.steps.ensures.value at c.table.ensures.nodes

pub returns-clause-locals : goal.returns-clause-locals
returns-clause-locals c = rw c.locals.ensures.value at c.table.ensures.facts

pub returns-clause-uses : goal.returns-clause-uses
returns-clause-uses c = rw (c.deref.ensures.value, c.in_ok-uses.ensures) at c.table.ensures.entries
