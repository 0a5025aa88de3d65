use Rattle.bc_live.proofs.Within.{definition_entries_within}
use Rattle.bc_live.proofs.liveness.definition_table.Goals as goal

pub table-requires : goal.table-requires
table-requires c =
    rw (c.deref.ensures.value, c.in_ok-definitions.ensures, c.steps.ensures.value, c.locals.ensures.value)
    (definition_entries_within c.args.typed.now (rw c.steps.ensures.value at c.steps.ensures.declared))

pub returns-clause-points : goal.returns-clause-points
returns-clause-points c = rw c.steps.ensures.value at c.table.ensures.nodes

pub returns-clause-locals : goal.returns-clause-locals
returns-clause-locals c = rw c.locals.ensures.value at c.table.ensures.facts

pub returns-clause-definitions : goal.returns-clause-definitions
returns-clause-definitions c = rw (c.deref.ensures.value, c.in_ok-definitions.ensures) at c.table.ensures.entries
