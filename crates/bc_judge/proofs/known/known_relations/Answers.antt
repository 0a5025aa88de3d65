use Rattle.bc_judge.proofs.Closure.{firsts_within, tells_known}
use Rattle.bc_judge.proofs.known.known_relations.Goals as goal

pub table-requires : goal.table-requires
table-requires c = rw (c.deref.ensures.value, c.in_ok-entries.ensures) (firsts_within c.from-universals.result)

pub handed_on-requires-clause-edges : goal.handed_on-requires-clause-edges
handed_on-requires-clause-edges c =
    rw (c.deref-2.ensures.value, c.in_ok-seeds.ensures.nodes, c.from-universals.ensures, c.universals.ensures.value) c.in_ok-edges.ensures.within

pub returns-clause-tells : goal.returns-clause-tells
returns-clause-tells c =
    tells_known c.args.typed.now c.in_ok-seeds.seeds c.in_ok-rows.rows
    (rw (c.deref.ensures.value, c.in_ok-entries.ensures, c.from-universals.ensures, c.universals.ensures.value) at c.in_ok-seeds.ensures.entries)
    (rw (c.deref-2.ensures.value, c.in_ok-edges.ensures.value) at c.in_ok-rows.ensures.flow)
