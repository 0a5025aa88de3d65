use Rattle.std.proofs.Common.{length, refl}
use Rattle.bc_groups.proofs.Grouped.{group_edges_within, flow_by_groups, rows_by_size}
use Rattle.bc_solve.proofs.Sized.{sized_by_first}
use Rattle.bc_solve.proofs.values.flow_between_groups.Goals as goal

pub group_edges-requires : goal.group_edges-requires
group_edges-requires c = rw (c.deref.ensures.value, c.requires.groups.count) c.requires.edges

pub gathered-requires-clause-nodes : goal.gathered-requires-clause-nodes
gathered-requires-clause-nodes c = rw c.deref-2.ensures.value c.requires.groups.count

pub gathered-requires-clause-groups : goal.gathered-requires-clause-groups
gathered-requires-clause-groups c = rw c.deref-2.ensures.value c.requires.groups.within

pub flow_without_kills-requires-clause-edges : goal.flow_without_kills-requires-clause-edges
flow_without_kills-requires-clause-edges c =
    let grouping = c.args.grouping.now in
    rw (c.deref-3.ensures.value, c.in_ok-condensed.ensures, c.deref.ensures.value, c.in_ok-seeds.ensures.groups)
    (group_edges_within c.args.edges.now (length c.args.starts.now) grouping.groups grouping.group_of.items c.requires.edges c.requires.groups.count c.requires.groups.within)

pub flow_without_kills-requires-clause-rows : goal.flow_without_kills-requires-clause-rows
flow_without_kills-requires-clause-rows c = sized_by_first c.args.elements c.in_ok-seeds.seeds c.in_ok-seeds.ensures.facts

pub flow_without_kills-requires-clause-pending : goal.flow_without_kills-requires-clause-pending
flow_without_kills-requires-clause-pending c = rw c.in_ok-seeds.ensures.groups c.in_ok-pending.ensures.within

pub flow_without_kills-requires-clause-all : goal.flow_without_kills-requires-clause-all
flow_without_kills-requires-clause-all c = rw c.in_ok-seeds.ensures.groups c.in_ok-pending.ensures.all

pub returns-clause-elements : goal.returns-clause-elements
returns-clause-elements c =
    rows_by_size c.args.elements c.in_ok-seeds.seeds c.in_ok-rows.rows c.args.grouping.now.group_of.items c.in_ok-seeds.ensures.facts c.in_ok-rows.ensures.facts c.in_ok-rows.ensures.nodes
    (rw (c.in_ok-rows.ensures.nodes, c.in_ok-seeds.ensures.groups) c.requires.groups.within)

pub returns-clause-flow : goal.returns-clause-flow
returns-clause-flow c =
    let grouping = c.args.grouping.now in
    flow_by_groups c.args.edges.now c.args.starts.now (length c.args.starts.now) grouping.groups grouping.group_of.items c.in_ok-seeds.seeds c.in_ok-rows.rows
    c.requires.edges refl c.requires.groups (rw c.deref-2.ensures.value at c.in_ok-seeds.ensures.gathered)
    (rw (c.deref-3.ensures.value, c.in_ok-condensed.ensures, c.deref.ensures.value) at c.in_ok-rows.ensures.flow)
