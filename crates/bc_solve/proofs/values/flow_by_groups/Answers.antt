use Rattle.std.proofs.Common.{◌∙◌}
use Rattle.std.proofs.lemmas.List.{length-map}
use Rattle.bc_flow.specs.Flow.{row}
use Rattle.bc_solve.proofs.values.flow_by_groups.Goals as goal

pub strong_components-requires : goal.strong_components-requires
strong_components-requires c = rw c.len.ensures c.requires.edges

pub flow_between_groups-requires-clause-groups : goal.flow_between_groups-requires-clause-groups
flow_between_groups-requires-clause-groups c = rw c.len.ensures at c.in_ok-found.ensures

pub returns-clause-elements : goal.returns-clause-elements
returns-clause-elements c = c.in_ok-rows.ensures.elements

pub returns-clause-flow : goal.returns-clause-flow
returns-clause-flow c = c.in_ok-rows.ensures.flow

pub returns-clause-regions : goal.returns-clause-regions
returns-clause-regions c = length-map c.in_ok-found.found.group_of.items (row c.in_ok-rows.rows) ∙ c.in_ok-found.ensures.count ∙ c.len.ensures
