use Rattle.std.proofs.Common.{◌≡◌, [], length, sym, ap, ◌∙◌, subst}
use Rattle.std.proofs.lemmas.Result.{IfOk-weaker}
use Rattle.bc_flow.specs.Flow.{row, HaveSize, IsFlow}
use Rattle.bc_solve.proofs.values.flow_by_region.Goals as goal

pub visit_order-requires : goal.visit_order-requires
visit_order-requires c = rw c.len.ensures c.requires.edges

pub flow_without_kills-requires-clause-edges : goal.flow_without_kills-requires-clause-edges
flow_without_kills-requires-clause-edges c = rw c.in_ok-seeds.ensures.cases c.requires.edges

pub flow_without_kills-requires-clause-rows : goal.flow_without_kills-requires-clause-rows
flow_without_kills-requires-clause-rows c = rw c.in_ok-seeds.ensures.cases c.requires.rows

pub flow_without_kills-requires-clause-pending : goal.flow_without_kills-requires-clause-pending
flow_without_kills-requires-clause-pending c = rw c.in_ok-seeds.ensures.cases (rw c.len.ensures at c.in_ok-pending.ensures.within)

pub flow_without_kills-requires-clause-all : goal.flow_without_kills-requires-clause-all
flow_without_kills-requires-clause-all c = rw c.in_ok-seeds.ensures.cases (rw c.len.ensures at c.in_ok-pending.ensures.all)

pub returns-clause-regions : goal.returns-clause-regions
returns-clause-regions c =
    let count : length c.in_ok-rows.rows ≡ length c.args.starts.now = c.in_ok-rows.ensures.nodes ∙ ap length c.in_ok-seeds.ensures.cases in
    IfOk-weaker c.by_region.result (λ values. values ≡ c.in_ok-rows.rows) (λ values. length values ≡ length c.args.starts.now)
    (λ values is. ap length is ∙ count) c.by_region.ensures

pub returns-clause-elements : goal.returns-clause-elements
returns-clause-elements c =
    let size = length (row c.args.starts.now 0) in
    let sized : HaveSize size c.in_ok-rows.rows = rw c.in_ok-seeds.ensures.cases at c.in_ok-rows.ensures.facts in
    IfOk-weaker c.by_region.result (λ values. values ≡ c.in_ok-rows.rows) (λ values. HaveSize size values)
    (λ values is. subst (λ t. HaveSize size t) (sym is) sized) c.by_region.ensures

pub returns-clause-flow : goal.returns-clause-flow
returns-clause-flow c =
    let flows : IsFlow c.args.edges.now c.args.starts.now [] c.in_ok-rows.rows = rw c.in_ok-seeds.ensures.cases at c.in_ok-rows.ensures.flow in
    IfOk-weaker c.by_region.result (λ values. values ≡ c.in_ok-rows.rows) (λ values. IsFlow c.args.edges.now c.args.starts.now [] values)
    (λ values is. subst (λ t. IsFlow c.args.edges.now c.args.starts.now [] t) (sym is) flows) c.by_region.ensures
