use Rattle.std.proofs.Common.{ap, sym, ◌∙◌}
use Rattle.std.proofs.lemmas.List.{get_or_default}
use Rattle.bc_flow.specs.Flow.{row}
use Rattle.bc_groups.proofs.Grouped.{row_by}
use Rattle.bc_solve.proofs.values.Values.get.Goals as goal

pub returns : goal.returns
returns c =
    let rows = c.self.inside.rows in
    let row_of = c.self.inside.row_of.items in
    let found = rw c.deref.ensures.value at c.in_ok-row.ensures.lookup in
    let is = found.1 ∙ get_or_default row_of c.args.region _ 0 found.3.0 in
    c.row.ensures ∙ ap (row rows) is ∙ sym (row_by rows row_of c.args.region found.3.0) ∙ ap (λ table. row table c.args.region) c.self.view_is
