use Rattle.std.proofs.Common.{[], ap, sym, ◌∙◌, arith}
use Rattle.std.proofs.lemmas.List.{get_or_default, get_or_past, length-map}
use Rattle.bc_flow.specs.BitSet.{has}
use Rattle.bc_flow.specs.Flow.{row, holds}
use Rattle.bc_groups.specs.Groups.{rows_by}
use Rattle.bc_groups.proofs.Grouped.{holds_by}
use Rattle.bc_solve.proofs.values.Values.contains.Goals as goal

pub returns-in-Some : goal.returns-in-Some
returns-in-Some c =
    let rows = c.self.inside.rows in
    let row_of = c.self.inside.row_of.items in
    let found = rw c.deref.ensures.value at c.in-Some.ensures.lookup in
    let is = found.1 ∙ get_or_default row_of c.args.region _ 0 found.3.0 in
    c.holds.ensures ∙ ap (λ n. holds rows n c.args.element) is ∙ sym (holds_by rows row_of c.args.region c.args.element found.3.0) ∙ ap (λ table. holds table c.args.region c.args.element) c.self.view_is

pub returns-in-None : goal.returns-in-None
returns-in-None c =
    let rows = c.self.inside.rows in
    let row_of = c.self.inside.row_of.items in
    let past = rw c.deref.ensures.value at c.in-None.ensures.lookup.3 in
    sym (ap (λ set. has set c.args.element) (get_or_past (rows_by rows row_of) c.args.region [] (omega (arith, past, length-map row_of (row rows))))) ∙ ap (λ table. holds table c.args.region c.args.element) c.self.view_is
