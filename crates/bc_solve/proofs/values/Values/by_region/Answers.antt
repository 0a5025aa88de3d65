use Rattle.std.proofs.Common.{◌≡◌, length, ap, ◌∙◌, arith}
use Rattle.std.specs.List.{range_with_len}
use Rattle.bc_groups.proofs.Grouped.{rows_by_themselves}
use Rattle.bc_solve.proofs.values.Values.by_region.Goals as goal

pub returns : goal.returns
returns c =
    let count : c.len.result ≡ length c.args.rows = omega (arith, c.len.ensures) in
    rows_by_themselves c.args.rows c.in_ok-row_of.row_of.items (c.in_ok-row_of.ensures.ascending ∙ ap (range_with_len 0) count)
