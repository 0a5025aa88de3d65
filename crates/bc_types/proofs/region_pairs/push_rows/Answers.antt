use Rattle.std.proofs.Common.{map, length, arith}
use Rattle.bc_flow.specs.Flow.{holds}
use Rattle.bc_flow.proofs.Ranges.{range-turn}
use Rattle.bc_types.specs.WellFormed.{replaced_pair, row_where}
use Rattle.bc_types.proofs.Marking.{all-turns}
use Rattle.bc_types.proofs.region_pairs.push_rows.Goals as goal

pub loop-longer-preserved : goal.loop-longer-preserved
loop-longer-preserved c =
    range-turn (λ longer. map (replaced_pair c.args.arguments.now) (row_where (holds c.args.bits.now) (length c.args.bits.now) longer)) _ _ _ c.loop-longer.longer c.in_ok-push_row.ensures c.loop-longer.invariant

pub returns : goal.returns
returns c =
    all-turns (replaced_pair c.args.arguments.now) (row_where (holds c.args.bits.now) (length c.args.bits.now)) c.args.constraints.now.items c.loop-longer.constraints.items (length c.args.bits.now) c.loop-longer.longer
    (omega (arith, c.loop-longer-test.false, c.loop-longer.auto.longer-end, c.len-longer-end.ensures)) c.loop-longer.invariant
