use Rattle.std.proofs.Common.{map, length, arith}
use Rattle.bc_flow.specs.Flow.{holds}
use Rattle.bc_flow.proofs.Ranges.{range-turn}
use Rattle.bc_types.specs.WellFormed.{pair_where, replaced_pair}
use Rattle.bc_types.proofs.Marking.{all-turns}
use Rattle.bc_types.proofs.region_pairs.push_row.Goals as goal

pub loop-shorter-preserved : goal.loop-shorter-preserved
loop-shorter-preserved c =
    range-turn (λ shorter. map (replaced_pair c.args.arguments.now) (pair_where (holds c.args.bits.now) c.args.longer shorter)) _ _ _ c.loop-shorter.shorter c.in_ok-push_pair.ensures c.loop-shorter.invariant

pub returns : goal.returns
returns c =
    all-turns (replaced_pair c.args.arguments.now) (pair_where (holds c.args.bits.now) c.args.longer) c.args.constraints.now.items c.loop-shorter.constraints.items (length c.args.bits.now) c.loop-shorter.shorter
    (omega (arith, c.loop-shorter-test.false, c.loop-shorter.auto.shorter-end, c.len-shorter-end.ensures)) c.loop-shorter.invariant
