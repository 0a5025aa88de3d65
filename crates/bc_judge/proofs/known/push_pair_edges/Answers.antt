use Rattle.std.proofs.Common.{refl}
use Rattle.std.specs.List.{flat_map}
use Rattle.std.proofs.lemmas.List.{at_drop_more}
use Rattle.bc_types.proofs.Appending.{appended-turn, appended-all}
use Rattle.bc_judge.specs.Known.{pair_edges}
use Rattle.bc_judge.proofs.known.push_pair_edges.Goals as goal

pub loop-pair-preserved : goal.loop-pair-preserved
loop-pair-preserved c =
    let each = flat_map pair_edges in
    appended-turn each _ _ c.args.pairs.now c.loop-pair.pair-index _ _ c.in_ok-push_edges_between.ensures (at_drop_more each _ _ _ c.loop-pair-test.true) c.loop-pair.invariant

pub returns : goal.returns
returns c = appended-all (flat_map pair_edges) _ _ c.args.pairs.now c.loop-pair.pair-index c.loop-pair-test.false refl c.loop-pair.invariant
