use Rattle.std.proofs.Common.{◌<◌, length, arith}
use Rattle.bc_flow.proofs.Fronts.{AreFilled-more, filled_ends}
use Rattle.bc_flow.proofs.bit_words.fill_below.Goals as goal

pub loop-k-preserved : goal.loop-k-preserved
loop-k-preserved c =
    let within : c.loop-k.k < length c.loop-k.words = omega (arith, c.loop-k-test.true, c.loop-k.auto.words, c.requires, c.div_ceil-k-end.ensures) in
    AreFilled-more c.loop-k.words c.args.words.now c.args.count c.loop-k.k c.first_bits.result c.loop-k.invariant within c.first_bits.ensures

pub returns : goal.returns
returns c = filled_ends c.loop-k.words c.args.words.now c.args.count c.loop-k.k c.loop-k.invariant (omega (arith, c.loop-k-test.false, c.div_ceil-k-end.ensures))
