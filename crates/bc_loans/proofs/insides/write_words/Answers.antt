use Rattle.std.proofs.Common.{refl, arith}
use Rattle.bc_loans.proofs.Telling.{IsWritten-none, IsWritten-more}
use Rattle.bc_loans.proofs.insides.write_words.Goals as goal

pub loop-k-init : goal.loop-k-init
loop-k-init c = IsWritten-none c.args.first c.args.block.now c.args.words.now

pub loop-k-preserved : goal.loop-k-preserved
loop-k-preserved c = IsWritten-more c.args.first c.loop-k.k _ c.args.block.now c.args.words.now c.loop-k.words c.loop-k.invariant (omega (arith, c.loop-k-test.true, c.requires, c.loop-k.invariant.size)) refl
