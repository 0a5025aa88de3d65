use Rattle.std.proofs.Common.{◌*◌, ◌%◌, refl, arith, ◌∙◌}
use Rattle.bc_flow.proofs.Members.{zeros}
use Rattle.bc_flow.proofs.Turned.{AreGathered-more, gathered_all}
use Rattle.bc_flow.proofs.tables.turned_block.Goals as goal

pub loop-k-init : goal.loop-k-init
loop-k-init c = record { size = refl; done = λ k f low _. absurd (omega (arith, low)); rest = λ k _. zeros 64 refl k }

pub loop-k-preserved : goal.loop-k-preserved
loop-k-preserved c = AreGathered-more (64 * c.args.part) c.args.word c.loop-k.k c.word.result c.args.rows.now c.loop-k.words c.loop-k.invariant (omega (arith, c.loop-k-test.true, c.min-k-end.ensures)) c.word.ensures

pub returns : goal.returns
returns c = λ n f part_is word_is.
    c.turned_words.ensures (n % 64) (f % 64) (omega arith) (omega arith)
    ∙ gathered_all c.args.part c.args.word c.loop-k.k c.args.rows.now c.loop-k.words c.loop-k.invariant (λ more. omega (arith, more, c.loop-k-test.false, c.min-k-end.ensures, c.len-count.ensures)) n f part_is word_is
