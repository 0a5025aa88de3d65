use Rattle.std.proofs.Common.{◌%◌, ◌+◌, ◌*◌, ◌<◌, length, refl, arith, ◌∙◌}
use Rattle.std.proofs.lemmas.Option.{slice_get-get_or}
use Rattle.bc_flow.specs.Flow.{holds}
use Rattle.bc_flow.proofs.Members.{zeros}
use Rattle.bc_loans.proofs.Regions.{inside_of}
use Rattle.bc_loans.proofs.Telling.{AreGathered-more, gathered_all}
use Rattle.bc_loans.proofs.insides.inside_block.Goals as goal

pub loop-k-init : goal.loop-k-init
loop-k-init c = record { size = refl; done = λ k p low _. absurd (omega (arith, low)); rest = λ k _. zeros 64 refl k }

pub loop-k-preserved : goal.loop-k-preserved
loop-k-preserved c =
    let few : c.loop-k.k < 64 = omega (arith, c.loop-k-test.true, c.min-k-end.ensures) in
    let within : 64 * c.args.word + c.loop-k.k < length c.args.flow.now.set.loans.now = omega (arith, c.loop-k-test.true, c.min-k-end.ensures) in
    AreGathered-more c.args.flow.now.universals c.args.flow.now.set.loans.now (holds c.args.flow.now.values.now) c.args.word c.args.run c.loop-k.k c.value_word.result c.loop-k.block c.loop-k.invariant few
    (λ p at. c.value_word.ensures p at ∙ inside_of c.args.flow.now.universals c.args.flow.now.set.loans.now (holds c.args.flow.now.values.now) (64 * c.args.word + c.loop-k.k) _ c.region_number-region.result
    (slice_get-get_or c.args.flow.now.set.loans.now (64 * c.args.word + c.loop-k.k) _ within) c.region_number-region.ensures.value p)

pub returns : goal.returns
returns c = λ p l at_run at_word.
    c.turned_words.ensures (l % 64) (p % 64) (omega arith) (omega arith)
    ∙ gathered_all c.args.flow.now.universals c.args.flow.now.set.loans.now (holds c.args.flow.now.values.now) c.args.word c.args.run c.loop-k.k c.loop-k.block c.loop-k.invariant
    (λ more. omega (arith, more, c.loop-k-test.false, c.min-k-end.ensures)) p l at_run at_word
