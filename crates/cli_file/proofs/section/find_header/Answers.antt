use Rattle.std.proofs.Common.{arith}
use Rattle.cli_file.proofs.Scanning.{cut_at_header, cut_behind_all, cut_behind_last, next_passed, feed_within}
use Rattle.cli_file.proofs.section.find_header.Goals as goal

pub loop-at-preserved : goal.loop-at-preserved
loop-at-preserved c =
    let text = c.args.text.now in
    let at = c.loop-at.at in
    let end = c.in-Some.end in
    record {
      within = feed_within text at end c.loop-at.invariant.within c.in-Some.ensures.0.high;
      number = omega arith;
      passed = next_passed c.args.first text at c.loop-at.number end c.loop-at.invariant.passed c.loop-at-test.true c.if-text-at-eq64.false c.in-Some.ensures;
    }

pub returns-then-text-at-eq64-clause-parts : goal.returns-then-text-at-eq64-clause-parts
returns-then-text-at-eq64-clause-parts c =
    cut_at_header c.args.first c.args.text.now c.loop-at.at c.loop-at.number c.loop-at.invariant.passed c.loop-at-test.true c.if-text-at-eq64.true

pub returns-in_default-clause-parts : goal.returns-in_default-clause-parts
returns-in_default-clause-parts c =
    cut_behind_last c.args.first c.args.text.now c.loop-at.at c.loop-at.number c.loop-at.invariant.passed c.loop-at-test.true c.if-text-at-eq64.false c.in_default.ensures

pub returns-clause-parts : goal.returns-clause-parts
returns-clause-parts c = cut_behind_all c.args.first c.args.text.now c.loop-at.at c.loop-at.number c.loop-at.invariant.passed c.loop-at-test.false
