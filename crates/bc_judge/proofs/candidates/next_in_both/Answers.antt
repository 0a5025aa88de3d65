use Rattle.std.proofs.Common.{arith}
use Rattle.bc_judge.proofs.Locals.{member_within, passed_more, found_both, no_more_both, none_more}
use Rattle.bc_judge.proofs.candidates.next_in_both.Goals as goal

pub returns-in_default-next_member : goal.returns-in_default-next_member
returns-in_default-next_member c =
    no_more_both c.args.one.now c.args.other.now c.args.from c.loop-member.at c.in-Some.member c.loop-member.invariant.passed c.in-Some.ensures c.in_default-next_member.ensures

pub returns-then-next-member : goal.returns-then-next-member
returns-then-next-member c =
    found_both c.args.one.now c.args.other.now c.args.from c.loop-member.at c.in-Some.member c.in-Some-next_member.next c.loop-member.invariant.onward c.loop-member.invariant.passed c.in-Some.ensures c.in-Some-next_member.ensures
    c.if-next-member.true

pub loop-member-preserved : goal.loop-member-preserved
loop-member-preserved c =
    let ahead = c.in-Some.ensures.onward in
    let further = c.in-Some-next_member.ensures.onward in
    record {
      onward = omega (arith, c.loop-member.invariant.onward, ahead, further);
      passed = passed_more c.args.one.now c.args.other.now c.args.from c.loop-member.at c.in-Some.member c.in-Some-next_member.next c.loop-member.invariant.passed c.in-Some.ensures c.in-Some-next_member.ensures;
    }

pub loop-member-smaller : goal.loop-member-smaller
loop-member-smaller c =
    let within = member_within c.args.one.now c.in-Some.member c.in-Some.ensures.is_member in
    let ahead = c.in-Some.ensures.onward in
    let further = c.in-Some-next_member.ensures.onward in
    omega (arith, within, ahead, further, c.if-next-member.false)

pub returns : goal.returns
returns c = none_more c.args.one.now c.args.other.now c.args.from c.loop-member.at c.loop-member.invariant.passed c.in_default.ensures
