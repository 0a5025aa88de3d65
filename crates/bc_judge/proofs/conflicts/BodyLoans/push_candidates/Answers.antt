use Rattle.std.proofs.Common.{refl}
use Rattle.std.proofs.lemmas.Option.{slice_get_read}
use Rattle.bc_flow.specs.BitSet.{has}
use Rattle.bc_judge.proofs.OutOfScope.{access-turn, access-past, access-end}
use Rattle.bc_judge.proofs.conflicts.BodyLoans.push_candidates.Goals as goal

pub returns-in_default-get : goal.returns-in_default-get
returns-in_default-get c =
    access-past c.args.self.now.typed.now c.args.candidates.now c.args.scope.now c.args.here.point (c.args.here.number, c.args.here.access.now) c.args.self.now.loans.now _ _ c.loop-member.from c.in-Some.member
    c.requires.candidates c.in-Some.ensures c.in_default-get.ensures.lookup.3 c.loop-member.invariant

pub loop-member-preserved : goal.loop-member-preserved
loop-member-preserved c =
    access-turn c.args.self.now.typed.now c.args.candidates.now c.args.scope.now c.args.here.point (c.args.here.number, c.args.here.access.now) c.args.self.now.loans.now _ _ _ c.loop-member.from c.in-Some.member c.in-Some-get.field-0.now
    c.requires.candidates c.in-Some.ensures (slice_get_read c.args.self.now.loans.now _ c.in-Some.member c.in-Some-get.field-0.now refl c.in-Some-get.ensures.lookup.3.0 c.in-Some-get.ensures.lookup.1)
    (c.in_ok-push_conflict.ensures (has c.args.scope.now) c.in-Some.member c.in-Some.ensures.in_other) c.loop-member.invariant

pub returns : goal.returns
returns c =
    access-end c.args.self.now.typed.now c.args.candidates.now c.args.scope.now c.args.here.point (c.args.here.number, c.args.here.access.now) c.args.self.now.loans.now _ _ c.loop-member.from c.requires.candidates c.in_default.ensures c.loop-member.invariant
