use Rattle.std.proofs.Common.{◌≡◌, [], ◌∷◌, length, length-append, arith, ap, sym, ◌∙◌, rules}
use Rattle.std.proofs.lemmas.List.{nil_from_length}
use Rattle.bc_scripts.specs.declared.run.End.{End}
use Rattle.bc_share.specs.Sessions.{SessionView}
use Rattle.cli_run.proofs.Parting.{part_init, part_more, part_done}
use Rattle.cli_run.proofs.make.part.Goals as goal

abbrev first : SessionView × End → SessionView
first r = r.0

abbrev second : SessionView × End → End
second r = r.1

pub loop-session-init : goal.loop-session-init
loop-session-init g c =
    let same : c.into_iter-session-iterator.result.rest.items ≡ c.args.ran.items = search rules in
    let long = ap length same in
    record {
      sessions = part_init first _ _ _ c.requires.no_sessions same;
      ends = part_init second _ _ _ c.requires.no_ends same;
      room = (let none = ap length c.requires.no_sessions in omega (arith, long, none, c.requires.room));
      room_for_ends = (let none = ap length c.requires.no_ends in omega (arith, long, none, c.requires.room_for_ends));
    }

pub loop-session-preserved : goal.loop-session-preserved
loop-session-preserved g c =
    let step : c.loop-session.session-iterator.rest.items ≡ (c.in-Some.session, c.in-Some.end) ∷ c.next.new.self.rest.items = search rules in
    let long = ap length step in
    record {
      sessions = part_more first _ (c.in-Some.session, c.in-Some.end) _ _ _ _ c.loop-session.invariant.sessions step c.push_reserved.ensures.items;
      ends = part_more second _ (c.in-Some.session, c.in-Some.end) _ _ _ _ c.loop-session.invariant.ends step c.push_reserved-in-loop-session.ensures.items;
      room = (let pushed = ap length c.push_reserved.ensures.items in let more = length-append c.loop-session.sessions.items (c.in-Some.session ∷ []) in let room = c.loop-session.invariant.room in let same = c.push_reserved.ensures.capacity in omega (arith, long, pushed, more, room, same));
      room_for_ends = (let pushed = ap length c.push_reserved-in-loop-session.ensures.items in let more = length-append c.loop-session.ends.items (c.in-Some.end ∷ []) in let room = c.loop-session.invariant.room_for_ends in let same = c.push_reserved-in-loop-session.ensures.capacity in omega (arith, long, pushed, more, room, same));
    }

pub returns-clause-sessions : goal.returns-clause-sessions
returns-clause-sessions g c =
    let steps = c.in-None.ensures.steps in
    let none : c.loop-session.session-iterator.rest.items ≡ [] = nil_from_length c.loop-session.session-iterator.rest.items (sym c.loop-session.session-iterator.rest.ok.0 ∙ steps.0) in
    part_done first _ _ _ c.loop-session.invariant.sessions none

pub returns-clause-ends : goal.returns-clause-ends
returns-clause-ends g c =
    let steps = c.in-None.ensures.steps in
    let none : c.loop-session.session-iterator.rest.items ≡ [] = nil_from_length c.loop-session.session-iterator.rest.items (sym c.loop-session.session-iterator.rest.ok.0 ∙ steps.0) in
    part_done second _ _ _ c.loop-session.invariant.ends none
