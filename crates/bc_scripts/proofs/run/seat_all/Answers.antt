use Rattle.std.proofs.Common.{◌≡◌, [], ◌∷◌, length, length-append, arith, ap, sym, ◌∙◌, rules}
use Rattle.std.proofs.lemmas.List.{nil_from_length}
use Rattle.bc_scripts.specs.declared.run.End.TheVariants.{Done}
use Rattle.bc_scripts.proofs.Running.{seats_begin, seats_more, seats_done}
use Rattle.bc_scripts.proofs.run.seat_all.Goals as goal

pub loop-session-init : goal.loop-session-init
loop-session-init g c =
    let same : c.into_iter-session-iterator.result.rest.items ≡ c.args.sessions.items = search rules in
    let long = ap length same in
    let none = ap length c.requires.empty in
    (seats_begin _ _ _ c.requires.empty same, omega (arith, long, none, c.requires.room))

pub loop-session-preserved : goal.loop-session-preserved
loop-session-preserved g c =
    let step : c.loop-session.session-iterator.rest.items ≡ c.in-Some.session ∷ c.next.new.self.rest.items = search rules in
    let long = ap length step in
    let pushed = ap length c.push_reserved.ensures.items in
    (seats_more _ _ _ _ _ _ c.loop-session.invariant.0 step c.push_reserved.ensures.items, (let more = length-append c.loop-session.ran.items ((c.in-Some.session, Done) ∷ []) in let room = c.loop-session.invariant.1 in let same = c.push_reserved.ensures.capacity in omega (arith, long, pushed, more, room, same)))

pub returns : goal.returns
returns g c =
    let steps = c.in-None.ensures.steps in
    let none : c.loop-session.session-iterator.rest.items ≡ [] = nil_from_length c.loop-session.session-iterator.rest.items (sym c.loop-session.session-iterator.rest.ok.0 ∙ steps.0) in
    seats_done _ _ _ c.loop-session.invariant.0 none
