use Rattle.std.proofs.Common.{sym, ◌∙◌}
use Rattle.cli_talk.proofs.Answering.{begins, goes_on, none_lost, same_place, some_lost, stops, stops_in}
use Rattle.cli_talk.proofs.Staying.{answered_still, stopped_still}
use Rattle.cli_talk.proofs.worker.serve_messages.Goals as goal

pub returns-then-lossy-clause-lossy : goal.returns-then-lossy-clause-lossy
returns-then-lossy-clause-lossy g c = λ is. (c.messages.next, some_lost _ _ _ _ _ _ _ _ _ c.if-lossy.true c.messages.invariant)

pub returns-then-lossy-clause-stopped : goal.returns-then-lossy-clause-stopped
returns-then-lossy-clause-stopped g c = stops _ _ _ _ _ _ _ _ _ c.messages.invariant

pub returns-then-lossy-clause-still : goal.returns-then-lossy-clause-still
returns-then-lossy-clause-still g c = answered_still _ _ _ _ _ _ _ _ _ c.messages.invariant

pub returns-in_default-clause-answered : goal.returns-in_default-clause-answered
returns-in_default-clause-answered g c = none_lost _ _ _ _ _ _ _ _ _ c.if-lossy.false c.messages.invariant

pub returns-in_default-clause-still : goal.returns-in_default-clause-still
returns-in_default-clause-still g c = answered_still _ _ _ _ _ _ _ _ _ c.messages.invariant

pub returns-then-named-post-clause-stopped : goal.returns-then-named-post-clause-stopped
returns-then-named-post-clause-stopped g c = stops _ _ _ _ _ _ _ _ _ c.messages.invariant

pub returns-then-named-post-clause-still : goal.returns-then-named-post-clause-still
returns-then-named-post-clause-still g c = answered_still _ _ _ _ _ _ _ _ _ c.messages.invariant

pub returns-in-Err-clause-stopped : goal.returns-in-Err-clause-stopped
returns-in-Err-clause-stopped g c =
    let own = c.line-line.ensures.is_of in
    let is = same_place g.L.Talk.sessions c.line-line.result.now.session c.args.post.now.number c.in-Some.message.number c.messages.next own.0 g.L.Talk.lines (sym c.session-named.ensures ∙ c.if-named-post.false) (sym c.number-number.ensures ∙ c.if-number-next.false) own.2 in
    stops_in _ _ _ _ _ _ _ _ _ _ own.0 c.messages.invariant is (c.in-Err.ensures.stopped g.L.Talk.sessions own.0 own.1)

pub returns-in-Err-clause-still : goal.returns-in-Err-clause-still
returns-in-Err-clause-still g c =
    let own = c.line-line.ensures.is_of in
    let is = same_place g.L.Talk.sessions c.line-line.result.now.session c.args.post.now.number c.in-Some.message.number c.messages.next own.0 g.L.Talk.lines (sym c.session-named.ensures ∙ c.if-named-post.false) (sym c.number-number.ensures ∙ c.if-number-next.false) own.2 in
    stopped_still _ _ _ _ _ (stops_in _ _ _ _ _ _ _ _ _ _ own.0 c.messages.invariant is (c.in-Err.ensures.stopped g.L.Talk.sessions own.0 own.1))

pub returns-clause-stopped : goal.returns-clause-stopped
returns-clause-stopped g c = stops _ _ _ _ _ _ _ _ _ c.messages.invariant

pub returns-clause-still : goal.returns-clause-still
returns-clause-still g c = answered_still _ _ _ _ _ _ _ _ _ c.messages.invariant

pub messages-init : goal.messages-init
messages-init g c = begins g.L.Talk.sessions c.args.post.now.number g.L.Talk.lines c.args.session.now (g.P.Replies.given c.args.replies.now)

pub messages-preserved : goal.messages-preserved
messages-preserved g c =
    let own = c.line-line.ensures.is_of in
    let is = same_place g.L.Talk.sessions c.line-line.result.now.session c.args.post.now.number c.in-Some.message.number c.messages.next own.0 g.L.Talk.lines (sym c.session-named.ensures ∙ c.if-named-post.false) (sym c.number-number.ensures ∙ c.if-number-next.false) own.2 in
    goes_on _ _ _ _ _ _ _ _ _ _ _ _ _ own.0 c.messages.invariant is (c.in-Ok.ensures.answered g.L.Talk.sessions own.0 own.1) c.is_either-lossy.ensures
