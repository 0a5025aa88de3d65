use Rattle.std.proofs.Common.{◌≡◌, ◌+◌, ◌∙◌, ℕ, set, ap, subst, sym, arith}
use Rattle.std.specs.Prelude.{slice_index}
use Rattle.std.proofs.lemmas.List.{get_or_read}
use Rattle.cli_requests.specs.Destinations.{IsParsed}
use Rattle.cli_talk.specs.Talks.{IsParsedOf}
use Rattle.cli_talk.proofs.Counting.{placed, counts_one, counts_none}
use Rattle.cli_talk.proofs.Routing.{routes_told, routes_sent}
use Rattle.cli_talk.proofs.router.route_line.Goals as goal

pub returns-in-Nowhere-clause-counted : goal.returns-in-Nowhere-clause-counted
returns-in-Nowhere-clause-counted g c =
    let read = rw c.in-Ok-Some.field-0-is at c.in-Ok-Some.ensures in
    let nowhere = rw c.in-Nowhere.is at c.in-Ok.ensures.goes in
    counts_none c.args.sessions c.args.counts.now.items g.L.Talk.lines (g.I.Read.remaining c.args.input.now) (g.I.Read.remaining c.next_line.new.input) c.in-Ok-Some.line c.requires.counted read (λ bytes l. (nowhere bytes l).0)

pub returns-in-Nowhere-clause-routed : goal.returns-in-Nowhere-clause-routed
returns-in-Nowhere-clause-routed g c =
    let read = rw c.in-Ok-Some.field-0-is at c.in-Ok-Some.ensures in
    let nowhere = rw c.in-Nowhere.is at c.in-Ok.ensures.goes in
    routes_told _ c.args.sessions (g.I.Read.remaining c.args.input.now) (g.I.Read.remaining c.next_line.new.input) c.in-Ok-Some.line c.in-Nowhere.id c.in-Nowhere.fault (g.P.Replies.given c.args.replies.now) (g.P.Replies.given c.tell.new.replies) read nowhere c.in_ok-tell-in-Nowhere.ensures

pub new-message-requires : goal.new-message-requires
new-message-requires g c =
    let read = rw c.in-Ok-Some.field-0-is at c.in-Ok-Some.ensures in
    let parsed = c.in-Session.parsed in
    let from = rw c.in-Session.is at c.in-Ok.ensures.parsed in
    let goes = rw c.in-Session.is at c.in-Ok.ensures.goes in
    let place : c.from-place.result ≡ parsed.session = c.from-place.ensures ∙ c.session.ensures in
    let here : c.index-number.result.now ≡ slice_index c.args.counts.now.items parsed.session =
    get_or_read c.args.counts.now.items c.from-place.result c.index-number.result.now (omega (arith, c.requires.sized, place, from.0)) c.index-number.ensures 0 ∙ ap (λ (i : ℕ). slice_index c.args.counts.now.items i) place in
    record {
      is_of = subst (λ (s : ℕ). IsParsedOf s c.index-number.result.now parsed g.L.Talk.lines) c.requires.sessions
          (placed c.args.sessions c.index-number.result.now c.args.counts.now.items g.L.Talk.lines (g.I.Read.remaining c.args.input.now) (g.I.Read.remaining c.next_line.new.input) c.in-Ok-Some.line parsed from c.requires.counted read goes here);
    }

pub returns-clause-counted : goal.returns-clause-counted
returns-clause-counted g c =
    let read = rw c.in-Ok-Some.field-0-is at c.in-Ok-Some.ensures in
    let parsed = c.in-Session.parsed in
    let from = rw c.in-Session.is at c.in-Ok.ensures.parsed in
    let goes = rw c.in-Session.is at c.in-Ok.ensures.goes in
    let place : c.from-place.result ≡ parsed.session = c.from-place.ensures ∙ c.session.ensures in
    let here : c.index-number.result.now ≡ slice_index c.args.counts.now.items parsed.session =
    get_or_read c.args.counts.now.items c.from-place.result c.index-number.result.now (omega (arith, c.requires.sized, place, from.0)) c.index-number.ensures 0 ∙ ap (λ (i : ℕ). slice_index c.args.counts.now.items i) place in
    counts_one c.args.sessions parsed.session c.index-number.result.now c.args.counts.now.items (set c.args.counts.now.items c.from-place.result (c.index-number.result.now + 1)) g.L.Talk.lines (g.I.Read.remaining c.args.input.now) (g.I.Read.remaining c.next_line.new.input) c.in-Ok-Some.line
    (omega (arith, c.requires.sized, from.0)) (ap (λ (i : ℕ). set c.args.counts.now.items i (c.index-number.result.now + 1)) place) c.requires.counted read (λ bytes l. (goes bytes l).named) here

pub returns-clause-routed : goal.returns-clause-routed
returns-clause-routed g c =
    let read = rw c.in-Ok-Some.field-0-is at c.in-Ok-Some.ensures in
    let goes = rw c.in-Session.is at c.in-Ok.ensures.goes in
    routes_sent _ c.args.sessions (g.I.Read.remaining c.args.input.now) (g.I.Read.remaining c.next_line.new.input) c.in-Ok-Some.line c.new-message.result (g.P.Replies.given c.args.replies.now) read
    (λ bytes l. subst (IsParsed c.args.sessions bytes) (sym c.new-message.ensures) (goes bytes l))
