use Rattle.std.proofs.Common.{rules, ◌≡◌, ℕ, ◌+◌, length, length-append, [], ◌∷◌, ◌++◌, ap, ◌∙◌, subst, sym, arith}
use Rattle.std.specs.Prelude.{OnOk}
use Rattle.bc_share.specs.Sessions.{SessionView}
use Rattle.cli_output.specs.Pens.{PenView}
use Rattle.cli_serve.specs.Talked.{AreWholeBy, IsOwn, IsWholeBy}
use Rattle.cli_serve.proofs.Joining.{both_well, each_more, each_pair_more}
use Rattle.cli_serve.proofs.talk.join_all.Goals as goal

pub workers-preserved : goal.workers-preserved
workers-preserved g c =
    let sessions = g.L.Talk.sessions in
    let lines = g.L.Talk.lines in
    let before = c.workers.done.items in
    let pens = c.workers.pens.items in
    let session : SessionView = c.in-Some-join.joined.0 in
    let pen : PenView = c.in-Some-join.joined.1 in
    let done' : c.push.new.self.items ≡ before ++ session ∷ [] = search rules in
    let pens' : c.push-else-is_err.new.self.items ≡ pens ++ pen ∷ [] = search rules in
    let place : c.len.result ≡ length before = omega (arith, c.len.ensures, c.workers.done.ok.0) in
    let same : length pens ≡ length before = c.workers.invariant.0 in
    let own : IsOwn (length before) session = subst (λ (n : ℕ). IsOwn n session) place c.in-Some-join.ensures.own in
    let numbered : pen.number ≡ length pens = c.in-Some-join.ensures.pen ∙ place ∙ sym same in
    let whole : OnOk c.in-Some-join.joined.2 (IsWholeBy sessions (length before) lines session pen.texts) =
    subst (λ (n : ℕ). OnOk c.in-Some-join.joined.2 (IsWholeBy sessions n lines session pen.texts)) place c.in-Some-join.ensures.whole in (
      ap length pens' ∙ length-append pens (pen ∷ []) ∙ ap (λ (n : ℕ). n + 1) same ∙ sym (ap length done' ∙ length-append before (session ∷ [])),
      each_more IsOwn before c.push.new.self.items session done' c.workers.invariant.1 own,
      each_more (λ (n : ℕ) (p : PenView). p.number ≡ n) pens c.push-else-is_err.new.self.items pen pens' c.workers.invariant.2 numbered,
      both_well c.workers.ended c.in-Some-join.joined.2 c.both-ended.result (AreWholeBy sessions lines before pens) (IsWholeBy sessions (length before) lines session pen.texts) (AreWholeBy sessions lines c.push.new.self.items c.push-else-is_err.new.self.items) c.both-ended.ensures.before c.both-ended.ensures.now c.workers.invariant.3 whole
          (λ p q. each_pair_more (λ (n : ℕ) (s : SessionView) (r : PenView). IsWholeBy sessions n lines s r.texts) before c.push.new.self.items pens c.push-else-is_err.new.self.items session pen done' pens' same p q),
    )
