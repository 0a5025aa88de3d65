use Rattle.std.proofs.Common.{◌≡◌, [], ◌∷◌, sym, ◌∙◌, rules}
use Rattle.std.proofs.lemmas.List.{nil_from_length}
use Rattle.bc_share.proofs.Working.{worked_none, worked_more, worked_all}
use Rattle.bc_share.proofs.works.work_all.Goals as goal

pub loop-one-init : goal.loop-one-init
loop-one-init g c =
    let same : c.into_iter-one-iterator.result.rest.items ≡ c.args.begun.items = search rules in
    worked_none _ _ _ (sym same) c.in_ok-works.ensures.items

pub loop-one-preserved : goal.loop-one-preserved
loop-one-preserved g c =
    let step : c.loop-one.one-iterator.rest.items ≡ c.in-Some.one ∷ c.next.new.self.rest.items = search rules in
    worked_more _ _ _ _ _ _ _ c.loop-one.invariant step c.in_ok-push.ensures.items (record { same = c.in_ok-work.ensures.same; outcome = c.in_ok-work.ensures.outcome })

pub returns : goal.returns
returns g c =
    let steps = c.in-None.ensures.steps in
    let none : c.loop-one.one-iterator.rest.items ≡ [] = nil_from_length c.loop-one.one-iterator.rest.items (sym c.loop-one.one-iterator.rest.ok.0 ∙ steps.0) in
    worked_all _ _ _ c.loop-one.invariant none
