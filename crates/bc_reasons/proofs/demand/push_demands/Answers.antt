use Rattle.std.proofs.Common.{not, refl, sym, ap, ◌∙◌}
use Rattle.bc_types.proofs.Appending.{appended-all}
use Rattle.bc_cons.specs.Constraints.{differ}
use Rattle.bc_reasons.specs.Demands.{as_demand, demands_by}
use Rattle.bc_reasons.proofs.Keeping.{given-turn, passed-turn}
use Rattle.bc_reasons.proofs.demand.push_demands.Goals as goal
use Rattle.bc_reasons.proofs.demand.push_demands.Goals.{then-not-is_same_region+in_ok-push, else-not-is_same_region}

pub loop-pair-preserved : goal.loop-pair-preserved
loop-pair-preserved c =
    let made = as_demand c.args.universals c.args.reason in
    let pairs = c.args.pairs.now in
    let i = c.loop-pair.pair-index in
    elim c.if-not-is_same_region.branch [
      | then-not-is_same_region+in_ok-push w ↦ rw w.demands-is (given-turn made differ pairs i _ c.loop-pair-test.true _ _ _ (ap not (sym c.is_same_region.ensures ∙ w.if-not-is_same_region.true)) (rw w.numbered_demand.ensures at w.in_ok-push.ensures.items) c.loop-pair.invariant)
      | else-not-is_same_region w ↦ rw w.demands-is (passed-turn made differ pairs i _ c.loop-pair-test.true _ _ (ap not (sym c.is_same_region.ensures ∙ w.if-not-is_same_region.false)) c.loop-pair.invariant)
    ]

pub returns : goal.returns
returns c = appended-all (demands_by c.args.universals c.args.reason) _ _ c.args.pairs.now c.loop-pair.pair-index c.loop-pair-test.false refl c.loop-pair.invariant
