use Rattle.std.proofs.Common.{Option, sym, ap, subst, rules, tests}
use Rattle.std.specs.Option.{option_map}
use Rattle.std.proofs.lemmas.Iterator.{YieldsList-from_slice}
use Rattle.std.proofs.lemmas.Iterator.Search.{find_from_yields_List}
use Rattle.bc_reasons.specs.declared.demand.Demand.{Demand}
use Rattle.bc_reasons.specs.declared.demand.LinkReason.{LinkReason}
use Rattle.bc_reasons.specs.Demands.{is_of}
use Rattle.bc_reasons.proofs.Finding.{says, Says}
use Rattle.bc_reasons.proofs.body.Demands.first_reason.Goals as goal

pub returns-in-Some-clause-first : goal.returns-in-Some-clause-first
returns-in-Some-clause-first c =
    let demands = c.args.self.now in
    let link = c.args.link in
    let found = rw c.in-Some.is at (find_from_yields_List (is_of link) _ _ c.find.result c.find.ensures.ran (YieldsList-from_slice demands cc) (λ x b q k. search (rules, tests))) in
    subst (λ (reason : Option LinkReason). Says demands link reason) (ap (option_map (λ (demand : Demand). demand.reason)) (sym found)) (says link demands)

pub returns-in-None-clause-first : goal.returns-in-None-clause-first
returns-in-None-clause-first c =
    let demands = c.args.self.now in
    let link = c.args.link in
    let found = rw c.in-None.is at (find_from_yields_List (is_of link) _ _ c.find.result c.find.ensures.ran (YieldsList-from_slice demands cc) (λ x b q k. search (rules, tests))) in
    subst (λ (reason : Option LinkReason). Says demands link reason) (ap (option_map (λ (demand : Demand). demand.reason)) (sym found)) (says link demands)
