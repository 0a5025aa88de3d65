use Rattle.std.proofs.Common.{List, [], ◌≡◌, ◌∙◌, ap, map, refl, rules, sym, subst}
use Rattle.bc_outcomes.specs.Visited.{VisitView}
use Rattle.std.specs.Prelude.{Some}
use Rattle.bc_prov.specs.State.{at_name, number_of_child}
use Rattle.bc_outcomes.specs.Visits.{state_in}
use Rattle.bc_outcomes.proofs.Folding.{Folds, turn, turn-children, turn-enough, folded, folds_all, folds_none, some_more}
use Rattle.bc_outcomes.proofs.checked.CheckedSnapshot.judge_visits.Goals as goal

pub loop-visit-init : goal.loop-visit-init
loop-visit-init g c =
    rw (c.new-required.ensures, c.requires.found, c.requires.unkept)
    (folds_none (state_in c.args.self.now) c.args.self.now.snapshot.now.root c.args.visits.items c.requires.sound c.requires.visits, ([], refl))

pub take_kids-requires : goal.take_kids-requires
take_kids-requires g c =
    let state = state_in c.args.self.now in
    let root = c.args.self.now.snapshot.now.root in
    let folds = subst (λ (vs : List VisitView). Folds state root vs c.loop-visit.required c.loop-visit.found) c.in-Some.ensures.items c.loop-visit.invariant.0 in
    let here = turn state root c.pop.new.self.items c.in-Some.visit c.loop-visit.required c.loop-visit.found c.requires.sound folds in
    rw c.children.ensures (turn-enough state root c.pop.new.self.items c.in-Some.visit c.loop-visit.required c.loop-visit.found here)

pub judged-requires-clause-types : goal.judged-requires-clause-types
judged-requires-clause-types g c =
    let state = state_in c.args.self.now in
    let root = c.args.self.now.snapshot.now.root in
    let folds = subst (λ (vs : List VisitView). Folds state root vs c.loop-visit.required c.loop-visit.found) c.in-Some.ensures.items c.loop-visit.invariant.0 in
    let here = turn state root c.pop.new.self.items c.in-Some.visit c.loop-visit.required c.loop-visit.found c.requires.sound folds in
    sym c.args.self.now.same ∙ sym (ap (λ (v : VisitView). v.typed.types) here.is_visit)

pub judged-requires-clause-held : goal.judged-requires-clause-held
judged-requires-clause-held g c =
    let state = state_in c.args.self.now in
    let root = c.args.self.now.snapshot.now.root in
    let folds = subst (λ (vs : List VisitView). Folds state root vs c.loop-visit.required c.loop-visit.found) c.in-Some.ensures.items c.loop-visit.invariant.0 in
    let here = turn state root c.pop.new.self.items c.in-Some.visit c.loop-visit.required c.loop-visit.found c.requires.sound folds in
    subst (λ (v : VisitView). at_name c.args.self.now.snapshot.now.units v.name ≡ Some v.unit) (sym here.is_visit) here.sound.held

pub judged-requires-clause-kids : goal.judged-requires-clause-kids
judged-requires-clause-kids g c =
    let state = state_in c.args.self.now in
    let root = c.args.self.now.snapshot.now.root in
    let folds = subst (λ (vs : List VisitView). Folds state root vs c.loop-visit.required c.loop-visit.found) c.in-Some.ensures.items c.loop-visit.invariant.0 in
    let here = turn state root c.pop.new.self.items c.in-Some.visit c.loop-visit.required c.loop-visit.found c.requires.sound folds in
    turn-children state root c.pop.new.self.items c.in-Some.visit c.loop-visit.required c.take_kids.new.required c.loop-visit.found c.in_ok-kids.kids.items here
    (c.in_ok-kids.ensures.numbers ∙ ap (map number_of_child) c.children.ensures) c.in_ok-kids.ensures.rest

pub loop-visit-preserved : goal.loop-visit-preserved
loop-visit-preserved g c =
    let state = state_in c.args.self.now in
    let root = c.args.self.now.snapshot.now.root in
    let folds = subst (λ (vs : List VisitView). Folds state root vs c.loop-visit.required c.loop-visit.found) c.in-Some.ensures.items c.loop-visit.invariant.0 in
    let here = turn state root c.pop.new.self.items c.in-Some.visit c.loop-visit.required c.loop-visit.found c.requires.sound folds in
    let types : c.args.self.now.snapshot.now.types ≡ state.types = sym c.args.self.now.same in
    rw (c.in_ok-push_judged.ensures.required, c.in_ok-push_judged.ensures.found, c.in_ok-push_judged.ensures.unkept) (
      folded state root c.pop.new.self.items c.in-Some.visit c.loop-visit.required c.take_kids.new.required c.loop-visit.found c.in_ok-kids.kids.items c.in_ok-piece.piece c.args.self.now.snapshot.now.types types here
          (c.in_ok-kids.ensures.numbers ∙ ap (map number_of_child) c.children.ensures) c.in_ok-kids.ensures.rest
          c.in_ok-piece.ensures.named c.in_ok-piece.ensures.found,
      some_more c.loop-visit.found c.loop-visit.unkept c.in_ok-piece.piece c.in_ok-piece.is_kept c.loop-visit.invariant.1,
    )

pub returns-clause-pieces : goal.returns-clause-pieces
returns-clause-pieces g c =
    let state = state_in c.args.self.now in
    let root = c.args.self.now.snapshot.now.root in
    let none : c.loop-visit.visits.items ≡ [] = search rules in
    folds_all state root c.loop-visit.required c.loop-visit.found (subst (λ (vs : List VisitView). Folds state root vs c.loop-visit.required c.loop-visit.found) none c.loop-visit.invariant.0)
