use Rattle.std.proofs.Common.{◌≡◌, [], Some, rules, ap, sym, subst, ◌∙◌}
use Rattle.bc_prov.specs.Outcome.{OutcomeRows}
use Rattle.bc_memo.specs.declared.change.Change.TheVariants.{Answers}
use Rattle.bc_memo.specs.Places.{Places, AreOrdered, marked}
use Rattle.bc_memo.proofs.Marking.{marked_last, marked_none, ordered-with_answer_at}
use Rattle.bc_memo.proofs.shelf.set_answers.Goals as goal

pub loop-row-preserved : goal.loop-row-preserved
loop-row-preserved c =
    let before = c.loop-row.invariant in
    let ps : Places = c.loop-row.places.items in
    let rows : OutcomeRows = c.pop.new.self.items in
    let row = c.in-Some.row in
    record {
      ordered = subst (λ (qs : Places). AreOrdered qs) (sym c.set_answer.ensures.places) (ordered-with_answer_at row.0 (Some row.1) ps before.ordered);
      places =
          ap (marked (Answers rows)) c.set_answer.ensures.places
          ∙ sym (marked_last rows row ps)
          ∙ ap (λ (l : OutcomeRows). marked (Answers l) ps) (sym c.in-Some.ensures.items)
          ∙ before.places;
      place_memory = c.set_answer.ensures.memory ∙ before.place_memory;
      ready_memory = c.pop.ensures.capacity ∙ before.ready_memory;
    }

pub returns-clause-places : goal.returns-clause-places
returns-clause-places c =
    let ps : Places = c.loop-row.places.items in
    let none : c.loop-row.ready.items ≡ [] = search rules in
    marked_none ps ∙ ap (λ (l : OutcomeRows). marked (Answers l) ps) (sym none) ∙ c.loop-row.invariant.places
