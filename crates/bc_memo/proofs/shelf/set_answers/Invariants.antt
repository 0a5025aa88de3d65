use Rattle.std.proofs.Common.{◌≡◌, length, vec_capacity}
use Rattle.bc_memo.specs.declared.change.Change.TheVariants.{Answers}
use Rattle.bc_memo.specs.Places.{AreOrdered, marked}
use Rattle.bc_memo.proofs.shelf.set_answers.Given as goal

abbrev pub invariant-loop-row : goal.invariant-loop-row
invariant-loop-row l = record {
  ordered : AreOrdered l.places.items;
  places : marked (Answers l.ready.items) l.places.items ≡ marked (Answers l.initial.ready.items) l.initial.places.items;
  place_memory : vec_capacity l.places ≡ vec_capacity l.initial.places;
  ready_memory : vec_capacity l.ready ≡ vec_capacity l.initial.ready;
}

abbrev pub decreases-loop-row : goal.decreases-loop-row
decreases-loop-row l = length l.ready.items
