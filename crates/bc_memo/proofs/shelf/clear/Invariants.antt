use Rattle.std.proofs.Common.{◌≡◌, vec_capacity}
use Rattle.bc_memo.proofs.Marking.{cleared_below}
use Rattle.bc_memo.proofs.shelf.clear.Given as goal

abbrev pub invariant-loop-depth : goal.invariant-loop-depth
invariant-loop-depth l = record {
  places : l.places.items ≡ cleared_below l.name l.depth l.initial.places.items;
  memory : vec_capacity l.places ≡ vec_capacity l.initial.places;
}
