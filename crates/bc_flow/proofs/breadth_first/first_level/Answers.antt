use Rattle.std.proofs.Common.{[], refl, arith}
use Rattle.std.specs.List.{Contains}
use Rattle.std.proofs.lemmas.List.{take_all}
use Rattle.bc_flow.proofs.BreadthFirst.{GivesLevel-none, GivesLevel-source}
use Rattle.bc_flow.proofs.Membership.{Contains-nil}
use Rattle.bc_flow.proofs.breadth_first.first_level.Goals as goal

pub loop-node-preserved : goal.loop-node-preserved
loop-node-preserved c = record {
  count = grind arith;
  marks = GivesLevel-source c.args.sources.now c.loop-node.node-index 1 _ _ _ _ _ _ (omega arith) (omega arith) c.loop-node.invariant.marks c.in_ok-reach.ensures;
}

pub loop-node-init : goal.loop-node-init
loop-node-init c = record {
  count = refl;
  marks = rw c.new-found.ensures.items (GivesLevel-none (Contains []) 1 c.args.levels.now [] (λ n h. absurd (Contains-nil n h)));
}

pub returns : goal.returns
returns c = rw (take_all c.loop-node.node-index c.args.sources.now c.loop-node-test.false) at c.loop-node.invariant.marks
