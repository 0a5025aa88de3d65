use Rattle.std.proofs.Common.{[], refl, arith}
use Rattle.std.proofs.lemmas.List.{take_all}
use Rattle.bc_flow.proofs.BreadthFirst.{GivesLevel-none, GivesLevel-front}
use Rattle.bc_flow.specs.Levels.{IsSuccessor}
use Rattle.bc_flow.proofs.Membership.{Contains-nil}
use Rattle.bc_flow.proofs.breadth_first.next_level.Goals as goal

pub loop-node-preserved : goal.loop-node-preserved
loop-node-preserved c = record {
  count = grind arith;
  marks = GivesLevel-front c.args.edges.now c.args.front.now c.loop-node.node-index c.args.level _ _ _ _ _ _ c.requires.level (omega arith) c.loop-node.invariant.marks c.in_ok-visit.ensures;
}

pub loop-node-init : goal.loop-node-init
loop-node-init c = record {
  count = refl;
  marks = rw c.clear.ensures.items (GivesLevel-none (IsSuccessor c.args.edges.now []) c.args.level c.args.levels.now [] (λ n h. absurd (Contains-nil h.0 h.1)));
}

pub visit-requires : goal.visit-requires
visit-requires c =
    let invariant = c.loop-node.invariant in
    record {
      node = omega (arith, c.requires.front c.loop-node.node-index 0 c.loop-node-test.true, invariant.count);
      level = c.requires.level;
      edges = rw invariant.count c.requires.edges;
      chains = rw invariant.count c.requires.chains;
    }

pub returns : goal.returns
returns c = rw (take_all c.loop-node.node-index c.args.front.now c.loop-node-test.false) at c.loop-node.invariant.marks
