use Rattle.std.proofs.Common.{◌<◌, length, arith}
use Rattle.bc_flow.specs.Graph.{Leads, at_once}
use Rattle.bc_flow.proofs.Searching.{All-last}
use Rattle.bc_groups.proofs.components.Spread.begin.Goals as goal

pub loop-node-init : goal.loop-node-init
loop-node-init c = record {
  spread = c.in_ok-reach.ensures.spread c.args.edges.now at_once c.requires.spread;
  opened = c.in_ok-reach.ensures.opened c.args.edges.now at_once (λ k d h. absurd (omega (arith, h, c.requires.none_open)));
}

pub visit-requires-clause-node : goal.visit-requires-clause-node
visit-requires-clause-node c =
    (All-last (λ n. (n < length c.args.classes.now) × Leads c.args.edges.now c.args.root n) c.loop-node.self.opened.items c.pop.new.self.items c.in-Some.node c.in-Some.ensures.items c.loop-node.invariant.opened).0

pub visit-requires-clause-led : goal.visit-requires-clause-led
visit-requires-clause-led c =
    (All-last (λ n. (n < length c.args.classes.now) × Leads c.args.edges.now c.args.root n) c.loop-node.self.opened.items c.pop.new.self.items c.in-Some.node c.in-Some.ensures.items c.loop-node.invariant.opened).1
