-- What an explainer keeps between calls.
use Rattle.std.specs.Prelude.{List, Option, Some, None, length}
use Rattle.bc_flow.specs.declared.graph.Edge.{Edge}
use Rattle.bc_flow.specs.declared.adjacency.EdgeChains.{EdgeChains}
use Rattle.bc_flow.specs.Graph.{AreWithin}
use Rattle.bc_flow.specs.Chains.{AreChains}
use Rattle.bc_solve.specs.declared.ways.Ways.{Ways}
use Rattle.bc_cons.specs.Facts.{RegionFacts}
use Rattle.bc_solve.specs.Ways.{AreEdgesOf, AreWays}

-- the ways, if there are any, lead to their element
abbrev pub KeepsWays : RegionFacts → Option Ways → Type 0
KeepsWays facts None = Unit {0}
KeepsWays facts (Some ways) = AreWays facts ways.element ways.lengths.items ways.steps.items

-- the edges are the constraints, with the chains of the edges that leave each region
pub record IsPrepared (facts : RegionFacts) (edges : List Edge) (chains : EdgeChains) (last : Option Ways) : Type 0 where
  pub are_edges : AreEdgesOf facts.pairs edges
  pub within : AreWithin edges (length facts.starts)
  pub are_chains : AreChains 0 (length facts.starts) edges chains.first.items chains.next.items
  pub keeps : KeepsWays facts last
