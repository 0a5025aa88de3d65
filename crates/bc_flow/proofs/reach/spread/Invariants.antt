use Rattle.std.proofs.Common.{◌≡◌, ◌<◌, ◌≤◌, ◌-◌, take, length}
use Rattle.std.specs.List.{All}
use Rattle.bc_flow.specs.BitSet.{has}
use Rattle.bc_flow.specs.Chains.{Leaves}
use Rattle.bc_flow.specs.Flow.{row, HaveSize}
use Rattle.bc_flow.specs.Reach.{Spreads}
use Rattle.bc_flow.proofs.reach.spread.Given as goal

abbrev pub invariant-loop-at : goal.invariant-loop-at
invariant-loop-at l = record {
  count : length l.rows ≡ length l.initial.rows;
  sizes : HaveSize (length (row l.initial.rows l.from.node)) l.rows;
  pending : All (λ n. n < length l.initial.rows) l.pending.items;
  within : l.at ≤ length l.edges;
  leaves : l.at < length l.edges → Leaves l.edges l.from.node l.at;
  spreads : Spreads (take l.at l.edges) l.from.node l.from.fact (has l.allowed) l.initial.rows l.rows l.initial.pending.items l.pending.items;
}

abbrev pub decreases-loop-at : goal.decreases-loop-at
decreases-loop-at l = length l.edges - l.at
