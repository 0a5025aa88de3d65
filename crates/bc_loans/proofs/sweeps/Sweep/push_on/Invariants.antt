use Rattle.std.proofs.Common.{◌<◌, ◌≤◌, ◌-◌, take, length}
use Rattle.bc_flow.specs.Chains.{Leaves}
use Rattle.bc_flow.specs.Packed.{word_has}
use Rattle.bc_loans.specs.Flows.{inside, IsSweep}
use Rattle.bc_loans.specs.Sweeps.{ArePushed}
use Rattle.bc_loans.proofs.sweeps.Sweep.push_on.Given as goal

abbrev pub invariant-loop-at : goal.invariant-loop-at
invariant-loop-at l = record {
  sweep : IsSweep l.flow l.word l.self;
  within : l.at ≤ length l.flow.edges.now;
  leaves : l.at < length l.flow.edges.now → Leaves l.flow.edges.now l.point l.at;
  pushed : ArePushed (take l.at l.flow.edges.now) l.point (word_has l.word l.here) (inside l.flow) l.again l.initial.self.rows l.self.rows;
}

abbrev pub decreases-loop-at : goal.decreases-loop-at
decreases-loop-at l = length l.flow.edges.now - l.at
