use Rattle.std.proofs.Common.{◌-◌, length}
use Rattle.bc_loans.specs.Flows.{inside, IsSweep}
use Rattle.bc_loans.specs.Sweeps.{IsSwept}
use Rattle.bc_loans.proofs.sweeps.Sweep.sweep.Given as goal

abbrev pub invariant-loop-point : goal.invariant-loop-point
invariant-loop-point l = record {
  sweep : IsSweep l.flow l.word l.self;
  swept : IsSwept l.flow.edges.now l.flow.steps.now l.flow.set.loans.now (inside l.flow) l.word l.from l.again l.initial.self.rows l.self.rows;
}

abbrev pub decreases-loop-point : goal.decreases-loop-point
decreases-loop-point l = length l.flow.steps.now - l.from
