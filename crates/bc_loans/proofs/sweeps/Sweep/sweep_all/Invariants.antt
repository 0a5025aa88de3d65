use Rattle.std.proofs.Common.{◌≡◌, ◌/◌, ℕ}
use Rattle.std.specs.List.{sum_by}
use Rattle.bc_flow.specs.BitSet.{absent_count}
use Rattle.bc_flow.specs.Flow.{holds}
use Rattle.bc_loans.specs.Flows.{IsBegun, IsSweep}
use Rattle.bc_loans.proofs.sweeps.Sweep.sweep_all.Given as goal

abbrev pub invariant-sweeps : goal.invariant-sweeps
invariant-sweeps l = record {
  sweep : IsSweep l.flow l.word l.self;
  begun : IsBegun l.flow l.word l.self.rows;
  others : (n k : ℕ) → (k / 64 ≡ l.word → ⊥) → holds l.self.rows n k ≡ holds l.initial.self.rows n k;
}

abbrev pub decreases-sweeps : goal.decreases-sweeps
decreases-sweeps l = sum_by absent_count l.self.rows
