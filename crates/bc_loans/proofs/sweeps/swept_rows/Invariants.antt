use Rattle.bc_loans.specs.Flows.{AreWalkedIn, IsReady}
use Rattle.bc_loans.proofs.sweeps.swept_rows.Given as goal

abbrev pub invariant-loop-word : goal.invariant-loop-word
invariant-loop-word l = record {
  ready : IsReady l.flow l.sweep;
  walked : AreWalkedIn l.flow l.word l.sweep.rows;
}
