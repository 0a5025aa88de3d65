use Rattle.std.proofs.Common.{◌≡◌, ◌+◌, ◌<◌, ◌≤◌, ℕ, false, length}
use Rattle.bc_flow.specs.Flow.{holds, HaveSize}
use Rattle.bc_cons.specs.Starts.{universal_start}
use Rattle.bc_cons.proofs.starts.universal_rows.Given as goal

abbrev pub invariant-loop-region : goal.invariant-loop-region
invariant-loop-region l = record {
  regions : length l.rows ≡ l.regions;
  elements : HaveSize (l.points + l.universals) l.rows;
  starts : (r e : ℕ) → r < l.region → holds l.rows r e ≡ universal_start l.universals l.points r e;
  rest : (r e : ℕ) → l.region ≤ r → holds l.rows r e ≡ false;
}
