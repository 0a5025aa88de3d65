use Rattle.std.proofs.Common.{◌≡◌, ◌<◌, ℕ, [], length, get_or}
use Rattle.std.specs.List.{All}
use Rattle.bc_flow.specs.Flow.{HaveSize}
use Rattle.bc_loans.specs.Overwrites.{AreProjecting}
use Rattle.bc_loans.proofs.loan_set.loans_by_depth.Given as goal

abbrev pub invariant-loop-depth : goal.invariant-loop-depth
invariant-loop-depth l = record {
  count : length l.tables.items ≡ l.depth;
  projections : All (λ rows. length rows ≡ 257) l.tables.items;
  sizes : All (λ rows. HaveSize (length l.loans) rows) l.tables.items;
  projecting : (depth : ℕ) → depth < l.depth → AreProjecting l.loans depth (get_or l.tables.items depth []);
}
