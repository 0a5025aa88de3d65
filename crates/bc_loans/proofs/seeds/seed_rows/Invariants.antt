use Rattle.std.proofs.Common.{◌≡◌, ◌<◌, length}
use Rattle.std.specs.List.{All}
use Rattle.bc_flow.specs.Flow.{HaveSize}
use Rattle.bc_loans.specs.Flows.{inside}
use Rattle.bc_loans.proofs.Seeding.{AreSeeded}
use Rattle.bc_loans.proofs.seeds.seed_rows.Given as goal

abbrev pub invariant-loop-number : goal.invariant-loop-number
invariant-loop-number l = record {
  points : length l.rows ≡ length l.flow.steps.now;
  size : HaveSize (length l.flow.set.loans.now) l.rows;
  reached : All (λ n. n < length l.flow.steps.now) l.reached.items;
  seeded : AreSeeded l.flow.edges.now l.flow.steps.now l.flow.set.loans.now (inside l.flow) l.number l.rows;
}
