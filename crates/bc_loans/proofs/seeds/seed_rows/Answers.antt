use Rattle.std.proofs.Common.{◌<◌, ℕ, length, arith, ◌∙◌}
use Rattle.std.proofs.lemmas.List.Elements.{All-nil}
use Rattle.bc_loans.specs.Flows.{inside}
use Rattle.bc_loans.proofs.Seeding.{AreSeeded-none, AreSeeded-more, AreSeeded-all}
use Rattle.bc_loans.proofs.seeds.seed_rows.Goals as goal

pub loop-number-init : goal.loop-number-init
loop-number-init c =
    let flow = c.args.flow.now in
    record {
      points = c.in_ok-rows.ensures.rows;
      size = c.in_ok-rows.ensures.size;
      reached = rw c.new-reached.ensures.items (All-nil (λ (n : ℕ). n < length flow.steps.now));
      seeded = AreSeeded-none flow.edges.now flow.steps.now flow.set.loans.now (inside flow) c.in_ok-rows.rows c.in_ok-rows.ensures.empty;
    }

pub loop-number-preserved : goal.loop-number-preserved
loop-number-preserved c =
    let flow = c.args.flow.now in
    let invariant = c.loop-number.invariant in
    let added = c.in_ok-add_seed.ensures in
    record {
      points = added.points ∙ invariant.points;
      size = added.rows;
      reached = added.reached;
      seeded = AreSeeded-more flow.edges.now flow.steps.now flow.set.loans.now (inside flow) c.loop-number.number c.loop-number.rows c.add_seed.new.coming added.others added.seeded invariant.seeded;
    }

pub returns-clause-seeds : goal.returns-clause-seeds
returns-clause-seeds c =
    let flow = c.args.flow.now in
    AreSeeded-all flow.edges.now flow.steps.now flow.set.loans.now (inside flow) c.loop-number.number c.loop-number.rows (omega (arith, c.loop-number-test.false)) c.loop-number.invariant.size c.loop-number.invariant.seeded
