use Rattle.std.proofs.Common.{◌∙◌}
use Rattle.std.proofs.lemmas.List.Elements.{Contains-get_or}
use Rattle.bc_judge.specs.Errors.{lifetime_error}
use Rattle.bc_judge.proofs.Turns.{turn, turned}
use Rattle.bc_judge.proofs.explained.push_lifetime_errors.Goals as goal

pub push_lifetime_error-requires : goal.push_lifetime_error-requires
push_lifetime_error-requires c =
    rw c.loop-failure.invariant.same (c.requires _ (Contains-get_or c.args.failures.now c.loop-failure.failure-index (record { longer = 0; shorter = 0 }) c.loop-failure-test.true))

pub loop-failure-preserved : goal.loop-failure-preserved
loop-failure-preserved c = record {
  same = c.in_ok-push_lifetime_error.ensures.kept ∙ c.loop-failure.invariant.same;
  found = λ chain tells. turn (lifetime_error c.args.typed.now chain) c.args.failures.now c.loop-failure.failure-index (record { longer = 0; shorter = 0 }) c.loop-failure.errors.items c.push_lifetime_error.new.errors.items _ c.loop-failure-test.true
      (c.in_ok-push_lifetime_error.ensures.pushed chain (rw c.loop-failure.invariant.same tells)) (c.loop-failure.invariant.found chain tells);
}

pub returns-clause-pushed : goal.returns-clause-pushed
returns-clause-pushed c = λ chain tells.
    turned (lifetime_error c.args.typed.now chain) c.args.failures.now c.loop-failure.failure-index _ _ c.loop-failure-test.false (c.loop-failure.invariant.found chain tells)
