use Rattle.std.proofs.Common.{◌∙◌}
use Rattle.bc_judge.specs.Errors.{conflict_error}
use Rattle.bc_judge.proofs.Turns.{turn, turned}
use Rattle.std.proofs.lemmas.List.Elements.{Contains-get_or}
use Rattle.bc_judge.proofs.explained.push_conflict_errors.Goals as goal

pub loop-conflict-preserved : goal.loop-conflict-preserved
loop-conflict-preserved c = record {
  same = c.in_ok-push_conflict_error.ensures.kept ∙ c.loop-conflict.invariant.same;
  found = λ chain tells. turn (conflict_error c.args.typed.now chain) c.args.conflicts.now c.loop-conflict.conflict-index _ c.loop-conflict.errors.items c.push_conflict_error.new.errors.items _ c.loop-conflict-test.true
      (c.in_ok-push_conflict_error.ensures.pushed chain (rw c.loop-conflict.invariant.same tells)) (c.loop-conflict.invariant.found chain tells);
}

pub push_conflict_error-requires : goal.push_conflict_error-requires
push_conflict_error-requires c =
    rw c.loop-conflict.invariant.same (c.requires _ (Contains-get_or c.args.conflicts.now c.loop-conflict.conflict-index _ c.loop-conflict-test.true))

pub returns-clause-pushed : goal.returns-clause-pushed
returns-clause-pushed c = λ chain tells.
    turned (conflict_error c.args.typed.now chain) c.args.conflicts.now c.loop-conflict.conflict-index _ _ c.loop-conflict-test.false (c.loop-conflict.invariant.found chain tells)
