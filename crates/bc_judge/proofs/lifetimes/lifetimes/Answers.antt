use Rattle.std.proofs.Common.{filter, refl, arith}
use Rattle.std.proofs.lemmas.Grind.{common_steps}
use Rattle.bc_types.proofs.Appending.{appended-all}
use Rattle.bc_judge.specs.Lifetimes.{is_lifetime_error}
use Rattle.bc_judge.proofs.lifetimes.lifetimes.Goals as goal

pub returns : goal.returns
returns c = appended-all (filter (is_lifetime_error c.args.typed.now)) _ _ c.args.failures.now c.loop-failure.failure-index c.loop-failure-test.false refl c.loop-failure.invariant

pub loop-failure-preserved : goal.loop-failure-preserved
loop-failure-preserved c = grind (arith, common_steps)
