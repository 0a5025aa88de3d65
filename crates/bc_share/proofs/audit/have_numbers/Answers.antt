use Rattle.std.proofs.Common.{ℕ, below_more}
use Rattle.std.specs.List.{Contains}
use Rattle.bc_share.specs.Closings.{numbers}
use Rattle.bc_share.proofs.audit.have_numbers.Goals as goal

pub loop-number-preserved : goal.loop-number-preserved
loop-number-preserved g c = below_more (λ (k : ℕ). Contains (numbers c.args.sessions.now) k) c.loop-number.number c.loop-number.invariant (c.has_number.ensures.0 c.if-not-has_number.false)
