use Rattle.std.proofs.Common.{arith}
use Rattle.bc_syntax.proofs.projections.Projections.as_slice.Goals as goal

pub shared_ref_as_front-result : goal.shared_ref_as_front-result
shared_ref_as_front-result c = omega (arith, c.from.ensures, c.self.invariant.most)
