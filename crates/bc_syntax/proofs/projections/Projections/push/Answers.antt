use Rattle.std.proofs.Common.{arith, ap, length, set, ◌+◌, subst, sym}
use Rattle.bc_syntax.specs.Projections.{IsStored, cells}
use Rattle.bc_syntax.proofs.Projected.{push_stored}
use Rattle.bc_syntax.proofs.projections.Projections.push.Goals as goal

pub invariant_of-self : goal.invariant_of-self
invariant_of-self c =
    subst (λ at. IsStored (cells (set c.self.inside.steps at c.args.projection) (c.self.inside.count + 1))) (sym c.from.ensures)
    (push_stored c.self.inside c.args.projection c.self.invariant (omega (arith, ap length c.self.view_is, c.self.invariant.count, c.requires)))
