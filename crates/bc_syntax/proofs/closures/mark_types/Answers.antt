use Rattle.bc_syntax.specs.declared.syntax.Ty.{Ty}
use Rattle.bc_syntax.specs.Children.{closures_of_base}
use Rattle.bc_syntax.proofs.Marks.{marked_one_more}
use Rattle.bc_syntax.proofs.closures.mark_types.Goals as goal

pub loop-ty-preserved : goal.loop-ty-preserved
loop-ty-preserved c =
    let x = c.ty-item.result in
    marked_one_more (λ (ty : Ty). closures_of_base ty.base) _ _ _ c.args.types.now c.loop-ty.ty-index x x c.loop-ty-test.true c.ty-item.is c.loop-ty.invariant c.mark_base.ensures
