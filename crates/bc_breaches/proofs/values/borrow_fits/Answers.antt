use Rattle.std.proofs.Common.{ap, sym, ◌∙◌}
use Rattle.std.specs.Option.{option_map}
use Rattle.bc_shapes.specs.Forms.{type_referenced}
use Rattle.bc_shapes.specs.Shapes.{blanked, one_shape}
use Rattle.bc_shapes.proofs.Blanking.{one_shape-right, referenced-left}
use Rattle.bc_mir.specs.Rules.{has_shape}
use Rattle.bc_breaches.proofs.values.borrow_fits.Goals as goal

pub returns-in-Some : goal.returns-in-Some
returns-in-Some c =
    let reference = c.args.borrow.now.reference in
    let target = c.args.target.now in
    c.is_reference.ensures
    ∙ ap (λ pointee. one_shape (type_referenced reference pointee) c.of.result) c.of-in-Some.ensures
    ∙ ap (one_shape (type_referenced reference (blanked c.in-Some.ty))) c.of.ensures
    ∙ one_shape-right (type_referenced reference (blanked c.in-Some.ty)) target
    ∙ referenced-left reference c.in-Some.ty target
    ∙ ap (λ found. has_shape target (option_map (type_referenced reference) found)) (sym c.in-Some.is ∙ c.in_ok-ty.ensures)
