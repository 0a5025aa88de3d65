use Rattle.std.proofs.Common.{sym, ap, ◌∙◌}
use Rattle.bc_syntax.specs.declared.syntax.Ty.{Ty}
use Rattle.bc_shapes.specs.Shapes.{blanked, one_shape}
use Rattle.bc_shapes.proofs.Blanking.{one_shape-both}
use Rattle.bc_shapes.proofs.shape.Shape.is_like.Goals as goal

pub returns : goal.returns
returns c =
    let first : Ty = record { references = c.self.inside.references.now; base = c.self.inside.base.now } in
    let second : Ty = record { references = c.other.inside.references.now; base = c.other.inside.base.now } in
    c.are_alike_types.ensures
    ∙ sym (one_shape-both first second)
    ∙ ap (λ ty. one_shape ty (blanked second)) c.self.view_is
    ∙ ap (one_shape c.args.self.now) c.other.view_is
