use Rattle.std.proofs.Common.{ap, ◌∙◌}
use Rattle.bc_mir.specs.Rules.{type_reached, unless_closure}
use Rattle.bc_mir.proofs.Blanking.{unless_closure-blanked}
use Rattle.bc_mir.proofs.place_shapes.shape_to_borrow.Goals as goal

pub returns : goal.returns
returns c =
    c.unless_closure.ensures
    ∙ ap unless_closure c.shape_reached.ensures
    ∙ unless_closure-blanked (type_reached c.args.draft.now c.args.mutability c.args.place.now)
