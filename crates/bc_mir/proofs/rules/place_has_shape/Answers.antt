use Rattle.std.proofs.Common.{ap, ◌∙◌}
use Rattle.bc_bodies.specs.PlaceTypes.{type_of_place}
use Rattle.bc_mir.specs.Rules.{has_shape}
use Rattle.bc_mir.proofs.Blanking.{has_shape-blanked}
use Rattle.bc_mir.proofs.rules.place_has_shape.Goals as goal

pub returns-in-Some : goal.returns-in-Some
returns-in-Some c =
    c.is_like.ensures
    ∙ ap (has_shape c.args.expected.now) c.in-Some.ensures
    ∙ has_shape-blanked c.args.expected.now (type_of_place c.args.draft.now c.args.place.now)
