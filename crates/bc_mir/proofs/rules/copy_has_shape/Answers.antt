use Rattle.std.proofs.Common.{sym, ◌∙◌}
use Rattle.bc_bodies.specs.PlaceTypes.{type_of_place}
use Rattle.bc_mir.proofs.Blanking.{copy-shape}
use Rattle.bc_mir.proofs.rules.copy_has_shape.Goals as goal

pub returns-then-is_copyable : goal.returns-then-is_copyable
returns-then-is_copyable c =
    c.is_like.ensures
    ∙ copy-shape c.args.expected.now (type_of_place c.args.draft.now c.args.place.now) c.in-Some.shape c.in-Some.ensures (sym c.is_copyable.ensures ∙ c.if-is_copyable.true)
