use Rattle.std.proofs.Common.{ap, ◌∙◌}
use Rattle.std.specs.Option.{option_map}
use Rattle.bc_shapes.specs.Forms.{type_referenced}
use Rattle.bc_mir.specs.Rules.{type_to_borrow, has_shape}
use Rattle.bc_mir.proofs.Blanking.{borrow-blanked}
use Rattle.bc_mir.proofs.rules.takes_borrow.Goals as goal

pub returns-in-Some : goal.returns-in-Some
returns-in-Some c =
    let reference = c.args.borrow.now.reference in
    c.is_reference.ensures
    ∙ ap (λ found. has_shape c.args.target.now (option_map (type_referenced reference) found)) c.in-Some.ensures
    ∙ borrow-blanked reference c.args.target.now (type_to_borrow c.args.draft.now reference.mutability c.args.borrow.now.place)
