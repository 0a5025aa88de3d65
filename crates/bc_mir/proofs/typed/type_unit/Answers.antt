use Rattle.std.proofs.Common.{◌≡◌, None, sym, subst, ◌∙◌}
use Rattle.std.specs.Arc.{arc_value}
use Rattle.bc_bodies.specs.Mir.{mir_of}
use Rattle.bc_mir.specs.Typing.{misfit, HasNoMisfit}
use Rattle.bc_mir.specs.Typed.{IsTyped}
use Rattle.bc_mir.proofs.Kept.{typed}
use Rattle.bc_mir.proofs.typed.type_unit.Goals as goal

pub of-requires : goal.of-requires
of-requires c = rw c.body.ensures.value c.body.ensures.fits

pub invariant_of-result : goal.invariant_of-result
invariant_of-result c =
    let same : c.in_ok-draft.draft ≡ mir_of (arc_value c.args.types.now) c.args.kids.now c.args.unit.now = rw (← c.body.ensures.value) rw (← c.in_ok-shared.ensures) c.in_ok-draft.ensures in
    let none : misfit c.in_ok-draft.draft ≡ None = sym c.misfit.ensures ∙ c.in-None.is in
    subst IsTyped (sym same) (typed (arc_value c.args.types.now) c.args.kids.now c.args.unit.now c.body.ensures.fits (subst HasNoMisfit same none))
