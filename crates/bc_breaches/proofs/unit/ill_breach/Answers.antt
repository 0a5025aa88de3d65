use Rattle.std.proofs.Common.{◌≡◌, ap, ◌∙◌}
use Rattle.std.specs.Option.{option_map}
use Rattle.std.specs.Arc.{arc_value}
use Rattle.std.proofs.lemmas.Result.{IfOk-weaker}
use Rattle.bc_bodies.specs.Mir.{mir_of}
use Rattle.bc_mir.specs.Typing.{misfit}
use Rattle.bc_breaches.specs.Typing.{unit_breach, place_of}
use Rattle.bc_breaches.proofs.Keeping.{of_unit}
use Rattle.bc_breaches.proofs.unit.ill_breach.Goals as goal

pub returns-clause-place : goal.returns-clause-place
returns-clause-place c =
    let mir = mir_of (arc_value c.args.types.now) c.args.kids.now c.args.unit.now in
    let same : c.in_ok-draft.draft ≡ mir =
    c.in_ok-draft.ensures
    ∙ ap (λ types. mir_of types c.args.kids.now c.body.result.now) c.in_ok-shared.ensures
    ∙ ap (mir_of (arc_value c.args.types.now) c.args.kids.now) c.body.ensures.value in
    IfOk-weaker c.draft_breach.result (λ found. found ≡ unit_breach c.in_ok-draft.draft) (λ found. option_map place_of found ≡ misfit mir) (λ found is. ap (option_map place_of) is ∙ of_unit c.in_ok-draft.draft ∙ ap misfit same)
    c.draft_breach.ensures
