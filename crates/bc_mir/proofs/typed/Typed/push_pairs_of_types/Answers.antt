use Rattle.std.proofs.Common.{◌∷◌, ◌+◌, drop, refl, sym, ap, ◌∙◌}
use Rattle.std.specs.List.{flat_map}
use Rattle.std.proofs.lemmas.List.{at_drop_more}
use Rattle.bc_types.proofs.Appending.{appended-turn, appended-all}
use Rattle.bc_mir.specs.WellFormed.{type_pairs}
use Rattle.bc_mir.proofs.typed.Typed.push_pairs_of_types.Goals as goal

pub loop-ty-preserved : goal.loop-ty-preserved
loop-ty-preserved c =
    let each = flat_map (type_pairs c.args.self.now) in
    let types = c.args.types.now in
    let i = c.loop-ty.ty-index in
    let one = at_drop_more each types i c.ty-item.result c.loop-ty-test.true ∙ ap (λ ty. each (ty ∷ drop (i + 1) types)) (sym c.ty-item.is) in
    appended-turn each _ _ types i _ _ c.in_ok-push_type_pairs.ensures one c.loop-ty.invariant

pub returns : goal.returns
returns c = appended-all (flat_map (type_pairs c.args.self.now)) _ _ c.args.types.now c.loop-ty.ty-index c.loop-ty-test.false refl c.loop-ty.invariant
