use Rattle.std.proofs.Common.{List, refl}
use Rattle.std.proofs.lemmas.List.{at_drop_more}
use Rattle.bc_syntax.specs.declared.syntax.Region.{Region}
use Rattle.bc_types.specs.WellFormed.{each_outlives}
use Rattle.bc_types.proofs.Appending.{appended-turn, appended-all}
use Rattle.bc_types.proofs.well_formed.push_each_outlives.Goals as goal

pub loop-region-preserved : goal.loop-region-preserved
loop-region-preserved c =
    let each = λ (regions : List Region). each_outlives regions c.args.shorter in
    appended-turn each _ _ c.args.regions.now c.loop-region.region-index _ _ c.in_ok-push_outlives.ensures (at_drop_more each _ _ _ c.loop-region-test.true) c.loop-region.invariant

pub returns : goal.returns
returns c =
    let each = λ (regions : List Region). each_outlives regions c.args.shorter in
    appended-all each _ _ c.args.regions.now c.loop-region.region-index c.loop-region-test.false refl c.loop-region.invariant
