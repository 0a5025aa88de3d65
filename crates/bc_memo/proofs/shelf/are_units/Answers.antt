use Rattle.std.proofs.Common.{arith, refl}
use Rattle.bc_names.specs.Names.{NameParts}
use Rattle.bc_memo.specs.declared.place.Place.{Place}
use Rattle.bc_memo.proofs.Parts.{map_same}
use Rattle.std.proofs.lemmas.Grind.{common_steps}
use Rattle.bc_memo.proofs.shelf.are_units.Goals as goal

pub returns : goal.returns
returns c =
    let same = c.if-units-places.false in
    let done = c.loop-index-test.false in
    (λ _. map_same (λ (p : NameParts × Place). (p.0, p.1.unit)) c.args.units.now c.args.places.now (omega (arith, same)) (λ k d e less. c.loop-index.invariant k d e (omega (arith, done, less))), λ _. refl)

pub loop-index-preserved : goal.loop-index-preserved
loop-index-preserved c = grind (arith, common_steps)
