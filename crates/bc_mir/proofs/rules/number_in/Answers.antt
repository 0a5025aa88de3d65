use Rattle.std.proofs.lemmas.Grind.{common_steps}
use Rattle.std.proofs.Common.{arith}
use Rattle.bc_bodies.specs.PlaceTypes.{type_of_place}
use Rattle.bc_mir.proofs.Blanking.{number_found-blanked}
use Rattle.bc_mir.proofs.rules.number_in.Goals as goal

pub returns-in-Some : goal.returns-in-Some
returns-in-Some c =
    let same = number_found-blanked (type_of_place c.args.draft.now c.args.place.now) in
    grind (arith, common_steps, same)
