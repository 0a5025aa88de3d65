use Rattle.std.proofs.Common.{◌-◌, length, take, drop, arith}
use Rattle.std.proofs.lemmas.Grind.{common_steps}
use Rattle.bc_mir.proofs.Blanking.{field-behind}
use Rattle.bc_mir.proofs.place_shapes.+shape_behind.Goals as goal

pub returns-in-Some : goal.returns-in-Some
returns-in-Some t c =
    let projections = c.args.projections.now in
    let same = field-behind c.args.types.now (take (length projections - 1) (drop 1 projections)) c.in-Struct.instance c.in-Field.field c.in-Some.ty.now c.in-Some.ensures in
    grind (arith, common_steps, same)
