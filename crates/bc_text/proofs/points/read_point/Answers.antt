use Rattle.std.proofs.Common.{◌≡◌, true, sym}
use Rattle.bc_syntax.specs.declared.numbering.Numbering.TheVariants.{Local}
use Rattle.bc_tokens.specs.Parser.{sees_numbered}
use Rattle.bc_text.proofs.PointLaws.{local_begins}
use Rattle.bc_text.proofs.points.read_point.Goals as goal

pub returns-then-sees_numbered : goal.returns-then-sees_numbered
returns-then-sees_numbered c =
    let seen : sees_numbered Local c.args.cursor.now ≡ true = sym (c.if-sees_numbered.ensures {u = tt}) in
    rw (local_begins c.args.regions.now c.args.locals c.args.cursor.now seen) c.assignment.ensures
