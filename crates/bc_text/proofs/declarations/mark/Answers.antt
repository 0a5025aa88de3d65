use Rattle.std.proofs.Common.{rules, arith, sym}
use Rattle.std.proofs.lemmas.Grind.{common_steps}
use Rattle.std.proofs.lemmas.Slice.Zip.{seconds-zip}
use Rattle.bc_text.specs.Reading.{mark}
use Rattle.bc_text.proofs.declarations.mark.Goals as goal

pub returns-in_err-region : goal.returns-in_err-region
unfolding mark
returns-in_err-region c =
    let regions = seconds-zip c.args.before.now.variances c.args.before.now.regions (sym c.requires) in
    first_of (search rules, grind (arith, common_steps))

pub returns : goal.returns
unfolding mark
returns c =
    let regions = seconds-zip c.args.before.now.variances c.args.before.now.regions (sym c.requires) in
    first_of (search rules, grind (arith, common_steps))
