use Rattle.std.proofs.Common.{rules, arith, sym}
use Rattle.std.proofs.lemmas.Grind.{common_steps}
use Rattle.std.proofs.lemmas.Slice.Zip.{firsts-zip, seconds-zip}
use Rattle.bc_text.specs.Reading.{struct_of}
use Rattle.bc_text.proofs.declarations.struct_of.Goals as goal

pub returns-in_err-fields : goal.returns-in_err-fields
unfolding struct_of
returns-in_err-fields c =
    let regions = seconds-zip c.args.marks.variances c.args.marks.regions (sym c.requires.lengths) in
    first_of (search rules, grind (arith, common_steps))

pub returns : goal.returns
unfolding struct_of
returns c =
    let regions = seconds-zip c.args.marks.variances c.args.marks.regions (sym c.requires.lengths) in
    let variances = firsts-zip c.args.marks.variances c.args.marks.regions (sym c.requires.lengths) in
    first_of (search rules, grind (arith, common_steps))
