use Rattle.std.proofs.Common.{◌<◌, length, sym, ◌∙◌, arith}
use Rattle.std.proofs.lemmas.List.{same_lists}
use Rattle.cli_file.proofs.side.read_each.Goals as goal

pub returns : goal.returns
returns g c = same_lists _ _ c.for_each_mut.auto.s (λ k d small.
    let within : k < length c.args.sections.now = omega (arith, small, c.for_each_mut.auto.s) in
    let at = c.for_each_mut.ensures k d within in
    sym at.1.left ∙ at.1.call ∙ at.1.argument_is)
