use Rattle.std.proofs.Common.{◌∙◌}
use Rattle.bc_points.proofs.Supporting.{from_tells}
use Rattle.bc_points.proofs.support.goes_on_mutable.Goals as goal

pub returns : goal.returns
returns c =
    c.supports_from.ensures ∙ from_tells c.args.typed.now c.args.prefix.now c.args.rest.now
