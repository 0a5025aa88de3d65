use Rattle.std.proofs.Common.{◌∙◌, sym, drop, length-drop, arith}
use Rattle.bc_points.proofs.Prefixes.{rest_after-short}
use Rattle.bc_points.proofs.prefix.rest_after.Goals as goal

pub returns-in-empty : goal.returns-in-empty
returns-in-empty c =
    let here = c.loop-first in
    sym (rest_after-short (drop here.first-index c.args.beginning.now) here.rest.now (omega (arith, length-drop here.first-index c.args.beginning.now)) (omega arith)) ∙ here.invariant
