use Rattle.std.proofs.Common.{◌≡◌, drop}
use Rattle.bc_points.specs.Prefixes.{rest_after}
use Rattle.bc_points.proofs.prefix.rest_after.Given as goal

abbrev pub invariant-loop-first : goal.invariant-loop-first
invariant-loop-first l = rest_after (drop l.first-index l.beginning) l.rest ≡ rest_after l.beginning l.projections
