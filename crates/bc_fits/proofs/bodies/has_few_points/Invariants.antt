use Rattle.std.proofs.Common.{◌≡◌, ◌+◌, ◌≤◌, drop}
use Rattle.bc_syntax.specs.Fits.{point_count}
use Rattle.bc_fits.proofs.bodies.has_few_points.Given as goal

abbrev pub invariant-loop-block : goal.invariant-loop-block
invariant-loop-block l = (l.points ≤ 4096) × (l.points + point_count (drop l.block-index l.blocks) ≡ point_count l.blocks)
