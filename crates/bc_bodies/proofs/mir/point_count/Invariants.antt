use Rattle.std.proofs.Common.{◌≡◌, ◌+◌, drop}
use Rattle.bc_syntax.specs.Fits.{point_count}
use Rattle.bc_bodies.proofs.mir.point_count.Given as goal

abbrev pub invariant-loop-block : goal.invariant-loop-block
invariant-loop-block l = l.count + point_count (drop l.block-index l.blocks) ≡ point_count l.blocks
