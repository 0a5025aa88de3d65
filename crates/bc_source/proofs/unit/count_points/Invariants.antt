use Rattle.std.proofs.Common.{◌≡◌, take}
use Rattle.bc_syntax.specs.Fits.{point_count}
use Rattle.bc_source.proofs.unit.count_points.Given as goal

abbrev pub invariant-loop-block : goal.invariant-loop-block
invariant-loop-block l = l.count ≡ point_count (take l.block-index l.blocks)
