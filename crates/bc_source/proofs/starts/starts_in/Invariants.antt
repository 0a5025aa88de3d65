use Rattle.std.proofs.Common.{◌≡◌, map, take}
use Rattle.bc_position.specs.Positions.{position_in}
use Rattle.bc_source.specs.Points.{start_in}
use Rattle.bc_source.proofs.starts.starts_in.Given as goal

abbrev pub invariant-loop-at : goal.invariant-loop-at
invariant-loop-at l = record {
  starts : l.starts.items ≡ map (start_in l.text) (take l.at-index l.places);
  last : l.last.position ≡ position_in l.text l.last.at;
}
