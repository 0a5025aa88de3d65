use Rattle.std.proofs.Common.{◌≡◌, [], false, length}
use Rattle.bc_tokens.specs.Token.{tokens}
use Rattle.bc_places.specs.Walk.{noted}
use Rattle.bc_places.proofs.Ending.{Ends}
use Rattle.bc_places.proofs.walk.noted_places.Given as goal

abbrev pub invariant-loop-cursor : goal.invariant-loop-cursor
invariant-loop-cursor l = record {
  ends : Ends l.cursor;
  noted : noted l.opened l.places.items l.cursor ≡ noted false [] (tokens 0 0 l.text);
}

abbrev pub decreases-loop-cursor : goal.decreases-loop-cursor
decreases-loop-cursor l = length l.cursor
