use Rattle.std.proofs.Common.{take}
use Rattle.cli_input.specs.Pieces.{HasNoFeed}
use Rattle.cli_input.proofs.piece.find_cut.Given as goal

abbrev pub invariant-loop-piece : goal.invariant-loop-piece
invariant-loop-piece l = HasNoFeed (take l.piece l.bytes)
