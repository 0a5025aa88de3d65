use Rattle.std.proofs.Common.{◌+◌, subst, arith}
use Rattle.std.proofs.lemmas.Bool.Decides.{nat_tests}
use Rattle.cli_input.specs.declared.piece.Met.{Met}
use Rattle.cli_input.specs.Pieces.{TakesPiece}
use Rattle.cli_input.proofs.Lines.{begins_more, reads_line, reads_last}
use Rattle.cli_input.proofs.line.read_input_line.Goals as goal

pub returns-in-LineFeed : goal.returns-in-LineFeed
returns-in-LineFeed g c =
    let p = subst (λ (m : Met). TakesPiece (c.args.limit + 1) (g.I.Read.remaining c.pieces.input) (g.I.Read.remaining c.take_piece.new.input) c.pieces.line.items c.take_piece.new.line.items m) c.in-LineFeed.is c.in_ok-take_piece.ensures in
    reads_line c.args.limit _ _ _ _ _ _ c.pieces.invariant p c.finish.ensures

pub returns-in-End-2 : goal.returns-in-End-2
returns-in-End-2 g c =
    let p = subst (λ (m : Met). TakesPiece (c.args.limit + 1) (g.I.Read.remaining c.pieces.input) (g.I.Read.remaining c.take_piece.new.input) c.pieces.line.items c.take_piece.new.line.items m) c.in-End-2.is c.in_ok-take_piece.ensures in
    reads_last c.args.limit _ _ _ _ _ _ c.pieces.invariant p (grind (arith, nat_tests, c.take_piece.new.line.ok.0)) c.finish-in-End-2.ensures

pub pieces-preserved : goal.pieces-preserved
pieces-preserved g c =
    let p = subst (λ (m : Met). TakesPiece (c.args.limit + 1) (g.I.Read.remaining c.pieces.input) (g.I.Read.remaining c.take_piece.new.input) c.pieces.line.items c.take_piece.new.line.items m) c.in-More.is c.in_ok-take_piece.ensures in
    begins_more (c.args.limit + 1) _ _ _ _ _ c.pieces.invariant p
