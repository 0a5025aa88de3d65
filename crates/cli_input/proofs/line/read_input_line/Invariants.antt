use Rattle.std.proofs.Common.{◌+◌}
use Rattle.cli_input.specs.Pieces.{HasBegun}
use Rattle.cli_input.proofs.line.read_input_line.Given as goal

abbrev pub invariant-pieces : goal.invariant-pieces
invariant-pieces g l = HasBegun (l.limit + 1) (g.I.Read.remaining l.fn.input) (g.I.Read.remaining l.input) l.line.items
