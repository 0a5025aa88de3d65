use Rattle.std.proofs.Common.{map, take}
use Rattle.std.specs.Io.KnownBytes.{Appends}
use Rattle.cli_file.specs.OneLine.{in_one_line}
use Rattle.cli_file.proofs.one_line.write_in_one_line.Given as goal

abbrev pub invariant-loop-byte : goal.invariant-loop-byte
invariant-loop-byte g l = Appends (g.W.Write.contents l.fn.out) (g.W.Write.contents l.out) (map in_one_line (take l.byte-index l.bytes))
