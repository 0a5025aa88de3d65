use Rattle.std.proofs.Common.{take, ◌++◌}
use Rattle.std.specs.Fmt.{HasWritten, IsPlainFormatter}
use Rattle.std.specs.List.{flat_map}
use Rattle.bc_names.specs.Names.{segment_text}
use Rattle.bc_names.proofs.name.NameDisplay.fmt.Given as goal

abbrev pub invariant-loop-segment : goal.invariant-loop-segment
invariant-loop-segment g l =
    IsPlainFormatter l.fn.f → HasWritten g.W.Write.write_str_gives l.fn.f (l.self.root ++ flat_map segment_text (take l.segment-index l.segment-items)) l.f
