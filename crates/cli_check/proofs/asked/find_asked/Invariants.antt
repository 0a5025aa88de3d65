use Rattle.std.proofs.Common.{map, take}
use Rattle.cli_file.specs.Changes.{seen}
use Rattle.cli_check.specs.Asked.{AreAsked}
use Rattle.cli_check.proofs.asked.find_asked.Given as goal

abbrev pub invariant-loop-change : goal.invariant-loop-change
invariant-loop-change l = AreAsked (take l.change-index (map seen l.changes)) l.names.keys
