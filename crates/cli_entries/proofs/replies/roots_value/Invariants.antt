use Rattle.std.proofs.Common.{map, take}
use Rattle.std.specs.List.{AllZip}
use Rattle.serde_json.specs.View.{view as data_of}
use Rattle.cli_entries.specs.Replies.{IsRoot}
use Rattle.cli_entries.proofs.replies.roots_value.Given as goal

abbrev pub invariant-loop-name : goal.invariant-loop-name
invariant-loop-name l = AllZip IsRoot (take l.name-index l.rows) (map data_of l.values.items)
