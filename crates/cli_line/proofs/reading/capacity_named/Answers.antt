use Rattle.std.proofs.Common.{rules, true, false}
use Rattle.cli_line.proofs.Words.{capacity_of}
use Rattle.cli_line.proofs.reading.capacity_named.Goals as goal

pub returns-then-is_capacity : goal.returns-then-is_capacity
returns-then-is_capacity c =
    capacity_of c.args.word.now _ c.parse.result true c.parse.ensures.value.0 c.unwrap_or-count.ensures (search rules)

pub returns-else-is_capacity : goal.returns-else-is_capacity
returns-else-is_capacity c =
    capacity_of c.args.word.now _ c.parse.result false c.parse.ensures.value.0 c.unwrap_or-count.ensures (search rules)
