use Rattle.std.proofs.Common.{◌≤◌}
use Rattle.cli_file.specs.Changes.{seen}
use Rattle.cli_check.specs.Run.{error_lines}
use Rattle.cli_check.proofs.Performing.{Making}
use Rattle.cli_check.proofs.command.make_changes.Given as goal

abbrev pub invariant-loop-change : goal.invariant-loop-change
invariant-loop-change g l = record {
  made : Making seen l.fn.changes.items l.change-iterator.rest.items error_lines l.status l.fn.session l.session (g.E.Write.contents l.fn.err) (g.E.Write.contents l.err);
  range : l.status ≤ 2;
}
