use Rattle.std.proofs.Common.{◌≤◌}
use Rattle.bc_calls.specs.declared.call.Call.TheVariants.{Ask}
use Rattle.cli_check.specs.Run.{shown}
use Rattle.cli_check.proofs.Performing.{Making}
use Rattle.cli_check.proofs.command.make_asks.Given as goal

abbrev pub invariant-loop-name : goal.invariant-loop-name
invariant-loop-name g l = record {
  made : Making Ask l.asking.names.now.keys l.name-iterator (shown l.asking.form.now) l.status l.fn.session l.session (g.O.Write.contents l.fn.out) (g.O.Write.contents l.out);
  range : l.status ≤ 2;
}
