use Rattle.std.proofs.Common.{◌≤◌}
use Rattle.bc_calls.specs.declared.call.Call.TheVariants.{Ask}
use Rattle.cli_check.specs.Run.{shown}
use Rattle.cli_check.proofs.Performing.{Making}
use Rattle.cli_check.proofs.ahead.settle_asks.Given as goal

abbrev pub invariant-loop-ask : goal.invariant-loop-ask
invariant-loop-ask g l = record {
  made : Making Ask l.fn.asks.items l.ask-iterator.rest.items (shown l.asking.form.now) l.status l.fn.session l.session (g.O.Write.contents l.fn.out) (g.O.Write.contents l.out);
  range : l.status ≤ 2;
}
