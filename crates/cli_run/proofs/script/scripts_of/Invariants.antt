use Rattle.std.proofs.Common.{◌≡◌}
use Rattle.cli_run.specs.Calls.{scripts}
use Rattle.cli_run.proofs.script.scripts_of.Given as goal

abbrev pub invariant-loop-session : goal.invariant-loop-session
invariant-loop-session l = l.list.items ≡ scripts l.session l.calls
