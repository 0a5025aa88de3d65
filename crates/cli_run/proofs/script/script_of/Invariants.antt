use Rattle.std.proofs.Common.{◌≡◌, take}
use Rattle.cli_run.specs.Calls.{calls_for}
use Rattle.cli_run.proofs.script.script_of.Given as goal

abbrev pub invariant-loop-given : goal.invariant-loop-given
invariant-loop-given l = l.own.items ≡ calls_for l.session (take l.given-index l.calls)
