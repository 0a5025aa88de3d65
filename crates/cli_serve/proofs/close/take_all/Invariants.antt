use Rattle.std.specs.Prelude.{◌≡◌}
use Rattle.std.specs.List.{All}
use Rattle.cli_output.specs.Pens.{IsLogged}
use Rattle.cli_output.specs.Tokens.{known}
use Rattle.cli_serve.proofs.close.take_all.Given as goal

abbrev pub invariant-pens : goal.invariant-pens
invariant-pens g l = ((known l.output.keeper).log ≡ (known l.initial.output.keeper).log) × All (IsLogged (known l.initial.output.keeper).log) l.yielded
