use Rattle.std.proofs.Common.{subst}
use Rattle.std.specs.Prelude.{IfOk}
use Rattle.std.proofs.lemmas.Result.{IfOk-weaker}
use Rattle.cli_line.specs.Commands.{IsCommand}
use Rattle.cli_line.proofs.Telling.{command_told}
use Rattle.cli_line.proofs.arguments.with_command.Goals as goal

pub returns-in-Ok : goal.returns-in-Ok
returns-in-Ok c = λ app below is made.
    IfOk-weaker c.subcommand.result _ _ (λ r h. command_told _ _ _ _ _ is (subst (λ r. IfOk r (IsCommand below)) c.in-Ok.is made) h) c.subcommand.ensures
