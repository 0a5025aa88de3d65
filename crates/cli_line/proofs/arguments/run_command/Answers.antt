use Rattle.std.proofs.lemmas.Result.{IfOk-weaker}
use Rattle.cli_line.specs.Commands.{run_app}
use Rattle.cli_line.proofs.Telling.{argument_told}
use Rattle.cli_line.proofs.arguments.run_command.Goals as goal

pub returns : goal.returns
unfolding run_app
returns c =
    let one = argument_told _ _ _ _ _ c.in_ok-file_command.ensures c.in_ok-arg.ensures c.positions_option.ensures.rule c.positions_option.ensures.local in
    let two = argument_told _ _ _ _ _ one c.in_ok-arg-2.ensures c.sessions_option.ensures.rule c.sessions_option.ensures.local in
    IfOk-weaker c.arg-3.result _ _ (λ r h. argument_told _ _ _ _ _ two h c.solver_option.ensures.rule c.solver_option.ensures.local) c.arg-3.ensures
