use Rattle.std.proofs.lemmas.Result.{IfOk-weaker}
use Rattle.cli_line.specs.Commands.{check_app}
use Rattle.cli_line.proofs.Telling.{argument_told}
use Rattle.cli_line.proofs.arguments.check_command.Goals as goal

pub returns : goal.returns
unfolding check_app
returns c =
    let one = argument_told _ _ _ _ _ c.in_ok-file_command.ensures c.in_ok-arg.ensures c.source_option.ensures.rule c.source_option.ensures.local in
    let two = argument_told _ _ _ _ _ one c.in_ok-arg-2.ensures c.positions_option.ensures.rule c.positions_option.ensures.local in
    let three = argument_told _ _ _ _ _ two c.in_ok-arg-3.ensures c.jobs_option.ensures.rule c.jobs_option.ensures.local in
    IfOk-weaker c.arg-4.result _ _ (λ r h. argument_told _ _ _ _ _ three h c.solver_option.ensures.rule c.solver_option.ensures.local) c.arg-4.ensures
