use Rattle.std.proofs.lemmas.Result.{IfOk-weaker}
use Rattle.cli_line.proofs.Telling.{argument_told}
use Rattle.cli_line.proofs.arguments.file_command.Goals as goal

pub returns : goal.returns
returns c =
    let one = argument_told _ _ _ _ _ (c.new.ensures.app, c.new.ensures.local) c.in_ok-arg.ensures c.file_argument.ensures.rule c.file_argument.ensures.local in
    IfOk-weaker c.arg-2.result _ _ (λ r h. argument_told _ _ _ _ _ one h c.json_option.ensures.rule c.json_option.ensures.local) c.arg-2.ensures
