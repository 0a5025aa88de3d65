use Rattle.cli_file.proofs.Beginnings.{found_behind, none_behind}
use Rattle.cli_file.proofs.heading.behind.Goals as goal

pub returns-clause-found : goal.returns-clause-found
returns-clause-found c = found_behind c.strip_prefix.result (λ s. s.now) c.args.text.now c.args.beginning.now c.strip_prefix.ensures.cases

pub returns-clause-none : goal.returns-clause-none
returns-clause-none c = none_behind c.strip_prefix.result (λ s. s.now) c.args.text.now c.args.beginning.now c.strip_prefix.ensures.cases
