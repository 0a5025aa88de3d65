use Rattle.cli_file.proofs.Beginnings.{none_named}
use Rattle.cli_file.proofs.heading.read_named.Goals as goal

pub returns-clause-none : goal.returns-clause-none
returns-clause-none c = none_named c.args.words.now c.args.verb.now c.in_ok-behind.field-0.now c.read.result c.in_ok-behind.ensures.found c.read.ensures.only
