use Rattle.std.specs.Prelude.{decimal}
use Rattle.cli_run.proofs.Headers.{no_blank}
use Rattle.cli_run.proofs.header.behind_session.Goals as goal

pub returns-clause-none : goal.returns-clause-none
returns-clause-none c = no_blank c.args.header.now c.in_ok-behind.field-0.now c.in_ok-rest.rest.now (decimal c.args.session) c.behind-2.result c.in_ok-behind.ensures.found c.in_ok-rest.ensures.found c.behind-2.ensures.none
