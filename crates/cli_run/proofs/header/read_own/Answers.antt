use Rattle.std.specs.Prelude.{Some}
use Rattle.cli_file.specs.Headings.{maker_text}
use Rattle.cli_run.proofs.Headers.{no_heading}
use Rattle.cli_run.proofs.header.read_own.Goals as goal

pub returns-clause-none : goal.returns-clause-none
returns-clause-none c = no_heading c.args.header.now (maker_text (Some c.args.session)) c.in_ok-behind_session.field-0.now c.read_heading.result c.in_ok-behind_session.ensures.found c.read_heading.ensures.none
