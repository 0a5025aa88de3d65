use Rattle.std.proofs.Common.{◌∙◌}
use Rattle.cli_line.proofs.Giving.{clean, enters, entered_rows, fails, given, no_rows, not_given, refused}
use Rattle.cli_line.proofs.reading.read_line.Goals as goal

pub returns-in-Err-clause-line : goal.returns-in-Err-clause-line
returns-in-Err-clause-line c =
    refused _ _ _ _
    (fails _ _ _ c.in_ok-nlldb_command.ensures c.in-Err.ensures.kinds)
    c.topic_of.ensures c.of_refusal.ensures

pub returns-in-Some-clause-line : goal.returns-in-Some-clause-line
returns-in-Some-clause-line c =
    given _ _ c.read_command.result
    (clean _ _ c.in_ok-nlldb_command.ensures c.in-Ok.ensures.kinds)
    (entered_rows _ _ _ c.in-Some.ensures.name c.in-Some.ensures.rows ∙ enters _ _ _ c.in_ok-nlldb_command.ensures c.in-Ok.ensures.matches)
    c.read_command.ensures.line

pub returns-clause-line : goal.returns-clause-line
returns-clause-line c =
    not_given _
    (clean _ _ c.in_ok-nlldb_command.ensures c.in-Ok.ensures.kinds)
    (no_rows _ c.in-None.ensures.variant ∙ enters _ _ _ c.in_ok-nlldb_command.ensures c.in-Ok.ensures.matches)
