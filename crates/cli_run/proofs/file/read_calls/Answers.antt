use Rattle.cli_file.specs.Left.{part_of}
use Rattle.cli_file.proofs.Reading.{read_more}
use Rattle.cli_run.specs.Calls.{Gives}
use Rattle.cli_run.proofs.file.read_calls.Goals as goal

pub loop-section-preserved : goal.loop-section-preserved
loop-section-preserved c =
    rw c.in_ok-push.ensures.items
    (read_more (Gives c.args.sessions) _ _ _ _ (part_of c.in-Some.section) c.in_ok-read_call.field-0 c.loop-section.invariant c.in-Some.ensures.steps c.in_ok-read_call.ensures)
