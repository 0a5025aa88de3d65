use Rattle.std.proofs.lemmas.List.{map-append}
use Rattle.cli_file.specs.Changes.{Makes, seen}
use Rattle.cli_file.proofs.Reading.{read_more}
use Rattle.cli_file.proofs.side.gather.Goals as goal

pub loop-section-preserved : goal.loop-section-preserved
loop-section-preserved c =
    rw (c.in_ok-push.ensures.items, map-append seen c.loop-section.changes.items)
    (read_more Makes _ _ _ _ c.in-Some.section (seen c.in_ok-into_change.field-0) c.loop-section.invariant c.in-Some.ensures.steps.0 c.in_ok-into_change.ensures)
