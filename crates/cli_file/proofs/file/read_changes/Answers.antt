use Rattle.std.proofs.lemmas.List.{map-append}
use Rattle.cli_file.specs.Left.{part_of}
use Rattle.cli_file.specs.Changes.{Makes, seen}
use Rattle.cli_file.proofs.Reading.{read_more}
use Rattle.cli_file.proofs.file.read_changes.Goals as goal

pub loop-section-preserved : goal.loop-section-preserved
loop-section-preserved c =
    rw (c.in_ok-push.ensures.items, map-append seen c.loop-section.changes.items)
    (read_more Makes _ _ _ _ (part_of c.in-Some.section) (seen c.in_ok-read_change.field-0) c.loop-section.invariant c.in-Some.ensures.steps c.in_ok-read_change.ensures)
