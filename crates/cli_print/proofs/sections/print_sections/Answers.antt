use Rattle.std.proofs.Common.{ap, map}
use Rattle.cli_file.specs.Left.{part_of}
use Rattle.cli_file.specs.Changes.{seen}
use Rattle.cli_print.proofs.Writing.{writing_more}
use Rattle.cli_print.proofs.sections.print_sections.Goals as goal

pub loop-section-preserved : goal.loop-section-preserved
loop-section-preserved g c =
    writing_more _ _ _ _ _ _ (part_of c.in-Some.section) (seen c.in-Some-split_first.change.now) _ _ _ c.loop-section.invariant c.in-Some.ensures.steps
    (ap (map seen) c.in-Some-split_first.ensures.cases.0) c.in_ok-print_section.ensures
