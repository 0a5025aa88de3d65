use Rattle.std.proofs.Common.{List, [], ◌∷◌, ◌++◌, sym, ap, ◌∙◌, append_assoc}
use Rattle.cli_file.specs.Parts.{Part}
use Rattle.cli_file.specs.Left.{left, part_of}
use Rattle.cli_file.proofs.side.list_sections.Goals as goal

pub loop-section-preserved : goal.loop-section-preserved
loop-section-preserved c =
    c.loop-section.invariant
    ∙ ap (λ (l : List Part). c.loop-section.sections.items ++ l) c.in-Some.ensures.steps
    ∙ sym (append_assoc c.loop-section.sections.items (part_of c.in-Some.section ∷ []) (left c.next.new.self))
    ∙ ap (λ (p : Part). (c.loop-section.sections.items ++ p ∷ []) ++ left c.next.new.self) (sym c.new.ensures)
    ∙ ap (λ (l : List Part). l ++ left c.next.new.self) (sym c.in_ok-push.ensures.items)
