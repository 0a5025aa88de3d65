use Rattle.std.proofs.Common.{sym, ap, ◌∙◌}
use Rattle.bc_syntax.specs.Children.{children_of}
use Rattle.bc_outcomes.proofs.making.typed_over.Goals as goal

pub type_unit-requires : goal.type_unit-requires
type_unit-requires c = record { kids = c.requires.children ∙ ap children_of (sym c.get-2.ensures) }
