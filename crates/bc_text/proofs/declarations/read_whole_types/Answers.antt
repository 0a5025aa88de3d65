use Rattle.bc_text.proofs.DeclarationLaws.{types_fit}
use Rattle.bc_text.proofs.declarations.read_whole_types.Goals as goal

pub of_fitting-requires : goal.of_fitting-requires
of_fitting-requires c = types_fit _ _ c.types.result c.in_ok-types.field-0 c.types.ensures (c.in_ok-types.was {u = tt})
