use Rattle.std.proofs.Common.{[], reverse, sym, ap, ◌∙◌}
use Rattle.std.specs.Option.{unwrap_or}
use Rattle.bc_types.proofs.Demanding.{known-pairs, where-holds, where-fails}
use Rattle.bc_types.proofs.table.Table.struct_pairs.Goals as goal

pub returns-then-declares : goal.returns-then-declares
returns-then-declares c =
    ap (λ pairs. unwrap_or pairs []) c.known_pairs.ensures
    ∙ where-holds _ _ _ _ (sym c.if-declares.true ∙ c.declares.ensures) (known-pairs (reverse c.args.self.now) c.args.instance.now)

pub returns-else-declares : goal.returns-else-declares
returns-else-declares c =
    where-fails _ _ _ _ (sym c.if-declares.false ∙ c.declares.ensures) (known-pairs (reverse c.args.self.now) c.args.instance.now)
