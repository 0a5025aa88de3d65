use Rattle.std.proofs.Common.{reverse, sym, ◌∙◌}
use Rattle.bc_types.proofs.Dropping.{marked_drop, and-holds, and-fails}
use Rattle.bc_types.proofs.table.Table.struct_holds_drop.Goals as goal

pub returns-then-declares : goal.returns-then-declares
returns-then-declares c =
    c.marks_drop.ensures
    ∙ and-holds _ _ _ (sym c.if-declares.true ∙ c.declares.ensures) (marked_drop (reverse c.args.self.now) c.args.instance.now)

pub returns-else-declares : goal.returns-else-declares
returns-else-declares c =
    c.declares.ensures
    ∙ and-fails _ _ _ (sym c.if-declares.false ∙ c.declares.ensures) (marked_drop (reverse c.args.self.now) c.args.instance.now)
