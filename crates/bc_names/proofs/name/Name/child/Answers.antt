use Rattle.std.proofs.Common.{◌+◌, set, subst, sym}
use Rattle.bc_names.specs.Stored.{IsStored, cells}
use Rattle.bc_names.proofs.Cells.{child_stored}
use Rattle.bc_names.proofs.name.Name.child.Goals as goal

pub invariant_of-child : goal.invariant_of-child
invariant_of-child c =
    subst (λ at. IsStored (cells c.child.inside.root c.child.inside.root_len (set c.child.inside.segments at c.args.number) (c.child.inside.depth + 1))) (sym c.from.ensures)
    (child_stored c.child.inside c.args.number c.child.invariant c.if-number-gt63.false c.if-child-ge7.false)
