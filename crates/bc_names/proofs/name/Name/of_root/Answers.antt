use Rattle.std.proofs.Common.{ℕ, List, ◌++◌, ◌∙◌, length, drop, replicate, subst, sym}
use Rattle.bc_names.specs.Stored.{IsStored, cells}
use Rattle.bc_names.proofs.Cells.{root_stored}
use Rattle.bc_names.proofs.name.Name.of_root.Goals as goal

pub invariant_of-result : goal.invariant_of-result
invariant_of-result c =
    let bytes : List ℕ = c.args.bytes.now in
    subst (λ (front : List ℕ). IsStored (cells (front ++ drop (length bytes) (replicate 32 0)) (length bytes) (replicate 7 0) 0)) (sym c.copy_from_slice.ensures.after)
    (root_stored bytes (sym c.is_root.ensures ∙ c.if-not-is_root.false))
