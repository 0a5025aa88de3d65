use Rattle.std.proofs.Common.{ℕ, List, ◌++◌, take, drop, replicate, subst, sym, arith}
use Rattle.bc_names.specs.Stored.{IsStored, cells}
use Rattle.bc_names.proofs.Cells.{beginning_stored}
use Rattle.bc_names.proofs.name.Name.beginning.Goals as goal

pub invariant_of-result : goal.invariant_of-result
invariant_of-result c =
    let n : ℕ = c.min-depth.result in
    let a = c.self.inside in
    subst (λ (front : List ℕ). IsStored (cells a.root a.root_len (front ++ drop n (replicate 7 0)) n)) (sym c.copy_from_slice.ensures.after)
    (beginning_stored a n c.self.invariant (omega (arith, c.min-depth.ensures)))
