-- How the projections of a place are stored in memory.
use Rattle.std.specs.Prelude.{◌≡◌, ℕ, ◌-◌, ◌≤◌, List, ◌++◌, length, take, replicate}
use Rattle.std.proofs.Common.{ap, ◌∙◌}
use Rattle.bc_syntax.specs.declared.syntax.Projection.{Projection}
use Rattle.bc_syntax.specs.declared.syntax.Projection.TheVariants.{Deref}
use Rattle.bc_syntax.specs.declared.projections.Projections.TheInside.{Inside}

-- eight steps: those that are used, then dereferences, so that equal lists are stored alike
abbrev pub padded : List Projection → List Projection
padded steps = steps ++ replicate (8 - length steps) Deref

-- the cells with these contents
abbrev pub cells : List Projection → ℕ → Inside
cells steps count = record { steps = steps; count = count }

-- the projections that these cells store
abbrev pub used : Inside → List Projection
used a = take a.count a.steps

-- the cells that store these projections
abbrev pub stored : List Projection → Inside
stored steps = cells (padded steps) (length steps)

-- the cells store at most eight projections, and dereferences after them
pub record IsStored (a : Inside) : Type 0 where
  pub steps : padded (used a) ≡ a.steps
  pub count : length (used a) ≡ a.count
  pub most : a.count ≤ 8

-- stored projections give their cells back
pub gives_back : (a : Inside) → IsStored a → stored (used a) ≡ a
gives_back a h = ap (λ (s : List Projection). cells s (length (used a))) h.steps ∙ ap (λ (n : ℕ). cells a.steps n) h.count
