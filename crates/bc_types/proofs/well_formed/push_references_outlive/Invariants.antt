use Rattle.std.proofs.Common.{◌≡◌, ◌++◌, map, drop}
use Rattle.bc_types.specs.Subtype.{outlives}
use Rattle.bc_types.proofs.well_formed.push_references_outlive.Given as goal

abbrev pub invariant-loop-reference : goal.invariant-loop-reference
invariant-loop-reference l =
    l.constraints.items ++ map (λ reference. outlives reference.region l.shorter) (drop l.reference-index l.references)
    ≡ l.initial.constraints.items ++ map (λ reference. outlives reference.region l.shorter) l.references
