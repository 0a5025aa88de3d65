use Rattle.std.proofs.Common.{◌≡◌, ◌++◌, map, drop}
use Rattle.bc_types.specs.Subtype.{outlives}
use Rattle.bc_cons.proofs.pairs.push_outlives.Given as goal

abbrev pub invariant-loop-reference : goal.invariant-loop-reference
invariant-loop-reference l =
    l.pairs.items ++ map (λ reference. outlives reference.region l.region) (drop l.reference-index l.references)
    ≡ l.initial.pairs.items ++ map (λ reference. outlives reference.region l.region) l.references
