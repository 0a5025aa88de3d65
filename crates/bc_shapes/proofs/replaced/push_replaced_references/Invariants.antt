use Rattle.std.proofs.Common.{◌≡◌, ◌++◌, drop, map}
use Rattle.bc_shapes.specs.Replaced.{replaced_reference}
use Rattle.bc_shapes.proofs.replaced.push_replaced_references.Given as goal

abbrev pub invariant-loop-reference : goal.invariant-loop-reference
invariant-loop-reference l =
    l.references ++ map (replaced_reference l.arguments) (drop l.reference-index l.more)
    ≡ l.initial.references ++ map (replaced_reference l.arguments) l.more
