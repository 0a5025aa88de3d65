use Rattle.std.proofs.Common.{◌≡◌, ◌++◌, drop}
use Rattle.bc_bodies.proofs.place_types.push_references.Given as goal

abbrev pub invariant-loop-reference : goal.invariant-loop-reference
invariant-loop-reference l = l.references ++ drop l.reference-index l.more ≡ l.initial.references ++ l.more
