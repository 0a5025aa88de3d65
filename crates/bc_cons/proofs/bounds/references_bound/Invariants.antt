use Rattle.std.proofs.Common.{◌≡◌, ◌+◌, ◌≤◌, max, drop}
use Rattle.bc_types.specs.Mentions.{regions_of_references}
use Rattle.bc_cons.specs.Bounds.{regions_bound}
use Rattle.bc_cons.proofs.bounds.references_bound.Given as goal

abbrev pub invariant-loop-reference : goal.invariant-loop-reference
invariant-loop-reference l = record {
  bound : regions_bound l.universals l.bound (regions_of_references (drop l.reference-index l.references)) ≡ regions_bound l.universals l.least (regions_of_references l.references);
  within : l.bound ≤ max l.least (l.universals + 65536);
}
