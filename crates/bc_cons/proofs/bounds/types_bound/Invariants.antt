use Rattle.std.proofs.Common.{◌≡◌, ◌+◌, ◌≤◌, max, drop}
use Rattle.bc_cons.specs.Bounds.{types_bound}
use Rattle.bc_cons.proofs.bounds.types_bound.Given as goal

abbrev pub invariant-loop-ty : goal.invariant-loop-ty
invariant-loop-ty l = record {
  bound : types_bound l.universals l.bound (drop l.ty-index l.locals) ≡ types_bound l.universals l.least l.locals;
  within : l.bound ≤ max l.least (l.universals + 65536);
}
