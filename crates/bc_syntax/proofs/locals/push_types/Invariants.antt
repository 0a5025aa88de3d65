use Rattle.std.proofs.Common.{◌≡◌, ◌++◌, drop}
use Rattle.bc_syntax.proofs.locals.push_types.Given as goal

abbrev pub invariant-loop-ty : goal.invariant-loop-ty
invariant-loop-ty l = l.types.items ++ drop l.ty-index l.more ≡ l.initial.types.items ++ l.more
