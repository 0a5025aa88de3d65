use Rattle.std.proofs.Common.{◌≡◌, drop, take, reverse}
use Rattle.bc_types.specs.Declarations.{first_bad_behind, first_bad}
use Rattle.bc_breaches.proofs.declaration.bad_declaration.Given as goal

abbrev pub invariant-loop-number : goal.invariant-loop-number
invariant-loop-number l = first_bad_behind (reverse (take l.number l.declarations)) l.number (drop l.number l.declarations) ≡ first_bad l.declarations
