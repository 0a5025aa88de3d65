use Rattle.std.proofs.Common.{◌≡◌, ◌++◌, drop, map}
use Rattle.bc_prov.specs.State.{child}
use Rattle.bc_prov.proofs.closures.push_children.Given as goal

abbrev pub invariant-loop-number : goal.invariant-loop-number
invariant-loop-number l = l.names.items ++ map (child l.name) (drop l.number-index l.numbers) ≡ l.initial.names.items ++ map (child l.name) l.numbers
