use Rattle.std.proofs.Common.{◌≡◌, ◌+◌, ◌≤◌, drop, length}
use Rattle.std.specs.List.{filter}
use Rattle.bc_syntax.specs.Fits.{is_struct}
use Rattle.bc_fits.proofs.declarations.struct_count.Given as goal

abbrev pub invariant-loop-declaration : goal.invariant-loop-declaration
invariant-loop-declaration l = (l.count + length (filter is_struct (drop l.declaration-index l.declarations)) ≡ length (filter is_struct l.declarations)) × (l.count ≤ l.declaration-index)
