use Rattle.std.proofs.Common.{◌≡◌, ◌++◌, drop}
use Rattle.std.specs.List.{flat_map}
use Rattle.bc_types.specs.WellFormed.{well_formed_pairs}
use Rattle.bc_types.proofs.table.Table.pairs_of_types.Given as goal

abbrev pub invariant-loop-ty : goal.invariant-loop-ty
invariant-loop-ty l =
    l.pairs.items ++ flat_map (well_formed_pairs l.self) (drop l.ty-index l.types) ≡ flat_map (well_formed_pairs l.self) l.types
