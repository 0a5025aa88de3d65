use Rattle.std.proofs.Common.{◌≡◌, ◌++◌, drop}
use Rattle.std.specs.List.{flat_map}
use Rattle.bc_mir.specs.WellFormed.{type_pairs}
use Rattle.bc_mir.proofs.typed.Typed.push_pairs_of_types.Given as goal

abbrev pub invariant-loop-ty : goal.invariant-loop-ty
invariant-loop-ty l =
    l.constraints.items ++ flat_map (type_pairs l.self) (drop l.ty-index l.types)
    ≡ l.initial.constraints.items ++ flat_map (type_pairs l.self) l.types
