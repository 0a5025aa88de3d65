use Rattle.std.proofs.Common.{◌≡◌, ◌++◌, drop}
use Rattle.std.specs.List.{flat_map, enumerate_from}
use Rattle.bc_bodies.specs.Mir.{edges_of_step, edges_of}
use Rattle.bc_mir.proofs.typed.Typed.edges.Given as goal

abbrev pub invariant-loop-point : goal.invariant-loop-point
invariant-loop-point l =
    l.edges.items ++ flat_map (edges_of_step l.self) (enumerate_from l.point (drop l.point l.self.steps)) ≡ edges_of l.self
