-- Consequences of the definitions, on which later contracts rest.
use Rattle.std.specs.Prelude.{◌≡◌, ℕ, ◌<◌, Some, List, length, slice_get, slice_index}
use Rattle.std.specs.Option.{option_map}
use Rattle.bc_syntax.specs.declared.syntax.Body.{Body}
use Rattle.bc_flow.specs.Graph.{AreWithin}
use Rattle.bc_bodies.specs.declared.children.Child.{Child}
use Rattle.bc_bodies.specs.declared.mir.Step.{Step}
use Rattle.bc_bodies.specs.Mir.{mir_of, edges_of}
use Rattle.bc_mir.specs.Typing.{HasNoMisfit}
use Rattle.bc_syntax.specs.declared.syntax.Declaration.{Declaration}

-- every edge of a unit without misfits joins two of its points
abbrev pub EdgesJoinPoints : Type 0
EdgesJoinPoints =
    (types : List Declaration) (children : List Child) (body : Body) → HasNoMisfit (mir_of types children body) →
    AreWithin (edges_of (mir_of types children body)) (length (mir_of types children body).steps)

-- a block is entered at its point of index 0
abbrev pub EntriesBegin : Type 0
EntriesBegin =
    (types : List Declaration) (children : List Child) (body : Body) (label : ℕ) → label < length body.blocks →
    option_map (λ (step : Step). step.point) (slice_get (mir_of types children body).steps (slice_index (mir_of types children body).entries label))
    ≡ Some (record { block = label; index = 0 })
