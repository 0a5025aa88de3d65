-- The locals that points use and define, as entries of a table.
use Rattle.std.specs.Prelude.{ℕ, List, [], ◌∷◌, map, Option, Some, None}
use Rattle.std.specs.List.{flat_map, enumerate_from}
use Rattle.bc_flow.specs.declared.tables.Entry.{Entry}
use Rattle.bc_bodies.specs.declared.mir.Step.{Step}
use Rattle.bc_bodies.specs.Mir.{Mir}
use Rattle.bc_points.specs.Accesses.{uses_of, defines_of}

-- these locals, at a point
abbrev pub entries_at : ℕ → List ℕ → List Entry
entries_at point locals = map (λ local. record { node = point; fact = local }) locals

-- the local, if there is one
abbrev pub listed : Option ℕ → List ℕ
listed (Some local) = local ∷ []
listed None = []

-- what a point uses, as entries
abbrev pub uses_at : Mir → ℕ × Step → List Entry
uses_at mir here = entries_at here.0 (uses_of mir here.1.instruction)

-- what a point defines, as entries
abbrev pub definitions_at : ℕ × Step → List Entry
definitions_at here = entries_at here.0 (listed (defines_of here.1.instruction))

-- what each point uses, as entries of points and locals
abbrev pub use_entries : Mir → List Entry
use_entries mir = flat_map (uses_at mir) (enumerate_from 0 mir.steps)

-- what each point defines, as entries of points and locals
abbrev pub definition_entries : Mir → List Entry
definition_entries mir = flat_map definitions_at (enumerate_from 0 mir.steps)
