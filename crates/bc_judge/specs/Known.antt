-- How known relations flow: a region has what each region has that a clause, or the type of a capture or a parameter, makes it outlive.
use Rattle.std.specs.Prelude.{ℕ, List, [], ◌∷◌, ◌++◌, map}
use Rattle.std.specs.List.{flat_map}
use Rattle.bc_syntax.specs.declared.syntax.Outlives.{Outlives}
use Rattle.bc_syntax.specs.declared.syntax.Region.{Region}
use Rattle.bc_syntax.specs.declared.syntax.Region.TheVariants.{Universal, Variable}
use Rattle.bc_flow.specs.declared.graph.Edge.{Edge}
use Rattle.bc_flow.specs.declared.tables.Entry.{Entry}
use Rattle.bc_types.specs.declared.subtype.Constraint.{Constraint}
use Rattle.bc_bodies.specs.Mir.{Mir}
use Rattle.bc_mir.specs.WellFormed.{implied_pairs}

-- the edge of a clause, from the shorter region to the longer
abbrev pub edge_of : Outlives → Edge
edge_of clause = record { from = clause.shorter; to = clause.longer }

-- the edge from a shorter universal region to a longer one; a variable has none
abbrev pub edges_between : Region → Region → List Edge
edges_between (Universal longer) (Universal shorter) = record { from = shorter; to = longer } ∷ []
edges_between (Universal longer) (Variable shorter) = []
edges_between (Variable longer) shorter = []

-- the edges of a pair
abbrev pub pair_edges : Constraint → List Edge
pair_edges pair = edges_between pair.longer pair.shorter

-- the edges of the clauses, and those of what the types of the captures and the parameters demand
abbrev pub known_edges : Mir → List Edge
known_edges mir = map edge_of mir.clauses ++ flat_map pair_edges (implied_pairs mir)

-- the entry that the longer region outlives the shorter
abbrev pub entry : ℕ → ℕ → Entry
entry longer shorter = record { node = longer; fact = shorter }

-- the region outlives itself, and 'static outlives it
abbrev pub entries_of : ℕ → List Entry
entries_of region = entry region region ∷ entry 0 region ∷ []
