-- A unit with its points in one list, and the edges between them.
use Rattle.std.specs.Prelude.{ℕ, ◌+◌, List, [], ◌∷◌, ◌++◌, length, map, slice_index}
use Rattle.std.specs.List.{flat_map, enumerate_from}
use Rattle.bc_syntax.specs.declared.syntax.Body.{Body}
use Rattle.bc_syntax.specs.declared.syntax.Block.{Block}
use Rattle.bc_syntax.specs.declared.syntax.Ty.{Ty}
use Rattle.bc_syntax.specs.declared.syntax.UnitKind.{UnitKind}
use Rattle.bc_syntax.specs.declared.syntax.Outlives.{Outlives}
use Rattle.bc_syntax.specs.declared.syntax.Declaration.{Declaration}
use Rattle.bc_syntax.specs.declared.syntax.Statement.{Statement as Simple}
use Rattle.bc_syntax.specs.declared.syntax.Terminator.{Terminator as Ending}
use Rattle.bc_syntax.specs.declared.syntax.Terminator.TheVariants.{Goto, If, Call, Invoke, Return, Stop}
use Rattle.bc_syntax.specs.Fits.{universal_count}
use Rattle.bc_syntax.specs.Locals.{first_let, locals_of}
use Rattle.bc_flow.specs.declared.graph.Edge.{Edge}
use Rattle.bc_bodies.specs.declared.children.Child.{Child}
use Rattle.bc_bodies.specs.declared.mir.Step.{Step}
use Rattle.bc_bodies.specs.declared.mir.Instruction.{Instruction}
use Rattle.bc_bodies.specs.declared.mir.Instruction.TheVariants.{Statement, Terminator}
use Rattle.bc_bodies.specs.Externals.{external_regions}

-- A unit: the declarations, the headers of the children, the kind, the number of universal regions, the external ones of these, the clauses
-- between them, the types of the locals, the number of the first `let` local, the points with their instructions, and the first point of
-- each block. A point is known by its number in the list of all points.
pub record Mir : Type 0 where
  pub types : List Declaration
  pub children : List Child
  pub kind : UnitKind
  pub universals : ℕ
  pub externals : List ℕ
  pub clauses : List Outlives
  pub locals : List Ty
  pub first_let : ℕ
  pub steps : List Step
  pub entries : List ℕ

-- the point of a block at an index, with its instruction
abbrev pub step_of : ℕ → ℕ → Instruction → Step
step_of block index instruction = record { point = record { block = block; index = index }; instruction = instruction }

-- the points of a block from an index on: each statement, then the terminator
abbrev pub block_steps : ℕ → ℕ → List Simple → Ending → List Step
block_steps block index [] terminator = step_of block index (Terminator terminator) ∷ []
block_steps block index (statement ∷ statements) terminator =
    step_of block index (Statement statement) ∷ block_steps block (index + 1) statements terminator

-- the points of blocks, the first of which has this number
abbrev pub steps_from : ℕ → List Block → List Step
steps_from number [] = []
steps_from number (block ∷ blocks) =
    block_steps number 0 block.statements block.terminator ++ steps_from (number + 1) blocks

-- the first point of each block, if the first block begins at this point
abbrev pub entries_from : ℕ → List Block → List ℕ
entries_from first [] = []
entries_from first (block ∷ blocks) = first ∷ entries_from (first + length block.statements + 1) blocks

-- a unit over its declarations and the headers of its children, with its points in one list (RFC 2094, "Control-flow graph")
abbrev pub mir_of : List Declaration → List Child → Body → Mir
mir_of types children body = record {
  types = types;
  children = children;
  kind = body.header.kind;
  universals = universal_count body.header.signature;
  externals = external_regions body.header;
  clauses = body.header.signature.clauses;
  locals = locals_of body;
  first_let = first_let body.header;
  steps = steps_from 0 body.blocks;
  entries = entries_from 0 body.blocks;
}

-- the labels of a terminator, in order
abbrev pub labels_of : Ending → List ℕ
labels_of (Goto label) = label ∷ []
labels_of (If condition) = condition.then ∷ condition.otherwise ∷ []
labels_of (Call call) = call.target ∷ []
labels_of (Invoke invocation) = invocation.target ∷ []
labels_of Return = []
labels_of Stop = []

-- the points to which edges lead from point p, which has this instruction
abbrev pub successors_of : Mir → ℕ → Instruction → List ℕ
successors_of mir p (Statement statement) = (p + 1) ∷ []
successors_of mir p (Terminator terminator) = map (slice_index mir.entries) (labels_of terminator)

-- the edges from a numbered point
abbrev pub edges_of_step : Mir → ℕ × Step → List Edge
edges_of_step mir here = map (λ q. record { from = here.0; to = q }) (successors_of mir here.0 here.1.instruction)

-- the edges of a unit: from a point to the next of its block, and from a terminator to the first point of each of its labels (RFC 2094,
-- "Control-flow graph")
abbrev pub edges_of : Mir → List Edge
edges_of mir = flat_map (edges_of_step mir) (enumerate_from 0 mir.steps)
