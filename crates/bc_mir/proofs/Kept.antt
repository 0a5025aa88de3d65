use Rattle.std.proofs.Common.{◌≡◌, ℕ, zero, suc, ◌+◌, ◌<◌, ◌≤◌, true, false, ltb, None, List, [], ◌∷◌, ◌++◌, length, map, get_or, refl, ◌∙◌, length-append, arith}
use Rattle.std.proofs.lemmas.Bool.{and_from, and_parts, ltb-true}
use Rattle.std.proofs.lemmas.List.Elements.{All-nil, All-cons, All-append}
use Rattle.std.proofs.lemmas.List.Folds.{list_all-append}
use Rattle.std.proofs.lemmas.List.Sums.{sum_by-cons}
use Rattle.std.specs.List.{All, list_all, flat_map, enumerate_from}
use Rattle.bc_syntax.specs.declared.syntax.Body.{Body}
use Rattle.bc_syntax.specs.declared.syntax.Declaration.{Declaration}
use Rattle.bc_syntax.specs.declared.syntax.Block.{Block}
use Rattle.bc_syntax.specs.declared.syntax.Statement.{Statement as Simple}
use Rattle.bc_syntax.specs.declared.syntax.Terminator.{Terminator as Ending}
use Rattle.bc_syntax.specs.declared.syntax.Terminator.TheVariants.{Goto, If, Call, Invoke, Return, Stop}
use Rattle.bc_syntax.proofs.Signatures.{signature_parts}
use Rattle.bc_syntax.specs.declared.syntax.UnitKind.{UnitKind}
use Rattle.bc_syntax.specs.declared.syntax.UnitKind.TheVariants.{Function, Closure}
use Rattle.bc_syntax.specs.declared.syntax.Ty.{Ty}
use Rattle.bc_syntax.specs.Locals.{declared_locals, locals_of}
use Rattle.bc_syntax.specs.Fits.{Fits, universal_count, point_count, clause_fits, kind_fits, signature_fits, ty_fits, let_fits, statement_fits, terminator_fits, block_fits}
use Rattle.bc_flow.specs.declared.graph.Edge.{Edge}
use Rattle.bc_bodies.specs.declared.children.Child.{Child}
use Rattle.bc_bodies.specs.declared.mir.Step.{Step}
use Rattle.bc_flow.specs.Graph.{AreWithin}
use Rattle.bc_bodies.specs.declared.mir.Instruction.{Instruction}
use Rattle.bc_bodies.specs.declared.mir.Instruction.TheVariants.{Statement, Terminator}
use Rattle.bc_bodies.specs.Mir.{Mir, mir_of, block_steps, steps_from, entries_from, successors_of, edges_of_step, edges_of}
use Rattle.bc_mir.specs.Rules.{is_operand_int}
use Rattle.bc_mir.specs.Typing.{fits_at, first_unfit, HasNoMisfit}
use Rattle.bc_mir.specs.Typed.{instruction_fits, steps_fit, IsTyped}
use Rattle.bc_bodies.proofs.Mirs.{length-block_steps}
use Rattle.bc_mir.proofs.Fitting.{test_passed, no_unfit}
use Rattle.bc_mir.proofs.Wider.{let-wider, types-wider}

-- the points of blocks are their statements and terminators
pub length-steps_from : (n : ℕ) (blocks : List Block) → length (steps_from n blocks) ≡ point_count blocks
length-steps_from n [] = refl
length-steps_from n (block ∷ blocks) =
    let here = length-block_steps n 0 block.statements block.terminator in
    let rest = length-steps_from (n + 1) blocks in
    omega (arith, length-append (block_steps n 0 block.statements block.terminator) (steps_from (n + 1) blocks), sum_by-cons (λ (b : Block). length b.statements + 1) block blocks)

-- each first point is one of the blocks' points
pub entries-within : (first label : ℕ) (blocks : List Block) → label < length (entries_from first blocks) → get_or (entries_from first blocks) label 0 < first + point_count blocks
entries-within first label [] below = absurd (omega arith)
entries-within first zero (block ∷ blocks) below = omega (arith, sum_by-cons (λ (b : Block). length b.statements + 1) block blocks)
entries-within first (suc label) (block ∷ blocks) below =
    omega (arith, entries-within (first + length block.statements + 1) label blocks (omega arith), sum_by-cons (λ (b : Block). length b.statements + 1) block blocks)

-- a statement is followed by a point
abbrev pub HasNext : Instruction → List Step → Type 0
HasNext (Statement statement) steps = 1 ≤ length steps
HasNext (Terminator terminator) steps = Unit {0}

abbrev pub GoesOn : List Step → Type 0
GoesOn [] = Unit {0}
GoesOn (step ∷ steps) = HasNext step.instruction steps × GoesOn steps

block-goes-on : (block index : ℕ) (statements : List Simple) (terminator : Ending) (rest : List Step) → GoesOn rest → GoesOn (block_steps block index statements terminator ++ rest)
block-goes-on block index [] terminator rest more = (tt, more)
block-goes-on block index (statement ∷ statements) terminator rest more = (
  omega (arith, length-append (block_steps block (index + 1) statements terminator) rest, length-block_steps block (index + 1) statements terminator),
  block-goes-on block (index + 1) statements terminator rest more,
)

steps-go-on : (n : ℕ) (blocks : List Block) → GoesOn (steps_from n blocks)
steps-go-on n [] = tt
steps-go-on n (block ∷ blocks) = block-goes-on n 0 block.statements block.terminator (steps_from (n + 1) blocks) (steps-go-on (n + 1) blocks)

-- each first point is a point
abbrev AreEntered : Mir → Type 0
AreEntered mir = (label : ℕ) → label < length mir.entries → get_or mir.entries label 0 < length mir.steps

abbrev IsWithin : ℕ → Edge → Type 0
IsWithin n edge = (edge.from < n) × (edge.to < n)

abbrev edge_to : Mir → ℕ → ℕ → Edge
edge_to mir p label = record { from = p; to = get_or mir.entries label 0 }

terminator-within : (mir : Mir) (p : ℕ) (terminator : Ending) → AreEntered mir → p < length mir.steps → fits_at mir (Terminator terminator) ≡ true → All (IsWithin (length mir.steps)) (map (λ q. record { from = p; to = q }) (successors_of mir p (Terminator terminator)))
terminator-within mir p (Goto label) entered below fits =
    let joined : IsWithin (length mir.steps) (edge_to mir p label) = (below, entered label (ltb-true label (length mir.entries) fits)) in
    All-cons (IsWithin (length mir.steps)) (edge_to mir p label) [] joined (All-nil (IsWithin (length mir.steps)))
terminator-within mir p (If condition) entered below fits =
    let labels = (and_parts (is_operand_int mir condition.operand) _ fits).1 in
    let both = and_parts (ltb condition.then (length mir.entries)) (ltb condition.otherwise (length mir.entries)) labels in
    let first : IsWithin (length mir.steps) (edge_to mir p condition.then) = (below, entered condition.then (ltb-true condition.then (length mir.entries) both.0)) in
    let second : IsWithin (length mir.steps) (edge_to mir p condition.otherwise) = (below, entered condition.otherwise (ltb-true condition.otherwise (length mir.entries) both.1)) in
    All-cons (IsWithin (length mir.steps)) (edge_to mir p condition.then) (edge_to mir p condition.otherwise ∷ []) first (All-cons (IsWithin (length mir.steps)) (edge_to mir p condition.otherwise) [] second (All-nil (IsWithin (length mir.steps))))
terminator-within mir p (Call call) entered below fits =
    let label = (and_parts (ltb call.target (length mir.entries)) _ fits).0 in
    let joined : IsWithin (length mir.steps) (edge_to mir p call.target) = (below, entered call.target (ltb-true call.target (length mir.entries) label)) in
    All-cons (IsWithin (length mir.steps)) (edge_to mir p call.target) [] joined (All-nil (IsWithin (length mir.steps)))
terminator-within mir p (Invoke invocation) entered below fits =
    let label = (and_parts (ltb invocation.target (length mir.entries)) _ fits).0 in
    let joined : IsWithin (length mir.steps) (edge_to mir p invocation.target) = (below, entered invocation.target (ltb-true invocation.target (length mir.entries) label)) in
    All-cons (IsWithin (length mir.steps)) (edge_to mir p invocation.target) [] joined (All-nil (IsWithin (length mir.steps)))
terminator-within mir p Return entered below fits = All-nil (IsWithin (length mir.steps))
terminator-within mir p Stop entered below fits = All-nil (IsWithin (length mir.steps))

instruction-within : (mir : Mir) (p : ℕ) (here : Instruction) (steps : List Step) → AreEntered mir → p + 1 + length steps ≡ length mir.steps → HasNext here steps → fits_at mir here ≡ true → All (IsWithin (length mir.steps)) (map (λ q. record { from = p; to = q }) (successors_of mir p here))
instruction-within mir p (Statement statement) steps entered count next fits =
    let joined : IsWithin (length mir.steps) (record { from = p; to = p + 1 }) = (omega arith, omega arith) in
    All-cons (IsWithin (length mir.steps)) (record { from = p; to = p + 1 }) [] joined (All-nil (IsWithin (length mir.steps)))
instruction-within mir p (Terminator terminator) steps entered count next fits = terminator-within mir p terminator entered (omega arith) fits

edges-within : (mir : Mir) (p : ℕ) (steps : List Step) → AreEntered mir → p + length steps ≡ length mir.steps → GoesOn steps → first_unfit mir steps ≡ None → All (IsWithin (length mir.steps)) (flat_map (edges_of_step mir) (enumerate_from p steps))
edges-within mir p [] entered count on fits = All-nil (IsWithin (length mir.steps))
edges-within mir p (step ∷ steps) entered count on fits =
    let passed = test_passed (fits_at mir step.instruction) (first_unfit mir steps) step.point fits in
    All-append (IsWithin (length mir.steps)) _ _
    (instruction-within mir p step.instruction steps entered (omega arith) on.0 passed.0)
    (edges-within mir (p + 1) steps entered (omega arith) on.1 passed.1)

block-fit : (universals locals block index : ℕ) (statements : List Simple) (terminator : Ending) → list_all (statement_fits universals locals) statements ≡ true → terminator_fits universals locals terminator ≡ true → steps_fit universals locals (block_steps block index statements terminator) ≡ true
block-fit universals locals block index [] terminator fit last = and_from _ _ last refl
block-fit universals locals block index (statement ∷ statements) terminator fit last =
    let parts = and_parts (statement_fits universals locals statement) _ fit in
    and_from _ _ parts.0 (block-fit universals locals block (index + 1) statements terminator parts.1 last)

steps-fit : (universals locals n : ℕ) (blocks : List Block) → list_all (block_fits universals locals) blocks ≡ true → steps_fit universals locals (steps_from n blocks) ≡ true
steps-fit universals locals n [] fit = refl
steps-fit universals locals n (block ∷ blocks) fit =
    let parts = and_parts (block_fits universals locals block) _ fit in
    let here = and_parts (list_all (statement_fits universals locals) block.statements) (terminator_fits universals locals block.terminator) parts.0 in
    list_all-append (λ (step : Step). instruction_fits universals locals step.instruction) (block_steps n 0 block.statements block.terminator) (steps_from (n + 1) blocks)
    ∙ and_from _ _ (block-fit universals locals n 0 block.statements block.terminator here.0 here.1) (steps-fit universals locals (n + 1) blocks parts.1)

some-point : (blocks : List Block) → 1 ≤ length blocks → 1 ≤ length (steps_from 0 blocks)
some-point [] some = absurd (omega arith)
some-point (block ∷ blocks) some = omega (arith, length-append (block_steps 0 0 block.statements block.terminator) (steps_from 1 blocks), length-block_steps 0 0 block.statements block.terminator)

header-parts : (body : Body) → Fits body → (kind_fits (universal_count body.header.signature) body.header.kind body.header.captures ≡ true) × (signature_fits 15 body.header.signature ≡ true)
header-parts body sized = and_parts (kind_fits (universal_count body.header.signature) body.header.kind body.header.captures) (signature_fits 15 body.header.signature) sized.header

-- a unit has at most 16 universal regions
few-universals : (body : Body) → Fits body → universal_count body.header.signature ≤ 16
few-universals body sized = omega (arith, (signature_parts 15 body.header.signature (header-parts body sized).1).few)

captures-fit : (n : ℕ) (kind : UnitKind) (captures : List Ty) → kind_fits n kind captures ≡ true → list_all (let_fits n) captures ≡ true
captures-fit n Function [] fits = refl
captures-fit n Function (capture ∷ captures) fits = absurd cc
captures-fit n Closure captures fits = types-wider n captures (and_parts (list_all (ty_fits false n) captures) _ fits).0

-- the regions in the types of the locals are variables or declared
types-fit : (body : Body) → Fits body → list_all (let_fits (universal_count body.header.signature)) (locals_of body) ≡ true
types-fit body sized =
    let n = universal_count body.header.signature in
    let header = header-parts body sized in
    let signature = signature_parts 15 body.header.signature header.1 in
    let captures = captures-fit n body.header.kind body.header.captures header.0 in
    let parameters = (and_parts (list_all (ty_fits false n) body.header.signature.parameters) _ signature.parameters).0 in
    and_from _ _ (let-wider n body.header.signature.result signature.result)
    (list_all-append (let_fits n) (body.header.captures ++ body.header.signature.parameters) body.lets
    ∙ and_from _ _
    (list_all-append (let_fits n) body.header.captures body.header.signature.parameters ∙ and_from _ _ captures (types-wider n body.header.signature.parameters parameters))
    sized.lets)

-- a valid unit without misfits is typed
pub typed : (types : List Declaration) (children : List Child) (body : Body) → Fits body → HasNoMisfit (mir_of types children body) → IsTyped (mir_of types children body)
typed types children body sized fits =
    let mir = mir_of types children body in
    let signature = signature_parts 15 body.header.signature (header-parts body sized).1 in
    let count : length mir.steps ≡ point_count body.blocks = length-steps_from 0 body.blocks in
    record {
      fits = fits;
      some_universal = omega arith;
      universals = few-universals body sized;
      clauses = (and_parts (list_all (clause_fits (universal_count body.header.signature)) body.header.signature.clauses) _ signature.clauses).0;
      some_local = omega arith;
      locals = sized.locals;
      types = types-fit body sized;
      some_declared = omega arith;
      lets = omega (arith, length-append (declared_locals body.header) body.lets);
      some_point = some-point body.blocks sized.some_block;
      points = omega (arith, count, sized.points);
      instructions = steps-fit (universal_count body.header.signature) (length (locals_of body)) 0 body.blocks sized.blocks;
      edges = edges-within mir 0 mir.steps (λ label below. omega (arith, count, entries-within 0 label body.blocks below)) (omega arith) (steps-go-on 0 body.blocks) (no_unfit mir fits);
    }

-- every edge of a unit without misfits joins two of its points
pub edges-join : (types : List Declaration) (children : List Child) (body : Body) → HasNoMisfit (mir_of types children body) → AreWithin (edges_of (mir_of types children body)) (length (mir_of types children body).steps)
edges-join types children body fits =
    let mir = mir_of types children body in
    let count : length mir.steps ≡ point_count body.blocks = length-steps_from 0 body.blocks in
    edges-within mir 0 mir.steps (λ label below. omega (arith, count, entries-within 0 label body.blocks below)) (omega arith) (steps-go-on 0 body.blocks) (no_unfit mir fits)
