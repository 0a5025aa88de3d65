use Rattle.std.proofs.Common.{◌≡◌, ℕ, ◌+◌, ◌<◌, ◌≤◌, List, [], ◌∷◌, ◌++◌, length, get_or, drop, ap, sym, ◌∙◌, append_assoc, arith}
use Rattle.std.proofs.lemmas.List.{at_drop_more, at_drop_all}
use Rattle.bc_syntax.specs.declared.syntax.Block.{Block}
use Rattle.bc_syntax.specs.declared.syntax.Statement.{Statement as Simple}
use Rattle.bc_syntax.specs.declared.syntax.Terminator.{Terminator as Ending}
use Rattle.bc_bodies.specs.declared.mir.Step.{Step}
use Rattle.bc_bodies.specs.declared.mir.Instruction.TheVariants.{Statement, Terminator}
use Rattle.bc_bodies.specs.Mir.{step_of, block_steps, steps_from, entries_from}

-- a block has a point for each statement and one for its terminator
pub length-block_steps : (block index : ℕ) (statements : List Simple) (terminator : Ending) → length (block_steps block index statements terminator) ≡ length statements + 1
length-block_steps block index [] terminator = omega arith
length-block_steps block index (statement ∷ statements) terminator = omega (arith, length-block_steps block (index + 1) statements terminator)

-- the next statement adds its point
pub statement-more : (front all : List Step) (block index : ℕ) (statements : List Simple) (terminator : Ending) (statement : Simple) → index < length statements → statement ≡ get_or statements index statement → front ++ block_steps block index (drop index statements) terminator ≡ all → (front ++ step_of block index (Statement statement) ∷ []) ++ block_steps block (index + 1) (drop (index + 1) statements) terminator ≡ all
statement-more front all block index statements terminator statement below is before =
    let one : List Simple → List Step = λ xs. block_steps block index xs terminator in
    let rest : List Step = block_steps block (index + 1) (drop (index + 1) statements) terminator in
    let next : one (drop index statements) ≡ step_of block index (Statement statement) ∷ rest = at_drop_more one statements index statement below ∙ ap (λ s. step_of block index (Statement s) ∷ rest) (sym is) in
    append_assoc front (step_of block index (Statement statement) ∷ []) rest ∙ ap (λ xs. front ++ xs) (sym next) ∙ before

-- after all statements, the terminator adds its point
pub terminator-last : (front all : List Step) (block index : ℕ) (statements : List Simple) (terminator : Ending) → length statements ≤ index → front ++ block_steps block index (drop index statements) terminator ≡ all → front ++ step_of block index (Terminator terminator) ∷ [] ≡ all
terminator-last front all block index statements terminator past before =
    ap (λ xs. front ++ xs) (sym (at_drop_all (λ xs. block_steps block index xs terminator) statements index past)) ∙ before

-- the next block adds its points
pub steps-more : (front all : List Step) (n : ℕ) (blocks : List Block) (block : Block) → n < length blocks → block ≡ get_or blocks n block → front ++ steps_from n (drop n blocks) ≡ all → (front ++ block_steps n 0 block.statements block.terminator) ++ steps_from (n + 1) (drop (n + 1) blocks) ≡ all
steps-more front all n blocks block below is before =
    let rest : List Step = steps_from (n + 1) (drop (n + 1) blocks) in
    let next : steps_from n (drop n blocks) ≡ block_steps n 0 block.statements block.terminator ++ rest = at_drop_more (steps_from n) blocks n block below ∙ ap (λ b. block_steps n 0 b.statements b.terminator ++ rest) (sym is) in
    append_assoc front (block_steps n 0 block.statements block.terminator) rest ∙ ap (λ xs. front ++ xs) (sym next) ∙ before

-- the next block adds its first point
pub entries-more : (front all : List ℕ) (entry first n : ℕ) (blocks : List Block) (block : Block) → n < length blocks → block ≡ get_or blocks n block → entry ≡ first → front ++ entries_from first (drop n blocks) ≡ all → (front ++ entry ∷ []) ++ entries_from (first + length block.statements + 1) (drop (n + 1) blocks) ≡ all
entries-more front all entry first n blocks block below is entered before =
    let rest : Block → List ℕ = λ b. entries_from (first + length b.statements + 1) (drop (n + 1) blocks) in
    let next : entries_from first (drop n blocks) ≡ first ∷ rest block = at_drop_more (entries_from first) blocks n block below ∙ ap (λ b. first ∷ rest b) (sym is) in
    ap (λ e. (front ++ e ∷ []) ++ rest block) entered ∙ append_assoc front (first ∷ []) (rest block) ∙ ap (λ xs. front ++ xs) (sym next) ∙ before
