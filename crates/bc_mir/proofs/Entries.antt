use Rattle.std.proofs.Common.{◌≡◌, ℕ, zero, suc, ◌+◌, ◌<◌, Option, Some, List, [], ◌∷◌, ◌++◌, length, get_or, slice_get, length-append, append_assoc, refl, ap, sym, ◌∙◌, arith}
use Rattle.std.specs.Option.{option_map}
use Rattle.bc_syntax.specs.declared.syntax.Block.{Block}
use Rattle.bc_syntax.specs.declared.syntax.Statement.{Statement as Simple}
use Rattle.bc_syntax.specs.declared.syntax.Terminator.{Terminator as Ending}
use Rattle.bc_bodies.specs.declared.mir.Point.{Point}
use Rattle.bc_bodies.specs.declared.mir.Step.{Step}
use Rattle.bc_bodies.specs.Mir.{block_steps, steps_from, entries_from}
use Rattle.bc_bodies.proofs.Mirs.{length-block_steps}

abbrev point_at : List Step → ℕ → Option Point
point_at steps p = option_map (λ (step : Step). step.point) (slice_get steps p)

first-point : (front : List Step) (block : ℕ) (statements : List Simple) (terminator : Ending) (rest : List Step) → point_at (front ++ (block_steps block 0 statements terminator ++ rest)) (length front) ≡ Some (record { block = block; index = 0 })
first-point [] block [] terminator rest = refl
first-point [] block (statement ∷ statements) terminator rest = refl
first-point (step ∷ front) block statements terminator rest = first-point front block statements terminator rest

-- a block is entered at its point of index 0
pub entered-at : (front : List Step) (n label : ℕ) (blocks : List Block) → label < length blocks → point_at (front ++ steps_from n blocks) (get_or (entries_from (length front) blocks) label 0) ≡ Some (record { block = n + label; index = 0 })
entered-at front n label [] below = absurd (omega arith)
entered-at front n zero (block ∷ blocks) below =
    let number : n ≡ n + zero = omega arith in
    first-point front n block.statements block.terminator (steps_from (n + 1) blocks) ∙ ap (λ b. Some (record { block = b; index = 0 })) number
entered-at front n (suc label) (block ∷ blocks) below =
    let here : List Step = block_steps n 0 block.statements block.terminator in
    let count : length (front ++ here) ≡ length front + length block.statements + 1 = omega (arith, length-append front here, length-block_steps n 0 block.statements block.terminator) in
    let label-is : n + 1 + label ≡ n + suc label = omega arith in
    let rest = entered-at (front ++ here) (n + 1) label blocks (omega arith) in
    ap (λ steps. point_at steps (get_or (entries_from (length front + length block.statements + 1) blocks) label 0)) (sym (append_assoc front here (steps_from (n + 1) blocks)))
    ∙ ap (λ first. point_at ((front ++ here) ++ steps_from (n + 1) blocks) (get_or (entries_from first blocks) label 0)) (sym count)
    ∙ rest
    ∙ ap (λ block. Some (record { block = block; index = 0 })) label-is

pub entered : (label : ℕ) (blocks : List Block) → label < length blocks → point_at (steps_from 0 blocks) (get_or (entries_from 0 blocks) label 0) ≡ Some (record { block = label; index = 0 })
entered label blocks below =
    let number : 0 + label ≡ label = omega arith in
    entered-at [] 0 label blocks below ∙ ap (λ b. Some (record { block = b; index = 0 })) number
