-- What holds of every typed unit.
use Rattle.std.specs.Prelude.{◌≡◌, ℕ, ◌≤◌, Bool, true, List, length}
use Rattle.std.specs.List.{list_all}
use Rattle.bc_syntax.specs.Fits.{clause_fits, let_fits, statement_fits, terminator_fits}
use Rattle.bc_flow.specs.Graph.{AreWithin}
use Rattle.bc_bodies.specs.declared.mir.Step.{Step}
use Rattle.bc_bodies.specs.declared.mir.Instruction.{Instruction}
use Rattle.bc_bodies.specs.declared.mir.Instruction.TheVariants.{Statement, Terminator}
use Rattle.bc_bodies.specs.Mir.{Mir, edges_of}
use Rattle.bc_mir.specs.Typing.{HasNoMisfit}

-- the instruction is within its limits, given the numbers of universal regions and of locals
abbrev pub instruction_fits : (universals locals : ℕ) → Instruction → Bool
instruction_fits universals locals (Statement statement) = statement_fits universals locals statement
instruction_fits universals locals (Terminator terminator) = terminator_fits universals locals terminator

-- each instruction of these points is within its limits
abbrev pub steps_fit : (universals locals : ℕ) → List Step → Bool
steps_fit universals locals steps = list_all (λ (step : Step). instruction_fits universals locals step.instruction) steps

-- the unit has no misfit, its numbers are within limits, its regions are declared, and edges join its points
pub record IsTyped (mir : Mir) : Type 0 where
  pub fits : HasNoMisfit mir
  pub some_universal : 1 ≤ mir.universals
  pub universals : mir.universals ≤ 16
  pub clauses : list_all (clause_fits mir.universals) mir.clauses ≡ true
  pub some_local : 1 ≤ length mir.locals
  pub locals : length mir.locals ≤ 256
  pub types : list_all (let_fits mir.universals) mir.locals ≡ true
  pub some_declared : 1 ≤ mir.first_let
  pub lets : mir.first_let ≤ length mir.locals
  pub some_point : 1 ≤ length mir.steps
  pub points : length mir.steps ≤ 4096
  pub instructions : steps_fit mir.universals (length mir.locals) mir.steps ≡ true
  pub edges : AreWithin (edges_of mir) (length mir.steps)
