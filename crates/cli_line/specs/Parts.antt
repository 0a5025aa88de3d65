-- The parts of a command line.
use Rattle.std.specs.Prelude.{ℕ, Bool, List, Option}
use Rattle.cli_line.specs.declared.solver.Solver.{Solver}

-- the parts of a line of `check`
pub record CheckParts : Type 0 where
  pub file : List ℕ
  pub json : Bool
  pub source : Bool
  pub positions : Bool
  pub jobs : Option ℕ
  pub solver : Solver

-- the parts of a line of `run`
pub record RunParts : Type 0 where
  pub file : List ℕ
  pub json : Bool
  pub positions : Bool
  pub sessions : ℕ
  pub solver : Solver

-- the parts of a line of `print`
pub record PrintParts : Type 0 where
  pub file : List ℕ
  pub positions : Bool

-- the parts of a line of `serve`
pub record ServeParts : Type 0 where
  pub sessions : ℕ
  pub capacity : ℕ
  pub solver : Solver
