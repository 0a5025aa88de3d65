-- How far the router is.
use Rattle.std.specs.Prelude.{◌≡◌, ℕ, List, ◌++◌, Option, Some, None, ⊤}
use Rattle.cli_input.specs.Lines.{lines_of}
use Rattle.cli_serve.specs.Talked.{AreTold}

-- a beginning of the lines was routed, and these texts were given
pub record HasTold (sessions : ℕ) (lines left texts : List (List ℕ)) : Type 0 where
  pub front : List (List ℕ)
  pub cut : lines ≡ front ++ left
  pub told : AreTold sessions front texts

abbrev pub HasToldSoFar : ℕ → Option (List (List ℕ)) → Option (List ℕ) → List (List ℕ) → Type 0
HasToldSoFar sessions None left texts = ⊤
HasToldSoFar sessions (Some lines) None texts = ⊥
HasToldSoFar sessions (Some lines) (Some left) texts = HasTold sessions lines (lines_of left) texts
