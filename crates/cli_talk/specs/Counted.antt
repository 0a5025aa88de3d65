-- The number of lines of each session.
use Rattle.std.specs.Prelude.{◌≡◌, ℕ, ◌<◌, List, ◌++◌, length, slice_index, Option, Some, None, ⊤}
use Rattle.cli_input.specs.Lines.{lines_of}
use Rattle.cli_requests.specs.Sessions.{lines_for}
use Rattle.cli_talk.specs.declared.router.RoutedLine.{RoutedLine}
use Rattle.cli_talk.specs.declared.router.RoutedLine.TheVariants.{End, Told, Sent}

-- these are the numbers of lines of each session
abbrev pub Counts : ℕ → List ℕ → List (List ℕ) → Type 0
Counts sessions counts lines = (k : ℕ) → k < sessions → slice_index counts k ≡ length (lines_for sessions k lines)

-- these are the numbers of lines of each session, if the lines are known
abbrev pub CountsAll : ℕ → List ℕ → Option (List (List ℕ)) → Type 0
CountsAll sessions counts None = ⊤
CountsAll sessions counts (Some lines) = Counts sessions counts lines

-- a beginning of the lines was counted
pub record HasCounted (sessions : ℕ) (counts : List ℕ) (lines left : List (List ℕ)) : Type 0 where
  pub front : List (List ℕ)
  pub cut : lines ≡ front ++ left
  pub counted : Counts sessions counts front

-- the lines before those that are left were counted, if the lines are known
abbrev pub CountsSoFar : ℕ → List ℕ → Option (List (List ℕ)) → Option (List ℕ) → Type 0
CountsSoFar sessions counts None left = ⊤
CountsSoFar sessions counts (Some lines) None = ⊥
CountsSoFar sessions counts (Some lines) (Some left) = HasCounted sessions counts lines (lines_of left)

-- the counts after the next line was routed: of all lines if there was none, otherwise of those before what is left
abbrev pub CountsWith : {M : Type 0} → ℕ → List ℕ → Option (List (List ℕ)) → Option (List ℕ) → RoutedLine M → Type 0
CountsWith sessions counts known left End = CountsAll sessions counts known
CountsWith sessions counts known left Told = CountsSoFar sessions counts known left
CountsWith sessions counts known left (Sent message) = CountsSoFar sessions counts known left
