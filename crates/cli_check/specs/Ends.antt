-- How the command ends, and what it leaves if it stops.
use Rattle.std.specs.Prelude.{◌⊎◌, ℕ, ◌+◌, ◌<◌, ◌≤◌, Option, List, length}
use Rattle.std.specs.Io.KnownBytes.{Keeps}
use Rattle.bc_names.specs.Names.{NameParts}
use Rattle.bc_calls.specs.declared.call.Call.{Call}
use Rattle.bc_calls.specs.declared.call.Event.{Event}
use Rattle.bc_share.specs.declared.db.TheConstants.{MOST_ENTRIES}
use Rattle.cli_line.specs.Parts.{CheckParts}
use Rattle.cli_line.specs.declared.line.Line.{Line}
use Rattle.cli_line.specs.declared.line.Line.TheVariants.{Check, Run, Serve, Print}
use Rattle.cli_file.specs.declared.stop.Stop.{Stop}
use Rattle.cli_file.specs.declared.stop.Stop.TheVariants.{WrongUse, CannotRead, CannotWrite, CannotTell, NoMemory, File, TooManyCalls, HistoryFull, Foreign, Audit}
use Rattle.cli_file.specs.Parts.{sections_of}
use Rattle.cli_file.specs.Changes.{MakeAll, IsToldFault}
use Rattle.cli_file.specs.Ends.{OfFile, IsSilent, StopsWith}
use Rattle.cli_check.specs.Asked.{AreAsked}
use Rattle.cli_check.specs.Forms.{form_of}
use Rattle.cli_check.specs.Run.{error_lines, AreLegal, AreReplied}
use Rattle.cli_check.specs.Performed.{Runs, Begins, OwesLast, Prints}

-- each section made its call, each root under which one put a body was asked for, and what belongs to these calls was printed
pub record Checked (line : CheckParts) (file : List ℕ) (exit : ℕ) (out out' err err' : Option (List ℕ)) : Type 0 where
  pub made : List Call
  pub names : List NameParts
  pub good : MakeAll (sections_of file) made
  pub asked : AreAsked made names
  pub runs : Runs (form_of line (sections_of file) made) made names exit out out' err err'

-- the file has no fault, and makes more calls than a history may have
pub record HasTooManyCalls (file : List ℕ) : Type 0 where
  pub made : List Call
  pub names : List NameParts
  pub good : MakeAll (sections_of file) made
  pub asked : AreAsked made names
  pub many : MOST_ENTRIES < length made + length names

-- the file has no fault, what belongs to a beginning of its calls was printed, and `Holds` holds of these and their replies
pub record HasBegun (Holds : List Event → Type 0) (line : CheckParts) (file : List ℕ) (out out' err err' : Option (List ℕ)) : Type 0 where
  pub made : List Call
  pub names : List NameParts
  pub good : MakeAll (sections_of file) made
  pub asked : AreAsked made names
  pub few : length made + length names ≤ MOST_ENTRIES
  pub begins : Begins Holds (form_of line (sections_of file) made) made names out out' err err'

-- the file has no fault, and what belongs to the calls of its sections was printed on standard error
pub record HasTold (file : List ℕ) (err err' : Option (List ℕ)) : Type 0 where
  pub made : List Call
  pub names : List NameParts
  pub good : MakeAll (sections_of file) made
  pub asked : AreAsked made names
  pub few : length made + length names ≤ MOST_ENTRIES
  pub prints : Prints made error_lines err err'

-- the file has no fault, `Holds` holds of a beginning of its calls and their replies, and standard error is owed a line about the last of
-- these
pub record HasUntold (Holds : List Event → Type 0) (file : List ℕ) : Type 0 where
  pub made : List Call
  pub names : List NameParts
  pub good : MakeAll (sections_of file) made
  pub asked : AreAsked made names
  pub few : length made + length names ≤ MOST_ENTRIES
  pub untold : OwesLast Holds made

-- What the command finds if it stops, and what it leaves apart from the line that says why. What a failed writer took is not known.
abbrev pub Leaves : CheckParts → Stop → Option (List ℕ) → Option (List ℕ) → Option (List ℕ) → Option (List ℕ) → Option (List ℕ) → Type 0
Leaves line WrongUse known out out' err err' = ⊥
Leaves line CannotRead known out out' err err' = IsSilent out out' err err'
Leaves line CannotWrite known out out' err err' = OfFile known (λ file. HasTold file err err')
Leaves line CannotTell known out out' err err' = OfFile known (HasUntold AreLegal) × Keeps out out'
Leaves line NoMemory known out out' err err' = IsSilent out out' err err' ⊎ OfFile known (λ file. HasBegun AreLegal line file out out' err err')
Leaves line (File fault) known out out' err err' = OfFile known (λ file. IsToldFault line.positions file fault) × IsSilent out out' err err'
Leaves line TooManyCalls known out out' err err' = OfFile known HasTooManyCalls × IsSilent out out' err err'
Leaves line HistoryFull known out out' err err' = OfFile known (λ file. HasBegun AreLegal line file out out' err err')
Leaves line Foreign known out out' err err' = ⊥
Leaves line Audit known out out' err err' = OfFile known (λ file. HasBegun AreReplied line file out out' err err') ⊎ (OfFile known (HasUntold AreReplied) × Keeps out out')

-- the command ended with this status on the file that its line names: at its end, or after a stop
abbrev pub IsEnd : CheckParts → Option (List ℕ) → ℕ → Option (List ℕ) → Option (List ℕ) → Option (List ℕ) → Option (List ℕ) → Type 0
IsEnd line known exit out out' err err' = OfFile known (λ file. Checked line file exit out out' err err') ⊎ StopsWith (λ stop before. Leaves line stop known out out' err before) line.file exit err'

-- the command ended with this status on the file that a line of `check` names
abbrev pub IsEndOf : Line → Option (List ℕ) → ℕ → Option (List ℕ) → Option (List ℕ) → Option (List ℕ) → Option (List ℕ) → Type 0
IsEndOf (Check line) known exit out out' err err' = IsEnd line known exit out out' err err'
IsEndOf (Run line) known exit out out' err err' = ⊥
IsEndOf (Serve line) known exit out out' err err' = ⊥
IsEndOf (Print line) known exit out out' err err' = ⊥
