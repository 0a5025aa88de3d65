-- How the command ends, and what it leaves if it stops.
use Rattle.std.specs.Prelude.{◌≡◌, ◌⊎◌, ◌<◌, ◌≤◌, ℕ, Bool, true, max, Option, List, length}
use Rattle.std.specs.List.{flat_map}
use Rattle.std.specs.Io.KnownBytes.{Appends, Keeps}
use Rattle.bc_calls.specs.declared.call.Entry.{Entry}
use Rattle.bc_share.specs.declared.db.TheConstants.{MOST_ENTRIES}
use Rattle.bc_scripts.specs.declared.run.End.{End}
use Rattle.cli_line.specs.Parts.{RunParts}
use Rattle.cli_line.specs.declared.line.Line.{Line}
use Rattle.cli_line.specs.declared.line.Line.TheVariants.{Check, Run, Serve, Print}
use Rattle.cli_file.specs.declared.stop.Stop.{Stop}
use Rattle.cli_file.specs.declared.stop.Stop.TheVariants.{WrongUse, CannotRead, CannotWrite, CannotTell, NoMemory, File, TooManyCalls, HistoryFull, Foreign, Audit}
use Rattle.cli_file.specs.Parts.{sections_of}
use Rattle.cli_file.specs.Statuses.{greatest}
use Rattle.cli_file.specs.Ends.{OfFile, IsSilent, StopsWith}
use Rattle.cli_run.specs.declared.file.SessionCall.{SessionCall}
use Rattle.cli_run.specs.Calls.{GiveAll, IsToldFault}
use Rattle.cli_run.specs.Runs.{AreMade, events_of, greatest_end}
use Rattle.cli_run.specs.Print.{entry_lines, stopped_lines, PrintsPart}

-- The sessions made the calls that the sections give, at most as many as a history may have, and each until it ended. Standard output has
-- their history, standard error has a line for each session that stopped early, and the status is the greatest of all.
pub record Ran (json : Bool) (sessions : ℕ) (file : List ℕ) (exit : ℕ) (out out' err err' : Option (List ℕ)) : Type 0 where
  pub given : List SessionCall
  pub history : List Entry
  pub ends : List End
  pub good : GiveAll sessions (sections_of file) given
  pub few : length given ≤ MOST_ENTRIES
  pub made : AreMade sessions given history ends
  pub output : Appends out out' (flat_map (entry_lines json) history)
  pub errors : Appends err err' (stopped_lines 0 ends)
  pub status : exit ≡ max (greatest (events_of history)) (greatest_end ends)

-- the file has no fault, and gives at most as many calls as a history may have
pub record IsWell (sessions : ℕ) (file : List ℕ) : Type 0 where
  pub given : List SessionCall
  pub good : GiveAll sessions (sections_of file) given
  pub few : length given ≤ MOST_ENTRIES

-- the file has no fault, standard output has the history of its calls, and some session stopped early
pub record HasShown (json : Bool) (sessions : ℕ) (file : List ℕ) (out out' : Option (List ℕ)) : Type 0 where
  pub given : List SessionCall
  pub history : List Entry
  pub ends : List End
  pub good : GiveAll sessions (sections_of file) given
  pub few : length given ≤ MOST_ENTRIES
  pub made : AreMade sessions given history ends
  pub output : Appends out out' (flat_map (entry_lines json) history)
  pub stopped : greatest_end ends ≡ 3

-- the file has no fault, and standard output has a beginning of the history of its calls as JSON, without the next entry
pub record HasBegun (sessions : ℕ) (file : List ℕ) (out out' : Option (List ℕ)) : Type 0 where
  pub given : List SessionCall
  pub history : List Entry
  pub ends : List End
  pub good : GiveAll sessions (sections_of file) given
  pub few : length given ≤ MOST_ENTRIES
  pub made : AreMade sessions given history ends
  pub output : PrintsPart history out out'

-- the file has no fault, and gives more calls than a history may have
pub record HasTooManyCalls (sessions : ℕ) (file : List ℕ) : Type 0 where
  pub given : List SessionCall
  pub good : GiveAll sessions (sections_of file) given
  pub many : MOST_ENTRIES < length given

-- What the command finds if it stops, and what it leaves apart from the line that says why. What a failed writer took is not known.
abbrev pub Leaves : RunParts → Stop → Option (List ℕ) → Option (List ℕ) → Option (List ℕ) → Option (List ℕ) → Option (List ℕ) → Type 0
Leaves line WrongUse known out out' err err' = ⊥
Leaves line CannotRead known out out' err err' = IsSilent out out' err err'
Leaves line CannotWrite known out out' err err' = OfFile known (IsWell line.sessions) × Keeps err err'
Leaves line CannotTell known out out' err err' = OfFile known (λ file. HasShown line.json line.sessions file out out')
Leaves line NoMemory known out out' err err' =
    IsSilent out out' err err' ⊎ ((line.json ≡ true) × OfFile known (λ file. HasBegun line.sessions file out out') × Keeps err err')
Leaves line (File fault) known out out' err err' = OfFile known (λ file. IsToldFault line.sessions line.positions file fault) × IsSilent out out' err err'
Leaves line TooManyCalls known out out' err err' = OfFile known (HasTooManyCalls line.sessions) × IsSilent out out' err err'
Leaves line HistoryFull known out out' err err' = ⊥
Leaves line Foreign known out out' err err' = ⊥
Leaves line Audit known out out' err err' = OfFile known (IsWell line.sessions) × IsSilent out out' err err'

-- the command of a line with these parts ended with this status: at its end, or after a stop
abbrev pub IsEnd : RunParts → Option (List ℕ) → ℕ → Option (List ℕ) → Option (List ℕ) → Option (List ℕ) → Option (List ℕ) → Type 0
IsEnd line known exit out out' err err' =
    OfFile known (λ file. Ran line.json line.sessions file exit out out' err err') ⊎ StopsWith (λ stop before. Leaves line stop known out out' err before) line.file exit err'

-- the command ended with this status on the file that a line of `run` names
abbrev pub IsEndOf : Line → Option (List ℕ) → ℕ → Option (List ℕ) → Option (List ℕ) → Option (List ℕ) → Option (List ℕ) → Type 0
IsEndOf (Check line) known exit out out' err err' = ⊥
IsEndOf (Run line) known exit out out' err err' = IsEnd line known exit out out' err err'
IsEndOf (Serve line) known exit out out' err err' = ⊥
IsEndOf (Print line) known exit out out' err err' = ⊥
