-- How the command ends, and what it leaves if it stops.
use Rattle.std.specs.Prelude.{◌≡◌, ◌⊎◌, ℕ, Option, List}
use Rattle.std.specs.Io.KnownBytes.{Appends, Keeps}
use Rattle.bc_calls.specs.declared.call.Call.{Call}
use Rattle.cli_line.specs.Parts.{PrintParts}
use Rattle.cli_file.specs.declared.stop.Stop.{Stop}
use Rattle.cli_file.specs.declared.stop.Stop.TheVariants.{WrongUse, CannotRead, CannotWrite, CannotTell, NoMemory, File, TooManyCalls, HistoryFull, Foreign, Audit}
use Rattle.cli_file.specs.Parts.{sections_of}
use Rattle.cli_file.specs.Changes.{MakeAll, IsToldFault}
use Rattle.cli_file.specs.Ends.{OfFile, StopsWith}
use Rattle.cli_print.specs.Printed.{file_text}

-- the file has no fault
abbrev pub IsGood : List ℕ → Type 0
IsGood file = (made : List Call) × MakeAll (sections_of file) made

-- each section makes a call, and was printed with what the call stores
pub record Printed (file : List ℕ) (out out' : Option (List ℕ)) : Type 0 where
  pub made : List Call
  pub good : MakeAll (sections_of file) made
  pub output : Appends out out' (file_text (sections_of file) made)

-- What the command finds if it stops, and what it leaves. What a failed writer took is not known.
abbrev pub Leaves : PrintParts → Stop → Option (List ℕ) → Option (List ℕ) → Option (List ℕ) → Type 0
Leaves line WrongUse known out out' = ⊥
Leaves line CannotRead known out out' = Keeps out out'
Leaves line CannotWrite known out out' = OfFile known IsGood
Leaves line CannotTell known out out' = ⊥
Leaves line NoMemory known out out' = Keeps out out'
Leaves line (File fault) known out out' = OfFile known (λ file. IsToldFault line.positions file fault) × Keeps out out'
Leaves line TooManyCalls known out out' = ⊥
Leaves line HistoryFull known out out' = ⊥
Leaves line Foreign known out out' = ⊥
Leaves line Audit known out out' = ⊥

-- the command ended with this status on the file that its line names: at its end, with nothing on standard error, or after a stop
abbrev pub IsEnd : PrintParts → Option (List ℕ) → ℕ → Option (List ℕ) → Option (List ℕ) → Option (List ℕ) → Option (List ℕ) → Type 0
IsEnd line known exit out out' err err' =
    ((exit ≡ 0) × OfFile known (λ file. Printed file out out') × Keeps err err')
    ⊎ StopsWith (λ stop before. Leaves line stop known out out' × Keeps err before) line.file exit err'
