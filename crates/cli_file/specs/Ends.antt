-- How a command ends.
use Rattle.std.specs.Prelude.{◌≡◌, ℕ, ◌≤◌, Option, List, IfSome, length}
use Rattle.std.specs.Io.KnownBytes.{Appends, Keeps}
use Rattle.cli_file.specs.declared.stop.Stop.{Stop}
use Rattle.cli_file.specs.Files.{most_bytes}
use Rattle.cli_file.specs.Stops.{last_line, stop_status}

-- the file was read whole, and the predicate holds of it, if its bytes are known
abbrev pub OfFile : Option (List ℕ) → (List ℕ → Type 0) → Type 0
OfFile known P = IfSome known (λ file. (length file ≤ most_bytes) × P file)

-- nothing is printed
abbrev pub IsSilent : Option (List ℕ) → Option (List ℕ) → Option (List ℕ) → Option (List ℕ) → Type 0
IsSilent out out' err err' = Keeps out out' × Keeps err err'

-- the command stopped with this status: its last line follows what else standard error has, of which `Left` holds
pub record StopsWith (Left : Stop → Option (List ℕ) → Type 0) (name : List ℕ) (exit : ℕ) (err : Option (List ℕ)) : Type 0 where
  pub stop : Stop
  pub before : Option (List ℕ)
  pub left : Left stop before
  pub said : Appends before err (last_line name stop)
  pub status : exit ≡ stop_status stop
