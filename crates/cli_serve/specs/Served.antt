-- The history that a conversation leaves.
use Rattle.std.specs.Prelude.{◌≡◌, ◌⊎◌, ℕ, List, Option, length}
use Rattle.std.specs.Io.KnownBytes.{Appends, Keeps}
use Rattle.bc_calls.specs.declared.call.Entry.{Entry}
use Rattle.bc_share.specs.Sessions.{SessionView}
use Rattle.bc_share.specs.Closings.{IsOneHistory}
use Rattle.cli_serve.specs.declared.stop.ServeStop.{ServeStop}
use Rattle.cli_serve.specs.Stops.{stop_line}
use Rattle.cli_serve.specs.Talked.{AreWhole}

-- The sessions of a new database answered the lines of an input that name them, if these are known. This is the history of their calls: a
-- legal one, which has each session's calls in order, each once, and no others.
pub record IsServed (sessions : ℕ) (known : Option (List (List ℕ))) (history : List Entry) : Type 0 where
  pub ended : List SessionView
  pub sized : length ended ≡ sessions
  pub whole : AreWhole sessions known ended
  pub agrees : IsOneHistory ended history

-- the command ended with this status: at the end of its input, with nothing said, or after a stop, with the line that says why
abbrev pub IsEnd : ℕ → Option (List (List ℕ)) → ℕ → Option (List ℕ) → Option (List ℕ) → Type 0
IsEnd sessions known exit err err' =
    ((exit ≡ 0) × Keeps err err' × ((history : List Entry) × IsServed sessions known history)) ⊎ ((stop : ServeStop) × (exit ≡ 3) × Appends err err' (stop_line stop))
