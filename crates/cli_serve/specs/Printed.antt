-- What a conversation printed.
use Rattle.std.specs.Prelude.{◌≡◌, ℕ, ◌+◌, ◌<◌, List, length, slice_index_or, Option, Result, IfOk, All}
use Rattle.std.specs.Io.KnownBytes.{Appends}
use Rattle.bc_calls.specs.declared.call.Entry.{Entry}
use Rattle.bc_share.specs.Sessions.{SessionView}
use Rattle.bc_share.specs.Closings.{IsOneHistory}
use Rattle.cli_output.specs.Logs.{AreBelow, bytes_of, texts_of}
use Rattle.cli_output.specs.Pens.{IsLogged, PenView}
use Rattle.cli_serve.specs.declared.stop.ServeStop.{ServeStop}
use Rattle.cli_serve.specs.Talked.{AreAllTold, AreNumbered, AreWholeBy, IsWholeBy}

-- The sessions of a new database answered the lines of an input that name them, and the router the others, with these pens, and this is the
-- history of the sessions' calls.
pub record HasServed (sessions : ℕ) (known : Option (List (List ℕ))) (history : List Entry) (pens : List PenView) (router : PenView) : Type 0 where
  pub ended : List SessionView
  pub sized : length ended ≡ sessions
  pub agrees : IsOneHistory ended history
  pub counted : length pens ≡ sessions
  pub numbered : AreNumbered pens
  pub last : router.number ≡ sessions
  pub whole : AreWholeBy sessions known ended pens
  pub told : AreAllTold sessions known router.texts

-- Exactly the texts of a log were written, one after another, and the log has exactly what was printed with these pens.
pub record IsAllOf (sessions : ℕ) (pens : List PenView) (router : PenView) (before after : Option (List ℕ)) : Type 0 where
  pub log : List (ℕ × List ℕ)
  pub each : All (IsLogged log) pens
  pub last : IsLogged log router
  pub only : AreBelow (sessions + 1) log
  pub written : Appends before after (bytes_of log)

-- Each session answered its lines by exactly the texts that the log has of it, in order. They are those of the calls that this history has
-- of the session. The log has the texts of the router too, and nothing else, and exactly its texts were written, one after another.
pub record IsPrinted (sessions : ℕ) (known : Option (List (List ℕ))) (history : List Entry) (before after : Option (List ℕ)) : Type 0 where
  pub ended : List SessionView
  pub sized : length ended ≡ sessions
  pub agrees : IsOneHistory ended history
  pub log : List (ℕ × List ℕ)
  pub answers : (k : ℕ) (d : SessionView) → k < sessions → IsWholeBy sessions k known (slice_index_or ended k d) (texts_of k log)
  pub told : AreAllTold sessions known (texts_of sessions log)
  pub only : AreBelow (sessions + 1) log
  pub written : Appends before after (bytes_of log)

-- a conversation that ended well printed its answers, and nothing else
abbrev pub HasPrinted : ℕ → Option (List (List ℕ)) → Result (List Entry) ServeStop → Option (List ℕ) → Option (List ℕ) → Type 0
HasPrinted sessions known ended before after = IfOk ended (λ history. IsPrinted sessions known history before after)
