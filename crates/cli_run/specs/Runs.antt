-- The history that the sessions of a file leave, and its status.
use Rattle.std.specs.Prelude.{◌≡◌, ◌<◌, ℕ, max, List, [], ◌∷◌, length, map, take, slice_index_or}
use Rattle.std.specs.List.{All}
use Rattle.bc_calls.specs.declared.call.Call.{Call}
use Rattle.bc_calls.specs.declared.call.Event.{Event}
use Rattle.bc_calls.specs.declared.call.Entry.{Entry}
use Rattle.bc_calls.specs.Calls.{IsLegal, calls, call_of}
use Rattle.bc_scripts.specs.declared.run.End.{End}
use Rattle.bc_scripts.specs.declared.run.End.TheVariants.{Done, Stopped}
use Rattle.bc_share.specs.Sessions.{SessionView}
use Rattle.cli_run.specs.declared.file.SessionCall.{SessionCall}
use Rattle.cli_run.specs.Calls.{calls_for}

-- the sessions that ran
abbrev pub sessions_of : List (SessionView × End) → List SessionView
sessions_of ran = map (λ (r : SessionView × End). r.0) ran

-- how each session ended
abbrev pub ends_of : List (SessionView × End) → List End
ends_of ran = map (λ (r : SessionView × End). r.1) ran

-- a session made all its calls, or those before the one that was refused, each with a reply
abbrev pub HasRun : List Event → List Call → End → Type 0
HasRun events list Done = map call_of events ≡ list
HasRun events list (Stopped number refusal) = (number < length list) × (map call_of events ≡ take number list)

-- The history is legal. It has the calls of each session as the file has them, in order, until the session ended, and no others.
pub record AreMade (sessions : ℕ) (given : List SessionCall) (history : List Entry) (ends : List End) : Type 0 where
  pub legal : IsLegal history
  pub sized : length ends ≡ sessions
  pub each : (session : ℕ) (d : End) → session < sessions → HasRun (calls session history) (calls_for session given) (slice_index_or ends session d)
  pub others : All (λ (entry : Entry). entry.session < sessions) history

-- the calls of a history with their replies
abbrev pub events_of : List Entry → List Event
events_of history = map (λ (entry : Entry). entry.event) history

-- the status of a session: 3 if it stopped early, otherwise 0
abbrev pub end_status : End → ℕ
end_status Done = 0
end_status (Stopped number refusal) = 3

-- the greatest status of some sessions
abbrev pub greatest_end : List End → ℕ
greatest_end [] = 0
greatest_end (end ∷ ends) = max (end_status end) (greatest_end ends)
