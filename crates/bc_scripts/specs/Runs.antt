-- What scripts leave of the sessions that made their calls.
use Rattle.std.specs.Prelude.{◌≡◌, ◌<◌, ℕ, List, ◌++◌, length, map, take, slice_index_or}
use Rattle.bc_calls.specs.declared.call.Call.{Call}
use Rattle.bc_calls.specs.declared.call.Event.{Event}
use Rattle.bc_calls.specs.Calls.{StartsWith, call_of}
use Rattle.bc_scripts.specs.declared.run.End.{End}
use Rattle.bc_scripts.specs.declared.run.End.TheVariants.{Done, Stopped}
use Rattle.bc_share.specs.Sessions.{SessionView}

-- The session made these calls, in their order: its own list is longer by them, each with a reply. It is the same session, and what it has
-- seen begins with what it had seen.
pub record HasMade (old new : SessionView) (calls : List Call) : Type 0 where
  pub tag : new.tag ≡ old.tag
  pub number : new.number ≡ old.number
  pub events : List Event
  pub own : new.own ≡ old.own ++ events
  pub made : map call_of events ≡ calls
  pub later : StartsWith new.seen old.seen

-- the session made all calls of its script, or those before the one that failed
abbrev pub IsRun : SessionView → SessionView → List Call → End → Type 0
IsRun old new script Done = HasMade old new script
IsRun old new script (Stopped number refusal) = (number < length script) × HasMade old new (take number script)

-- the sessions at the places where they run, before they do
abbrev pub seats : List SessionView → List (SessionView × End)
seats sessions = map (λ (s : SessionView). (s, Done)) sessions

-- each session made the calls of its own script
pub record AreRuns (sessions : List SessionView) (scripts : List (List Call)) (ran : List (SessionView × End)) : Type 0 where
  pub sized : length ran ≡ length sessions
  pub each : (k : ℕ) (s : SessionView) (c : List Call) (r : SessionView × End) → k < length sessions
      → IsRun (slice_index_or sessions k s) (slice_index_or ran k r).0 (slice_index_or scripts k c) (slice_index_or ran k r).1
