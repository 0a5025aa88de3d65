-- Calls that a session answered, and what was printed about them.
use Rattle.std.specs.Prelude.{◌≡◌, ◌≢◌, ◌⊎◌, ℕ, ◌+◌, ◌≤◌, Option, List, [], ◌∷◌, ◌++◌, map, flat_map, length}
use Rattle.std.specs.Io.KnownBytes.{Appends}
use Rattle.bc_names.specs.Names.{NameParts}
use Rattle.bc_calls.specs.declared.call.Call.{Call}
use Rattle.bc_calls.specs.declared.call.Event.{Event}
use Rattle.bc_calls.specs.declared.call.Entry.{Entry}
use Rattle.bc_calls.specs.Calls.{IsLegal, StartsWith, call_of, calls}
use Rattle.bc_share.specs.Sessions.{SessionView, IsAnswered, IsSame}
use Rattle.bc_share.specs.declared.db.TheConstants.{MOST_ENTRIES}
use Rattle.cli_file.specs.Statuses.{event_status, greatest}
use Rattle.cli_check.specs.declared.form.Form.{Form}
use Rattle.cli_check.specs.Run.{calls_of, shown, error_lines, AreLegal, AreReplied}

-- one call was answered and printed, and this is its status
pub record Performs (call : Call) (text : Event → List ℕ) (exit : ℕ) (old new : SessionView) (before after : Option (List ℕ)) : Type 0 where
  pub event : Event
  pub made : call_of event ≡ call
  pub answered : IsAnswered event old new
  pub printed : Appends before after (text event)
  pub status : exit ≡ event_status event

-- one call was answered, and standard error is owed a line about it
abbrev pub Owes : Call → SessionView → SessionView → Type 0
Owes call old new = (event : Event) × (call_of event ≡ call) × (error_lines event ≢ []) × IsAnswered event old new

-- what a session has seen begins with a legal list, and its calls there are its own list
pub record HasSeenItsOwn (session : SessionView) : Type 0 where
  pub noted : List Entry
  pub begins : StartsWith session.seen noted
  pub legal : IsLegal noted
  pub own : calls session.number noted ≡ session.own

-- the same session has these calls after those of its own list; if it had seen its own calls, it has seen these too
pub record Adds (events : List Event) (old new : SessionView) : Type 0 where
  pub tag : new.tag ≡ old.tag
  pub number : new.number ≡ old.number
  pub own : new.own ≡ old.own ++ events
  pub seen : HasSeenItsOwn old → HasSeenItsOwn new

-- no call was answered, or one
abbrev pub IsAtMostOneMore : SessionView → SessionView → Type 0
IsAtMostOneMore old new = IsSame old new ⊎ ((event : Event) × IsAnswered event old new)

-- some calls were answered and printed in this order, and this is the greatest of their statuses
pub record Performed (list : List Call) (text : Event → List ℕ) (exit : ℕ) (old new : SessionView) (before after : Option (List ℕ)) : Type 0 where
  pub events : List Event
  pub made : map call_of events ≡ list
  pub adds : Adds events old new
  pub printed : Appends before after (flat_map text events)
  pub status : exit ≡ greatest events

-- a beginning of some calls was answered and printed, and at most one more call was answered
pub record PerformedPart (list : List Call) (text : Event → List ℕ) (old new : SessionView) (before after : Option (List ℕ)) : Type 0 where
  pub front : List Call
  pub ahead : List Call
  pub cut : front ++ ahead ≡ list
  pub exit : ℕ
  pub between : SessionView
  pub performed : Performed front text exit old between before after
  pub last : IsAtMostOneMore between new

-- some calls were answered as a legal history has them, and what belongs to each was printed
pub record Prints (list : List Call) (text : Event → List ℕ) (before after : Option (List ℕ)) : Type 0 where
  pub events : List Event
  pub made : map call_of events ≡ list
  pub replied : AreReplied events
  pub printed : Appends before after (flat_map text events)

-- `Holds` holds of a beginning of some calls and their replies, and standard error is owed a line about the last of these
pub record OwesLast (Holds : List Event → Type 0) (list : List Call) : Type 0 where
  pub events : List Event
  pub last : Event
  pub ahead : List Call
  pub made : map call_of (events ++ last ∷ []) ++ ahead ≡ list
  pub holds : Holds (events ++ last ∷ [])
  pub owed : error_lines last ≢ []

-- some calls were answered and printed, whatever the session did then
pub record PerformedThen (list : List Call) (text : Event → List ℕ) (old : SessionView) (before after : Option (List ℕ)) : Type 0 where
  pub exit : ℕ
  pub between : SessionView
  pub performed : Performed list text exit old between before after

-- the calls of the sections were answered and the names were asked for, what belongs to each call was printed, and the status is the
-- greatest of theirs
pub record PerformedAll (form : Form) (first : List Call) (names : List NameParts) (exit : ℕ) (old new : SessionView) (out out' err err' : Option (List ℕ)) : Type 0 where
  pub events : List Event
  pub made : map call_of events ≡ calls_of first names
  pub adds : Adds events old new
  pub output : Appends out out' (flat_map (shown form) events)
  pub errors : Appends err err' (flat_map error_lines events)
  pub status : exit ≡ greatest events

-- a beginning of these calls was answered and printed, and at most one more call was answered
pub record PerformedFirst (form : Form) (first : List Call) (names : List NameParts) (old new : SessionView) (out out' err err' : Option (List ℕ)) : Type 0 where
  pub events : List Event
  pub ahead : List Call
  pub made : map call_of events ++ ahead ≡ calls_of first names
  pub between : SessionView
  pub adds : Adds events old between
  pub last : IsAtMostOneMore between new
  pub output : Appends out out' (flat_map (shown form) events)
  pub errors : Appends err err' (flat_map error_lines events)

-- The calls of the sections were made and the names were asked for, at most as many as a history may have, as the legal history of one
-- session. What belongs to each call was printed, and the status is the greatest of theirs.
pub record Runs (form : Form) (first : List Call) (names : List NameParts) (exit : ℕ) (out out' err err' : Option (List ℕ)) : Type 0 where
  pub events : List Event
  pub made : map call_of events ≡ calls_of first names
  pub few : length first + length names ≤ MOST_ENTRIES
  pub legal : AreLegal events
  pub output : Appends out out' (flat_map (shown form) events)
  pub errors : Appends err err' (flat_map error_lines events)
  pub status : exit ≡ greatest events

-- what belongs to a beginning of the calls was printed, and `Holds` holds of these and their replies
pub record Begins (Holds : List Event → Type 0) (form : Form) (first : List Call) (names : List NameParts) (out out' err err' : Option (List ℕ)) : Type 0 where
  pub events : List Event
  pub ahead : List Call
  pub made : map call_of events ++ ahead ≡ calls_of first names
  pub holds : Holds events
  pub output : Appends out out' (flat_map (shown form) events)
  pub errors : Appends err err' (flat_map error_lines events)
