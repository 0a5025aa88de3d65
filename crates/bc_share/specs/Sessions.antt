-- What contracts see of a session, and how a call changes it.
use Rattle.std.specs.Prelude.{◌≡◌, ℕ, ◌<◌, zero, suc, Some, List, [], ◌∷◌, ◌++◌, length}
use Rattle.bc_calls.specs.declared.call.Call.{Call}
use Rattle.bc_calls.specs.declared.call.Entry.{Entry}
use Rattle.bc_calls.specs.declared.call.Event.{Event}
use Rattle.bc_calls.specs.Calls.{IsLegal, StartsWith, call_of, calls, last_of}
use Rattle.bc_book.specs.Ledgers.{most_sessions}

-- the tag of its database, its number, its own calls with their replies, and the entries that it has seen
pub record SessionView : Type 0 where
  pub tag : ℕ
  pub number : ℕ
  pub own : List Event
  pub seen : List Entry

-- a session, and for how many more calls its own list has room
pub record NotesView : Type 0 where
  pub session : SessionView
  pub room : ℕ

-- a session before any call, which has seen nothing
abbrev pub new_session : ℕ → ℕ → SessionView
new_session tag number = record { tag = tag; number = number; own = []; seen = [] }

-- this many sessions before any call, numbered from 0
abbrev pub new_sessions : ℕ → ℕ → List SessionView
new_sessions tag zero = []
new_sessions tag (suc count) = new_sessions tag count ++ new_session tag count ∷ []

-- what a session has seen is legal, and in some beginning of it the session's calls are its own list
pub record IsNoted (number : ℕ) (own : List Event) (seen : List Entry) : Type 0 where
  pub range : number < most_sessions
  pub legal : IsLegal seen
  pub noted : List Entry
  pub begins : StartsWith seen noted
  pub listed : calls number noted ≡ own

-- it is the same session, with the same list of its own, and what it has seen begins with what it had seen
pub record IsSame (old new : SessionView) : Type 0 where
  pub tag : new.tag ≡ old.tag
  pub number : new.number ≡ old.number
  pub own : new.own ≡ old.own
  pub later : StartsWith new.seen old.seen

-- the session's own list is as it was, and what it has seen begins with what it had seen and is legal
pub record Stays (old new : SessionView) : Type 0 where
  pub tag : new.tag ≡ old.tag
  pub number : new.number ≡ old.number
  pub own : new.own ≡ old.own
  pub later : StartsWith new.seen old.seen
  pub legal : IsLegal new.seen

-- The call was answered: the session's own list is longer by this call with its reply. What the session has seen begins with what it had
-- seen, is legal, and ends with this call and reply as an entry of this session. The number of that entry is the length that the own list
-- had. So the session's calls in what it has seen are its own list.
pub record IsAnswered (event : Event) (old new : SessionView) : Type 0 where
  pub tag : new.tag ≡ old.tag
  pub number : new.number ≡ old.number
  pub own : new.own ≡ old.own ++ event ∷ []
  pub later : StartsWith new.seen old.seen
  pub legal : IsLegal new.seen
  pub last : last_of new.seen ≡ Some (record { session = old.number; number = length old.own; event = event })
  pub mine : calls new.number new.seen ≡ new.own

-- the session made this call, with some reply
abbrev pub Makes : SessionView → SessionView → Call → Type 0
Makes old new call = (event : Event) × (call_of event ≡ call) × IsAnswered event old new
