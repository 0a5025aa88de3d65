-- The session that a line names.
use Rattle.std.specs.Prelude.{ℕ, ◌==◌, Bool, false, List, codes, Option, Some, None, Result, Ok, Err, option_and_then, nat_lt, if◌then◌else◌}
use Rattle.std.specs.List.{filter}
use Rattle.serde_json.specs.Data.{Data}
use Rattle.serde_json.specs.Find.{get, as_number, as_u64}
use Rattle.cli_requests.specs.declared.fault.RequestFault.{RequestFault}
use Rattle.cli_requests.specs.Lines.{value_of}

-- a number, if it is below `count`
abbrev pub below : ℕ → ℕ → Option ℕ
below count n = if nat_lt n count then Some n else None

-- the whole number in the member, or 0 if there is no such member
abbrev pub number_of : Option Data → Option ℕ
number_of None = Some 0
number_of (Some member) = option_and_then as_u64 (as_number member)

-- the session that a value names, if there are enough sessions
abbrev pub session_at : ℕ → Data → Option ℕ
session_at sessions value = option_and_then (below sessions) (number_of (get (codes "session") value))

-- the session that a value names, if it was read
abbrev pub session_read : ℕ → Result Data RequestFault → Option ℕ
session_read sessions (Ok value) = session_at sessions value
session_read sessions (Err fault) = None

-- the session that a line names, if there are enough sessions
abbrev pub session_in : ℕ → List ℕ → Option ℕ
session_in sessions line = session_read sessions (value_of line)

-- the session is this one
abbrev pub is_at : ℕ → Option ℕ → Bool
is_at k None = false
is_at k (Some n) = n == k

-- the line names this session
abbrev pub is_for : ℕ → ℕ → List ℕ → Bool
is_for sessions k line = is_at k (session_in sessions line)

-- the lines that name this session, in order
abbrev pub lines_for : ℕ → ℕ → List (List ℕ) → List (List ℕ)
lines_for sessions k lines = filter (is_for sessions k) lines
