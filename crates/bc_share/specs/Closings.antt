-- When a history agrees with the sessions that made it.
use Rattle.std.specs.Prelude.{◌≡◌, ◌<◌, ◌≤◌, ℕ, List, length, map, All}
use Rattle.std.specs.List.{Contains}
use Rattle.bc_calls.specs.declared.call.Entry.{Entry}
use Rattle.bc_calls.specs.Calls.{IsLegal, calls}
use Rattle.bc_share.specs.Sessions.{SessionView}
use Rattle.bc_share.specs.declared.db.CloseFault.{CloseFault}
use Rattle.bc_book.specs.Ledgers.{most_sessions}
use Rattle.bc_share.specs.declared.db.CloseFault.TheVariants.{Foreign, Audit}

-- the tag of a database, and how many sessions it has
pub record DbView : Type 0 where
  pub tag : ℕ
  pub count : ℕ

-- the numbers of sessions
abbrev pub numbers : List SessionView → List ℕ
numbers sessions = map (λ (s : SessionView). s.number) sessions

-- these are the sessions of a database, each once: all have its tag, they are as many as it has, and each number below that count is one of
-- theirs
pub record AreSessionsOf (tag count : ℕ) (sessions : List SessionView) : Type 0 where
  pub tags : All (λ (s : SessionView). s.tag ≡ tag) sessions
  pub sized : length sessions ≡ count
  pub each : (number : ℕ) → number < count → Contains (numbers sessions) number

-- each session's own list is the calls and replies that the history has under its number, and each entry belongs to one of the sessions
pub record Agrees (sessions : List SessionView) (h : List Entry) : Type 0 where
  pub own : All (λ (s : SessionView). s.own ≡ calls s.number h) sessions
  pub others : All (λ (e : Entry). Contains (numbers sessions) e.session) h

-- The history is legal: each reply is the one that a plain map gives at that point. It agrees with the sessions: it has each session's
-- calls, each once, in the session's order, and no others.
abbrev pub IsOneHistory : List SessionView → List Entry → Type 0
IsOneHistory sessions h = IsLegal h × Agrees sessions h

-- why closing failed: these are not the sessions, each once; or they are, and the history does not agree with them
abbrev pub IsCloseFault : ℕ → ℕ → List SessionView → CloseFault → Type 0
IsCloseFault tag count sessions Foreign = ¬ AreSessionsOf tag count sessions
IsCloseFault tag count sessions (Audit h) = AreSessionsOf tag count sessions × IsLegal h × (¬ Agrees sessions h)

-- the most entries that a history may have
abbrev pub most_entries : ℕ
most_entries = 1000000

-- a database may have this many entries and this many sessions
abbrev pub IsInRange : ℕ → ℕ → Type 0
IsInRange capacity sessions = (1 ≤ capacity) × (capacity ≤ most_entries) × (1 ≤ sessions) × (sessions ≤ most_sessions)
