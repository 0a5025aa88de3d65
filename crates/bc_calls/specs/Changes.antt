-- What an event changes in what is stored, and how many accepted writes a history has.
use Rattle.std.specs.Prelude.{ℕ, ◌+◌, Bool, true, false, List, count_by, if◌then◌else◌}
use Rattle.bc_calls.specs.declared.call.Event.{Event}
use Rattle.bc_calls.specs.declared.call.Event.TheVariants.{Types, Put, Remove, Ask, All as EveryRoot}
use Rattle.bc_calls.specs.declared.call.Entry.{Entry}
use Rattle.bc_memo.specs.declared.change.Change.{Change}
use Rattle.bc_memo.specs.declared.change.Change.TheVariants as changes
use Rattle.bc_calls.specs.Calls.{stores, takes}

-- the change that an event makes
abbrev pub change_of : Event → Change
change_of (Types types) = changes.Types types
change_of (Put name body reply) = if stores reply then changes.Put name body else changes.Nothing
change_of (Remove name reply) = if takes reply then changes.Remove name else changes.Nothing
change_of (Ask name outcome) = changes.Answer name outcome
change_of (EveryRoot rows) = changes.Answers rows

-- the event is an accepted write: declarations that were stored, or a body that was added, replaced or removed
abbrev pub writes : Event → Bool
writes (Types types) = true
writes (Put name body reply) = stores reply
writes (Remove name reply) = takes reply
writes (Ask name outcome) = false
writes (EveryRoot rows) = false

-- the number of accepted writes after one more event
abbrev pub writes_after : ℕ → Event → ℕ
writes_after count event = count + (if writes event then 1 else 0)

-- how many accepted writes a history has
abbrev pub writes_of : List Entry → ℕ
writes_of h = count_by (λ (e : Entry). writes e.event) h
