-- What a session enters in a book, and the call that this becomes.
use Rattle.std.specs.Prelude.{◌≡◌, List}
use Rattle.bc_names.specs.Names.{NameParts}
use Rattle.bc_prov.specs.declared.outcome.Outcome.{Outcome}
use Rattle.bc_calls.specs.declared.call.PutReply.{PutReply}
use Rattle.bc_calls.specs.declared.call.RemoveReply.{RemoveReply}
use Rattle.bc_calls.specs.declared.call.Event.{Event}
use Rattle.bc_calls.specs.declared.call.Event.TheVariants as events
use Rattle.bc_book.specs.declared.operation.Operation.{Operation}
use Rattle.bc_book.specs.declared.operation.Settle.{Settle}
use Rattle.bc_book.specs.declared.operation.SettleAll.{SettleAll}
use Rattle.bc_book.specs.declared.operation.Operation.TheVariants.{Types, Put, Remove, Settle as Settled, All as EveryRoot}

-- the event is the ask of a work's name, with this outcome
abbrev pub IsSettled : {P : Type 0} → Settle P → Event → Outcome → Type 0
IsSettled settle event outcome = event ≡ events.Ask settle.work.snapshot.root outcome

-- the event is the ask for all, with this listing
abbrev pub IsListed : {P : Type 0} → SettleAll P → Event → List (NameParts × Outcome) → Type 0
IsListed settle event listing = event ≡ events.All listing

-- the event is the call that an operation becomes, with some reply
abbrev pub IsCallOf : {P : Type 0} → Operation P → Event → Type 0
IsCallOf (Types types) event = event ≡ events.Types types
IsCallOf (Put name unit) event = (reply : PutReply) × (event ≡ events.Put name unit reply)
IsCallOf (Remove name) event = (reply : RemoveReply) × (event ≡ events.Remove name reply)
IsCallOf (Settled work providers) event = (outcome : Outcome) × (event ≡ events.Ask work.snapshot.root outcome)
IsCallOf (EveryRoot works providers) event = (listing : List (NameParts × Outcome)) × (event ≡ events.All listing)
