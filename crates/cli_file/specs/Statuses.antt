-- The statuses of calls.
use Rattle.std.specs.Prelude.{ℕ, Bool, max, List, [], ◌∷◌, length, if◌then◌else◌, ◌==◌}
use Rattle.std.specs.List.{list_all}
use Rattle.bc_names.specs.Names.{NameParts}
use Rattle.bc_prov.specs.declared.outcome.BodyErrors.{BodyErrors}
use Rattle.bc_prov.specs.declared.outcome.Outcome.{Outcome}
use Rattle.bc_prov.specs.declared.outcome.Outcome.TheVariants.{NoBody, Missing, BadTypes, Ill, Report}
use Rattle.bc_calls.specs.declared.call.PutReply.{PutReply}
use Rattle.bc_calls.specs.declared.call.PutReply.TheVariants.{Added, Replaced, Full, WrongKind}
use Rattle.bc_calls.specs.declared.call.Event.{Event}
use Rattle.bc_calls.specs.declared.call.Event.TheVariants.{Types, Put, Remove, Ask, All as EveryRoot}

-- the status of a put: 2 if it stored nothing
abbrev pub put_status : PutReply → ℕ
put_status Added = 0
put_status Replaced = 0
put_status Full = 2
put_status WrongKind = 2

-- no body has an error
abbrev pub are_clean : List BodyErrors → Bool
are_clean bodies = list_all (λ (body : BodyErrors). length body.errors == 0) bodies

-- the status of an outcome: 2 if it is no report, 1 if it has an error
abbrev pub outcome_status : Outcome → ℕ
outcome_status NoBody = 2
outcome_status (Missing name) = 2
outcome_status (BadTypes index) = 2
outcome_status (Ill name place) = 2
outcome_status (Report bodies) = if are_clean bodies then 0 else 1

-- the greatest status of the outcomes of some names
abbrev pub rows_status : List (NameParts × Outcome) → ℕ
rows_status [] = 0
rows_status (r ∷ rows) = max (outcome_status r.1) (rows_status rows)

-- the status of a call: 0 for declarations and for a removal
abbrev pub event_status : Event → ℕ
event_status (Types types) = 0
event_status (Put name body reply) = put_status reply
event_status (Remove name reply) = 0
event_status (Ask name outcome) = outcome_status outcome
event_status (EveryRoot rows) = rows_status rows

-- the greatest status of some calls
abbrev pub greatest : List Event → ℕ
greatest [] = 0
greatest (event ∷ events) = max (event_status event) (greatest events)
