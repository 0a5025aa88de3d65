-- Replies to calls, as members of an object of JSON.
use Rattle.std.specs.Prelude.{◌≡◌, ℕ, List, codes, false}
use Rattle.std.specs.List.{AllZip}
use Rattle.serde_json.specs.Data.{Data, Members, string, number, unsigned, array, object, member, no_members, put}
use Rattle.serde_json.specs.View.{items_of}
use Rattle.serde_json.specs.Written.{has_float, compact_text}
use Rattle.bc_names.specs.Names.{NameParts, name_text}
use Rattle.bc_prov.specs.declared.outcome.Outcome.{Outcome}
use Rattle.bc_calls.specs.declared.call.Event.{Event}
use Rattle.bc_calls.specs.declared.call.Event.TheVariants as events
use Rattle.bc_json.specs.Json.{outcome_json}
use Rattle.cli_entries.specs.Words.{put_word, remove_word}

-- the value is the object that `check --json` prints for an outcome
abbrev pub IsOutcomeData : Outcome → Data → Type 0
IsOutcomeData outcome value = (has_float value ≡ false) × (compact_text value ≡ outcome_json outcome)

-- the value is the object of a root's name and its outcome
abbrev pub IsRoot : NameParts × Outcome → Data → Type 0
IsRoot row value =
    (outcome : Data) × IsOutcomeData row.1 outcome
    × (value ≡ object (member (codes "name") (string (name_text row.0)) (member (codes "outcome") outcome no_members)))

-- the key of a call's reply
abbrev pub reply_key : Event → List ℕ
reply_key (events.Types types) = codes "reply"
reply_key (events.Put name body reply) = codes "reply"
reply_key (events.Remove name reply) = codes "reply"
reply_key (events.Ask name outcome) = codes "outcome"
reply_key (events.All rows) = codes "roots"

-- the value is a call's reply
abbrev pub IsReplyData : Event → Data → Type 0
IsReplyData (events.Types types) value = value ≡ string (codes "stored")
IsReplyData (events.Put name body reply) value = value ≡ string (put_word reply)
IsReplyData (events.Remove name reply) value = value ≡ string (remove_word reply)
IsReplyData (events.Ask name outcome) value = IsOutcomeData outcome value
IsReplyData (events.All rows) value = (roots : List Data) × AllZip IsRoot rows roots × (value ≡ array (items_of roots))

-- an object got the number of calls that the session had made before this one, and its reply
abbrev pub PutsEntry : ℕ → Event → Members → Members → Type 0
PutsEntry before event old new =
    (reply : Data) × IsReplyData event reply × (new ≡ put (reply_key event) reply (put (codes "number") (number (unsigned before)) old))
