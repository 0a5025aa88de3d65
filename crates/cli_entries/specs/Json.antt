-- The line of an entry: an object of JSON, compact, its keys in byte order.
use Rattle.std.specs.Prelude.{ℕ, List, ◌++◌, map, decimal, codes}
use Rattle.json.specs.Print.{quoted}
use Rattle.bc_names.specs.Names.{NameParts, name_text}
use Rattle.bc_prov.specs.declared.outcome.Outcome.{Outcome}
use Rattle.bc_calls.specs.declared.call.Entry.{Entry}
use Rattle.bc_calls.specs.declared.call.Event.{Event}
use Rattle.bc_calls.specs.declared.call.Event.TheVariants as events
use Rattle.bc_json.specs.Texts.{array_text}
use Rattle.bc_json.specs.Json.{outcome_json}
use Rattle.cli_entries.specs.Words.{put_word, remove_word}

-- the object of a root that an ask for all lists
abbrev pub root_json : NameParts × Outcome → List ℕ
root_json row = codes "{\"name\":" ++ quoted (name_text row.0) ++ codes ",\"outcome\":" ++ outcome_json row.1 ++ codes "}"

-- the member with the reply to a call
abbrev pub reply_json : Event → List ℕ
reply_json (events.Types types) = codes "\"reply\":" ++ quoted (codes "stored")
reply_json (events.Put name body reply) = codes "\"reply\":" ++ quoted (put_word reply)
reply_json (events.Remove name reply) = codes "\"reply\":" ++ quoted (remove_word reply)
reply_json (events.Ask name outcome) = codes "\"outcome\":" ++ outcome_json outcome
reply_json (events.All rows) = codes "\"roots\":" ++ array_text (map root_json rows)

-- the line of an entry, without its line feed: the number of calls that the session had made before, the reply to this one, and the session
abbrev pub entry_json : Entry → List ℕ
entry_json entry =
    codes "{\"number\":" ++ decimal entry.number ++ codes "," ++ reply_json entry.event ++ codes ",\"session\":" ++ decimal entry.session ++ codes "}"
