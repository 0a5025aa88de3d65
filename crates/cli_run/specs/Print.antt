-- What is printed for a history, and for sessions that stopped early.
use Rattle.std.specs.Prelude.{◌≡◌, ℕ, ◌+◌, Bool, true, Option, List, [], ◌∷◌, ◌++◌, length, codes, decimal, if◌then◌else◌}
use Rattle.std.specs.List.{flat_map}
use Rattle.std.specs.Io.KnownBytes.{Appends}
use Rattle.bc_names.specs.Names.{NameParts, name_text}
use Rattle.bc_prov.specs.declared.outcome.Outcome.{Outcome}
use Rattle.bc_calls.specs.declared.call.Entry.{Entry}
use Rattle.bc_calls.specs.declared.call.Event.{Event}
use Rattle.bc_calls.specs.declared.call.Event.TheVariants.{Types, Put, Remove, Ask, All as EveryRoot}
use Rattle.bc_scripts.specs.declared.run.End.{End}
use Rattle.bc_scripts.specs.declared.run.End.TheVariants.{Done, Stopped}
use Rattle.cli_entries.specs.Words.{put_word, refusal_words, remove_word}
use Rattle.cli_entries.specs.Json.{entry_json}
use Rattle.bc_report.specs.Text.{line}
use Rattle.bc_report.specs.Report.{report}

-- a call with its reply, in words
abbrev pub event_text : Event → List ℕ
event_text (Types types) = codes "types stored"
event_text (Put name body reply) = codes "put " ++ name_text name ++ codes " " ++ put_word reply
event_text (Remove name reply) = codes "remove " ++ name_text name ++ codes " " ++ remove_word reply
event_text (Ask name outcome) = codes "ask " ++ name_text name
event_text (EveryRoot rows) = codes "askall " ++ decimal (length rows)

-- the line of an entry: the session, the number of its earlier calls, and the call
abbrev pub entry_line : Entry → List ℕ
entry_line entry = decimal entry.session ++ codes " " ++ decimal entry.number ++ codes " " ++ line (event_text entry.event)

-- the lines of a root that an ask for all lists: its name, then its report
abbrev pub root_lines : NameParts × Outcome → List ℕ
root_lines row = line (codes "root " ++ name_text row.0) ++ report row.1

-- the report of an ask, or the lines of the roots of an ask for all
abbrev pub outcome_lines : Event → List ℕ
outcome_lines (Types types) = []
outcome_lines (Put name body reply) = []
outcome_lines (Remove name reply) = []
outcome_lines (Ask name outcome) = report outcome
outcome_lines (EveryRoot rows) = flat_map root_lines rows

-- an entry: its line and what it found, or one line of JSON
abbrev pub entry_lines : Bool → Entry → List ℕ
entry_lines json entry = if json then line (entry_json entry) else entry_line entry ++ outcome_lines entry.event

-- a beginning of some entries is printed as JSON, without the next one
pub record PrintsPart (entries : List Entry) (out out' : Option (List ℕ)) : Type 0 where
  pub front : List Entry
  pub next : Entry
  pub ahead : List Entry
  pub cut : front ++ next ∷ ahead ≡ entries
  pub printed : Appends out out' (flat_map (entry_lines true) front)

-- the line of a session that stopped early
abbrev pub stopped_line : ℕ → End → List ℕ
stopped_line session Done = []
stopped_line session (Stopped number refusal) = line (codes "session " ++ decimal session ++ codes " stopped: " ++ refusal_words refusal)

-- the lines of the sessions that stopped early, of which the first has this number
abbrev pub stopped_lines : ℕ → List End → List ℕ
stopped_lines session [] = []
stopped_lines session (end ∷ ends) = stopped_line session end ++ stopped_lines (session + 1) ends
