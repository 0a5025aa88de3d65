-- The calls that a file makes, and what is printed about them.
use Rattle.std.specs.Prelude.{◌≡◌, ℕ, List, [], ◌++◌, map, codes}
use Rattle.std.specs.List.{All}
use Rattle.bc_names.specs.Names.{NameParts, name_text}
use Rattle.bc_prov.specs.declared.outcome.Outcome.{Outcome}
use Rattle.bc_calls.specs.declared.call.Call.{Call}
use Rattle.bc_calls.specs.declared.call.Call.TheVariants as calls_made
use Rattle.bc_calls.specs.declared.call.PutReply.{PutReply}
use Rattle.bc_calls.specs.declared.call.PutReply.TheVariants.{Added, Replaced, Full, WrongKind}
use Rattle.bc_calls.specs.declared.call.Event.{Event}
use Rattle.bc_calls.specs.declared.call.Event.TheVariants.{Types, Put, Remove, Ask, All as EveryRoot}
use Rattle.bc_calls.specs.declared.call.Entry.{Entry}
use Rattle.bc_calls.specs.Calls.{IsLegal, calls}
use Rattle.cli_check.specs.declared.form.Form.{Form}
use Rattle.cli_check.specs.declared.form.Form.TheVariants.{Text, Json, Sourced}
use Rattle.bc_report.specs.Text.{line}
use Rattle.bc_report.specs.Report.{report}
use Rattle.bc_json.specs.Json.{json_line}
use Rattle.bc_source.specs.Report.{sourced_report}

-- the calls of a file: those of its sections, then an ask for each of its names
abbrev pub calls_of : List Call → List NameParts → List Call
calls_of made names = made ++ map calls_made.Ask names

-- the line of a put that stored nothing; any other put has none
abbrev pub refused_line : NameParts → PutReply → List ℕ
refused_line name Added = []
refused_line name Replaced = []
refused_line name Full = line (codes "put " ++ name_text name ++ codes " full")
refused_line name WrongKind = line (codes "put " ++ name_text name ++ codes " wrongkind")

-- what is printed about an ask: its line and its report, perhaps with the texts that explain its errors, or one line of JSON for both
abbrev pub answer_lines : Form → NameParts → Outcome → List ℕ
answer_lines Text name outcome = line (codes "ask " ++ name_text name) ++ report outcome
answer_lines Json name outcome = line (json_line name outcome)
answer_lines (Sourced sources) name outcome = line (codes "ask " ++ name_text name) ++ sourced_report sources outcome

-- the lines about a call on standard error
abbrev pub error_lines : Event → List ℕ
error_lines (Types types) = []
error_lines (Put name body reply) = refused_line name reply
error_lines (Remove name reply) = []
error_lines (Ask name outcome) = []
error_lines (EveryRoot rows) = []

-- what is printed about a call on standard output; no file of `check` asks for all
abbrev pub shown : Form → Event → List ℕ
shown form (Types types) = []
shown form (Put name body reply) = []
shown form (Remove name reply) = []
shown form (Ask name outcome) = answer_lines form name outcome
shown form (EveryRoot rows) = []

-- the calls of a session, with the replies that some legal history has for them
pub record AreReplied (events : List Event) : Type 0 where
  pub history : List Entry
  pub legal : IsLegal history
  pub own : calls 0 history ≡ events

-- the calls of a single session, with the replies that a legal history of its own has for them
pub record AreLegal (events : List Event) : Type 0 where
  pub history : List Entry
  pub legal : IsLegal history
  pub one_session : All (λ (entry : Entry). entry.session ≡ 0) history
  pub own : calls 0 history ≡ events
