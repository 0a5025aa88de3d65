-- The line that answers a request: an object of JSON, its keys in byte order.
use Rattle.std.specs.Prelude.{◌≡◌, ℕ, ◌≤◌, List, codes, false, Option, Some, None, option_map}
use Rattle.std.specs.Arc.{arc_value}
use Rattle.serde_json.specs.Data.{Data, null, string, number, unsigned, object, member, no_members, depth}
use Rattle.serde_json.specs.Read.{read, max_depth}
use Rattle.serde_json.specs.Written.{has_float, compact_text}
use Rattle.bc_prov.specs.declared.outcome.Outcome.{Outcome}
use Rattle.bc_calls.specs.declared.call.Event.{Event}
use Rattle.cli_entries.specs.Replies.{IsOutcomeData, IsReplyData, reply_key}
use Rattle.cli_entries.specs.Words.{refusal_words}
use Rattle.cli_requests.specs.declared.fault.RequestFault.{RequestFault}
use Rattle.cli_requests.specs.declared.fault.RequestFault.TheVariants.{NotJson, TooLong, BadSession, BadCall, BadName, BadText, Text}
use Rattle.cli_requests.specs.declared.fault.TextFault.{TextFault}
use Rattle.cli_answers.specs.Feeds.{IsOneLine}
use Rattle.cli_answers.specs.Words.{kind_word}
use Rattle.cli_answers.specs.declared.answer.Answer.{Answer}
use Rattle.cli_answers.specs.declared.answer.Answer.TheVariants.{Entered, Glanced, Refused, Wrong}

-- the session that a request names, or `null`
abbrev pub session_data : Option ℕ → Data
session_data None = null
session_data (Some session) = number (unsigned session)

-- the object of a call that was made: the number of calls that its session had made before, and the reply, under this key
abbrev pub entry_data : Data → Option ℕ → ℕ → List ℕ → Data → Data
entry_data id session before key reply =
    object (member (codes "id") id (member (codes "number") (number (unsigned before)) (member key reply (member (codes "session") (session_data session) no_members))))

-- the object of a call with its reply
abbrev pub IsEntryOf : Data → Option ℕ → ℕ → Event → Data → Type 0
IsEntryOf id session before event value =
    (reply : Data) × IsReplyData event reply × (value ≡ entry_data id session before (reply_key event) reply)

-- the answer that is published for a name, or `null`
abbrev pub IsPublished : Option Outcome → Data → Type 0
IsPublished None value = value ≡ null
IsPublished (Some outcome) value = IsOutcomeData outcome value

-- the object of what is published for a name
abbrev pub glance_data : Data → Option ℕ → Data → Data
glance_data id session published =
    object (member (codes "id") id (member (codes "outcome") published (member (codes "session") (session_data session) no_members)))

-- the object of a fault in these words
abbrev pub fault_data : Data → Option ℕ → List ℕ → Data
fault_data id session words =
    object (member (codes "fault") (string words) (member (codes "id") id (member (codes "session") (session_data session) no_members)))

-- the object of a fault that a text has: its kind, and its place in bytes and by line and column
abbrev pub text_data : Data → Option ℕ → TextFault → Data
text_data id session fault =
    object (member (codes "at") (number (unsigned fault.at)) (member (codes "column") (number (unsigned fault.position.column)) (member (codes "fault") (string (kind_word fault.kind)) (member (codes "id") id (member (codes "line") (number (unsigned fault.position.line)) (member (codes "session") (session_data session) no_members))))))

-- the object that says what is wrong with a request
abbrev pub wrong_data : Data → Option ℕ → RequestFault → Data
wrong_data id session NotJson = fault_data id session (codes "not json")
wrong_data id session TooLong = fault_data id session (codes "too long")
wrong_data id session BadSession = fault_data id session (codes "bad session")
wrong_data id session BadCall = fault_data id session (codes "bad call")
wrong_data id session BadName = fault_data id session (codes "bad name")
wrong_data id session BadText = fault_data id session (codes "bad text")
wrong_data id session (Text fault) = text_data id session fault

-- the value is the object of an answer to the request of this id, which names this session or none
abbrev pub IsAnswerOf : Data → Option ℕ → Answer → Data → Type 0
IsAnswerOf id session (Entered before event) value = IsEntryOf id session before event value
IsAnswerOf id session (Glanced found) value =
    (published : Data) × IsPublished (option_map arc_value found) published × (value ≡ glance_data id session published)
IsAnswerOf id session (Refused refusal) value = value ≡ fault_data id session (refusal_words refusal)
IsAnswerOf id session (Wrong fault) value = value ≡ wrong_data id session fault

-- A line of JSON is the text of this value. It is the value's compact text if the value has no float. It reads as the value if that is not
-- nested too deep for the reader.
pub record IsLineOf (value : Data) (line : List ℕ) : Type 0 where
  pub exact : has_float value ≡ false → line ≡ compact_text value
  pub one_line : IsOneLine line
  pub read_back : depth value ≤ max_depth → read line ≡ Some value

-- the line of an answer, without its line feed
abbrev pub IsAnswerLine : Data → Option ℕ → Answer → List ℕ → Type 0
IsAnswerLine id session answer line = (value : Data) × IsAnswerOf id session answer value × IsLineOf value line
