-- What is wrong with a request.
use Rattle.std.specs.Prelude.{◌≡◌, List, ℕ, Bool, true, false, codes, None, Err, ⊤}
use Rattle.serde_json.specs.Data.{Data}
use Rattle.bc_position.specs.Positions.{position_in}
use Rattle.bc_names.specs.Names.{NameParts}
use Rattle.bc_text.specs.Reading.{read, read_types}
use Rattle.bc_text.specs.declared.fault.ReadFault.{ReadFault}
use Rattle.bc_text.specs.declared.fault.ReadFault.TheVariants as causes
use Rattle.cli_requests.specs.declared.fault.RequestFault.{RequestFault}
use Rattle.cli_requests.specs.declared.fault.RequestFault.TheVariants.{NotJson, TooLong, BadSession, BadCall, BadName, BadText, Text}
use Rattle.cli_requests.specs.declared.fault.TextFaultKind.{TextFaultKind}
use Rattle.cli_requests.specs.declared.fault.TextFaultKind.TheVariants.{NotAscii, Token, Grammar, Limit}
use Rattle.cli_requests.specs.declared.fault.RequestStop.{RequestStop}
use Rattle.cli_requests.specs.declared.fault.RequestStop.TheVariants.{Fault, NoMemory}
use Rattle.cli_requests.specs.declared.verb.Verb.{Verb}
use Rattle.cli_requests.specs.declared.verb.Verb.TheVariants as verbs
use Rattle.cli_requests.specs.Asking.{Calls, HasName, HasText, word}

-- this call needs a name
abbrev pub takes_name : Verb → Bool
takes_name verbs.Types = false
takes_name verbs.Put = true
takes_name verbs.Remove = true
takes_name verbs.Ask = true
takes_name verbs.AskAll = false
takes_name verbs.Glance = true

-- the request names this call, which needs a text, and nothing before the text is wrong
abbrev pub IsRightUpToText : Data → Verb → Type 0
IsRightUpToText value verbs.Types = Calls value verbs.Types
IsRightUpToText value verbs.Put = Calls value verbs.Put × ((name : NameParts) × HasName value name)
IsRightUpToText value verbs.Remove = ⊥
IsRightUpToText value verbs.Ask = ⊥
IsRightUpToText value verbs.AskAll = ⊥
IsRightUpToText value verbs.Glance = ⊥

-- a text cannot be read as what this call stores, for this cause
abbrev pub IsUnreadable : Verb → List ℕ → ReadFault → Type 0
IsUnreadable verbs.Types text cause = read_types text ≡ Err cause
IsUnreadable verbs.Put text cause = read text ≡ Err cause
IsUnreadable verbs.Remove text cause = ⊥
IsUnreadable verbs.Ask text cause = ⊥
IsUnreadable verbs.AskAll text cause = ⊥
IsUnreadable verbs.Glance text cause = ⊥

-- the fault of this kind at this byte of a text
abbrev pub text_fault : TextFaultKind → List ℕ → ℕ → RequestFault
text_fault kind text at = Text (record { kind = kind; at = at; position = position_in text at })

-- this fault reports the cause
abbrev pub Tells : List ℕ → ReadFault → RequestFault → Type 0
Tells text causes.TooLong fault = fault ≡ TooLong
Tells text (causes.NotAscii at) fault = fault ≡ text_fault NotAscii text at
Tells text (causes.Token at) fault = fault ≡ text_fault Token text at
Tells text (causes.Grammar at) fault = fault ≡ text_fault Grammar text at
Tells text (causes.Limit at) fault = fault ≡ text_fault Limit text at
Tells text causes.NoMemory fault = ⊥

-- a text cannot be read as what this call stores, and this fault says why
abbrev pub IsTextFault : Verb → List ℕ → RequestFault → Type 0
IsTextFault verb text fault = (cause : ReadFault) × IsUnreadable verb text cause × Tells text cause fault

-- the request is right up to its text, which cannot be read
pub record HasBadText (value : Data) (fault : RequestFault) : Type 0 where
  pub verb : Verb
  pub right : IsRightUpToText value verb
  pub text : List ℕ
  pub has : HasText value text
  pub unread : IsTextFault verb text fault

-- this is the first thing that is wrong with a request whose session is right
abbrev pub IsWrong : Data → RequestFault → Type 0
IsWrong value NotJson = ⊥
IsWrong value BadSession = ⊥
IsWrong value BadCall = (verb : Verb) → ¬ Calls value verb
IsWrong value BadName = ((verb : Verb) × Calls value verb × (takes_name verb ≡ true)) × ((name : NameParts) → ¬ HasName value name)
IsWrong value BadText = ((verb : Verb) × IsRightUpToText value verb) × (word (codes "text") value ≡ None)
IsWrong value TooLong = HasBadText value TooLong
IsWrong value (Text fault) = HasBadText value (Text fault)

-- a reading stopped with such a fault, unless memory ran out
abbrev pub Stops : (RequestFault → Type 0) → RequestStop → Type 0
Stops Is (Fault fault) = Is fault
Stops Is NoMemory = ⊤
