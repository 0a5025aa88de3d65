-- What a request asks for.
use Rattle.std.specs.Prelude.{◌≡◌, List, ℕ, codes, Option, Some, Ok, option_and_then}
use Rattle.serde_json.specs.Data.{Data}
use Rattle.serde_json.specs.Find.{get, as_str}
use Rattle.bc_names.specs.Names.{NameParts, IsName, name_text}
use Rattle.bc_text.specs.Reading.{read, read_types}
use Rattle.bc_calls.specs.declared.call.Call.TheVariants as calls
use Rattle.cli_requests.specs.declared.request.Wanted.{Wanted}
use Rattle.cli_requests.specs.declared.request.Wanted.TheVariants.{Call, Glance}
use Rattle.cli_requests.specs.declared.verb.Verb.{Verb}
use Rattle.cli_requests.specs.declared.verb.Verb.TheVariants as verbs

-- the bytes of a member, if it is a string
abbrev pub word : List ℕ → Data → Option (List ℕ)
word key value = option_and_then as_str (get key value)

-- the word with which a request names a call
abbrev pub verb_text : Verb → List ℕ
verb_text verbs.Types = codes "types"
verb_text verbs.Put = codes "put"
verb_text verbs.Remove = codes "remove"
verb_text verbs.Ask = codes "ask"
verb_text verbs.AskAll = codes "askall"
verb_text verbs.Glance = codes "glance"

-- the request names this call
abbrev pub Calls : Data → Verb → Type 0
Calls value verb = word (codes "call") value ≡ Some (verb_text verb)

-- the request has this name
abbrev pub HasName : Data → NameParts → Type 0
HasName value name = IsName name × (word (codes "name") value ≡ Some (name_text name))

-- the request has this text
abbrev pub HasText : Data → List ℕ → Type 0
HasText value text = word (codes "text") value ≡ Some text

-- the request asks for this
abbrev pub AsksFor : Data → Wanted → Type 0
AsksFor value (Call (calls.Types types)) = Calls value verbs.Types × ((text : List ℕ) × HasText value text × (read_types text ≡ Ok types))
AsksFor value (Call (calls.Put name unit)) = Calls value verbs.Put × HasName value name × ((text : List ℕ) × HasText value text × (read text ≡ Ok unit))
AsksFor value (Call (calls.Remove name)) = Calls value verbs.Remove × HasName value name
AsksFor value (Call (calls.Ask name)) = Calls value verbs.Ask × HasName value name
AsksFor value (Call calls.All) = Calls value verbs.AskAll
AsksFor value (Glance name) = Calls value verbs.Glance × HasName value name
