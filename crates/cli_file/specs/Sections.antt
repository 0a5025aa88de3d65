-- What the sections of a file ask for, and its first fault, for all commands.
use Rattle.std.specs.Prelude.{◌≡◌, ◌⊎◌, ◌||◌, ◌==◌, ℕ, true, List, ◌∷◌, ◌++◌, Result, Ok, Err, Option, Some, None}
use Rattle.std.specs.List.{AllZip, list_all}
use Rattle.bc_text.specs.declared.fault.ReadFault.{ReadFault}
use Rattle.bc_text.specs.declared.fault.ReadFault.TheVariants as read_faults
use Rattle.bc_text.specs.Reading.{read, read_types}
use Rattle.bc_calls.specs.declared.call.Call.{Call}
use Rattle.bc_calls.specs.declared.call.Call.TheVariants as calls
use Rattle.cli_file.specs.declared.heading.Heading.{Heading}
use Rattle.cli_file.specs.declared.heading.Heading.TheVariants as headings
use Rattle.cli_file.specs.declared.fault.FaultKind.{FaultKind}
use Rattle.cli_file.specs.declared.fault.FaultKind.TheVariants.{BadHeader, TextAfterCall, TooLong, NotAscii, Token, Grammar, Limit}
use Rattle.cli_file.specs.declared.fault.FileFault.{FileFault}
use Rattle.cli_file.specs.declared.stop.Stop.{Stop}
use Rattle.cli_file.specs.declared.stop.Stop.TheVariants.{WrongUse, CannotRead, CannotWrite, CannotTell, NoMemory, File, TooManyCalls, HistoryFull, Foreign, Audit}
use Rattle.cli_file.specs.Parts.{Part}

-- a text has spaces and line feeds alone
abbrev pub IsBlank : List ℕ → Type 0
IsBlank text = list_all (λ b. b == 32 || b == 10) text ≡ true

-- with the text after its header line, a section makes this call
abbrev pub GivesCall : Call → List ℕ → Type 0
GivesCall (calls.Types types) text = read_types text ≡ Ok types
GivesCall (calls.Put name body) text = read text ≡ Ok body
GivesCall (calls.Remove name) text = IsBlank text
GivesCall (calls.Ask name) text = IsBlank text
GivesCall calls.All text = IsBlank text

-- what is wrong with a text that cannot be read
abbrev pub text_fault : ReadFault → Option FaultKind
text_fault read_faults.TooLong = Some TooLong
text_fault (read_faults.NotAscii at) = Some (NotAscii at)
text_fault (read_faults.Token at) = Some (Token at)
text_fault (read_faults.Grammar at) = Some (Grammar at)
text_fault (read_faults.Limit at) = Some (Limit at)
text_fault read_faults.NoMemory = None

-- this is the fault of a text that was read
abbrev pub IsUnread : {T : Type 0} → Result T ReadFault → FaultKind → Type 0
IsUnread read kind = (fault : ReadFault) × (read ≡ Err fault) × (text_fault fault ≡ Some kind)

-- this is what is wrong with the text after a header line
abbrev pub IsTextFault : Heading → List ℕ → FaultKind → Type 0
IsTextFault headings.Types text kind = IsUnread (read_types text) kind
IsTextFault (headings.Put name) text kind = IsUnread (read text) kind
IsTextFault (headings.Remove name) text kind = ¬ IsBlank text × (kind ≡ TextAfterCall)
IsTextFault (headings.Ask name) text kind = ¬ IsBlank text × (kind ≡ TextAfterCall)
IsTextFault headings.All text kind = ¬ IsBlank text × (kind ≡ TextAfterCall)

-- this is what is wrong with a section: no heading that the command takes is in its header line, or its text is wrong
abbrev pub IsFault : (Heading → List ℕ → Type 0) → Part → FaultKind → Type 0
IsFault Takes section kind =
    ((kind ≡ BadHeader) × ((heading : Heading) → ¬ Takes heading section.header))
    ⊎ ((heading : Heading) × Takes heading section.header × IsTextFault heading section.text kind)

-- this is the first fault of some sections: those before it give what they should
pub record IsFirstFault {Given : Type 0} (Gives : Part → Given → Type 0) (Takes : Heading → List ℕ → Type 0) (sections : List Part) (fault : FileFault) : Type 0 where
  pub before : List Part
  pub section : Part
  pub behind : List Part
  pub given : List Given
  pub cut : sections ≡ before ++ section ∷ behind
  pub good : AllZip Gives before given
  pub line : fault.line ≡ section.line
  pub kind : IsFault Takes section fault.kind

-- the result is a good value or a bad fault of the file, unless memory ran out
abbrev pub IsResult : {T : Type 0} → (T → Type 0) → (FileFault → Type 0) → Result T Stop → Type 0
IsResult Good Bad (Ok value) = Good value
IsResult Good Bad (Err (File fault)) = Bad fault
IsResult Good Bad (Err NoMemory) = Unit {0}
IsResult Good Bad (Err WrongUse) = ⊥
IsResult Good Bad (Err CannotRead) = ⊥
IsResult Good Bad (Err CannotWrite) = ⊥
IsResult Good Bad (Err CannotTell) = ⊥
IsResult Good Bad (Err TooManyCalls) = ⊥
IsResult Good Bad (Err HistoryFull) = ⊥
IsResult Good Bad (Err Foreign) = ⊥
IsResult Good Bad (Err Audit) = ⊥

-- the result is what the text of a section was read as, or the fault of the text, at the section's line, unless memory ran out
abbrev pub GivesRead : {T : Type 0} → Result T ReadFault → Part → Result T Stop → Type 0
GivesRead read section result = IsResult (λ value. read ≡ Ok value) (λ fault. (fault.line ≡ section.line) × IsUnread read fault.kind) result

-- why a command stops at the section of this line, if its text cannot be read
abbrev pub stop_of : ℕ → ReadFault → Stop
stop_of line read_faults.TooLong = File (record { line = line; kind = TooLong; position = None })
stop_of line (read_faults.NotAscii at) = File (record { line = line; kind = NotAscii at; position = None })
stop_of line (read_faults.Token at) = File (record { line = line; kind = Token at; position = None })
stop_of line (read_faults.Grammar at) = File (record { line = line; kind = Grammar at; position = None })
stop_of line (read_faults.Limit at) = File (record { line = line; kind = Limit at; position = None })
stop_of line read_faults.NoMemory = NoMemory
