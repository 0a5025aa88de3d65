-- The changes that a file of `check` makes, and its first fault.
use Rattle.std.specs.Prelude.{◌≡◌, ℕ, Bool, true, false, None, List, Result, map, Vec}
use Rattle.std.specs.List.{AllZip}
use Rattle.std.specs.declared.alloc.Global.{Global}
use Rattle.bc_calls.specs.declared.call.Call.{Call}
use Rattle.bc_calls.specs.declared.call.Call.TheVariants as calls
use Rattle.cli_file.specs.declared.heading.Heading.{Heading}
use Rattle.cli_file.specs.declared.heading.Heading.TheVariants as headings
use Rattle.cli_file.specs.declared.fault.FileFault.{FileFault}
use Rattle.cli_file.specs.declared.file.FileChange.{FileChange}
use Rattle.cli_file.specs.declared.file.FileChange.TheVariants as changes
use Rattle.cli_file.specs.declared.stop.Stop.{Stop}
use Rattle.cli_file.specs.Parts.{Part, sections_of}
use Rattle.cli_file.specs.Headings.{IsHeader, heading_of}
use Rattle.cli_file.specs.Located.{IsLocated}
use Rattle.cli_file.specs.Sections as sections

-- the heading asks for a change: it is `types` or a put
abbrev pub is_change : Heading → Bool
is_change headings.Types = true
is_change (headings.Put name) = true
is_change (headings.Remove name) = false
is_change (headings.Ask name) = false
is_change headings.All = false

-- the header line of `check` asks for this change, and names no session
abbrev pub Takes : Heading → List ℕ → Type 0
Takes heading header = (is_change heading ≡ true) × IsHeader None heading header

-- a section makes this call: its header line asks for the call, and its text spells the declarations or the unit
abbrev pub Makes : Part → Call → Type 0
Makes section call = Takes (heading_of call) section.header × sections.GivesCall call section.text

-- the sections make these calls, one each, in this order
abbrev pub MakeAll : List Part → List Call → Type 0
MakeAll parts list = AllZip Makes parts list

-- this is the first fault of some sections: those before it make calls
abbrev pub IsFirstFault : List Part → FileFault → Type 0
IsFirstFault parts fault = sections.IsFirstFault Makes Takes parts fault

-- the call of a change
abbrev pub seen : FileChange → Call
seen (changes.Types types) = calls.Types types
seen (changes.Put name unit) = calls.Put name unit

-- the result is the call that the section makes, or what is wrong with the section, unless memory ran out
abbrev pub GivesChange : Part → Result FileChange Stop → Type 0
GivesChange section result =
    sections.IsResult (λ change. Makes section (seen change)) (λ fault. (fault.line ≡ section.line) × sections.IsFault Takes section fault.kind) result

-- the result is the calls that the sections make, or the first fault among them, unless memory ran out
abbrev pub GivesChanges : List Part → Result (Vec FileChange Global) Stop → Type 0
GivesChanges parts result = sections.IsResult (λ list. MakeAll parts (map seen list.items)) (IsFirstFault parts) result

-- this is the first fault of a file, with its position if asked for
abbrev pub IsToldFault : Bool → List ℕ → FileFault → Type 0
IsToldFault positions file fault = IsFirstFault (sections_of file) fault × IsLocated positions file fault

-- the result is the calls that a file makes, or its first fault, with its position if asked for, unless memory ran out
abbrev pub GivesTold : Bool → List ℕ → Result (Vec FileChange Global) Stop → Type 0
GivesTold positions file result = sections.IsResult (λ list. MakeAll (sections_of file) (map seen list.items)) (IsToldFault positions file) result
