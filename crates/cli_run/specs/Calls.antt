-- The calls of a file of `run`, and its first fault.
use Rattle.std.specs.Prelude.{◌≡◌, ◌<◌, ◌==◌, ℕ, Bool, zero, suc, List, [], ◌∷◌, ◌++◌, Some, Result, Vec, if◌then◌else◌}
use Rattle.std.specs.List.{AllZip, flat_map}
use Rattle.std.specs.declared.alloc.Global.{Global}
use Rattle.bc_calls.specs.declared.call.Call.{Call}
use Rattle.cli_file.specs.declared.heading.Heading.{Heading}
use Rattle.cli_file.specs.declared.fault.FileFault.{FileFault}
use Rattle.cli_file.specs.declared.stop.Stop.{Stop}
use Rattle.cli_file.specs.Parts.{Part, sections_of}
use Rattle.cli_file.specs.Headings.{IsHeader, heading_of}
use Rattle.cli_file.specs.Located.{IsLocated}
use Rattle.cli_file.specs.Sections as sections
use Rattle.cli_run.specs.declared.file.SessionCall.{SessionCall}

-- the header line of `run` asks this of a session, and there is such a session
abbrev pub Takes : ℕ → Heading → List ℕ → Type 0
Takes sessions heading header = (session : ℕ) × (session < sessions) × IsHeader (Some session) heading header

-- a section gives this call to a session, and there is such a session
pub record Gives (sessions : ℕ) (section : Part) (given : SessionCall) : Type 0 where
  pub below : given.session < sessions
  pub header : IsHeader (Some given.session) (heading_of given.call) section.header
  pub text : sections.GivesCall given.call section.text

-- the sections give these calls, one each, in this order
abbrev pub GiveAll : ℕ → List Part → List SessionCall → Type 0
GiveAll sessions parts list = AllZip (Gives sessions) parts list

-- this is the first fault of some sections: those before it give calls
abbrev pub IsFirstFault : ℕ → List Part → FileFault → Type 0
IsFirstFault sessions parts fault = sections.IsFirstFault (Gives sessions) (Takes sessions) parts fault

-- the result is the call of a section with this heading, or what is wrong with its text, unless memory ran out
abbrev pub GivesText : Heading → Part → Result Call Stop → Type 0
GivesText heading section result =
    sections.IsResult (λ call. (heading_of call ≡ heading) × sections.GivesCall call section.text)
    (λ fault. (fault.line ≡ section.line) × sections.IsTextFault heading section.text fault.kind) result

-- the result is the call that a section gives, or what is wrong with the section, unless memory ran out
abbrev pub GivesOne : ℕ → Part → Result SessionCall Stop → Type 0
GivesOne sessions section result =
    sections.IsResult (Gives sessions section) (λ fault. (fault.line ≡ section.line) × sections.IsFault (Takes sessions) section fault.kind) result

-- the result is the calls that the sections give, or the first fault among them, unless memory ran out
abbrev pub GivesAll : ℕ → List Part → Result (Vec SessionCall Global) Stop → Type 0
GivesAll sessions parts result = sections.IsResult (λ list. GiveAll sessions parts list.items) (IsFirstFault sessions parts) result

-- this is the first fault of a file, with its position if asked for
abbrev pub IsToldFault : ℕ → Bool → List ℕ → FileFault → Type 0
IsToldFault sessions positions file fault = IsFirstFault sessions (sections_of file) fault × IsLocated positions file fault

-- the result is the calls that a file gives, or its first fault, with its position if asked for, unless memory ran out
abbrev pub GivesTold : ℕ → Bool → List ℕ → Result (Vec SessionCall Global) Stop → Type 0
GivesTold sessions positions file result = sections.IsResult (λ list. GiveAll sessions (sections_of file) list.items) (IsToldFault sessions positions file) result

-- a call, if it is this session's
abbrev pub own_call : ℕ → SessionCall → List Call
own_call session given = if given.session == session then given.call ∷ [] else []

-- the calls that one session is to make, in order
abbrev pub calls_for : ℕ → List SessionCall → List Call
calls_for session list = flat_map (own_call session) list

-- the calls of each session, for the given number of sessions
abbrev pub scripts : ℕ → List SessionCall → List (List Call)
scripts zero list = []
scripts (suc session) list = scripts session list ++ calls_for session list ∷ []
