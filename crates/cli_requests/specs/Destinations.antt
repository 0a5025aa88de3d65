-- Where a line goes.
use Rattle.std.specs.Prelude.{◌≡◌, ◌<◌, ℕ, List, length, Some, None, Ok, ⊤}
use Rattle.serde_json.specs.Data.{Data}
use Rattle.serde_json.specs.View.{view}
use Rattle.cli_requests.specs.declared.destination.Destination.{Destination}
use Rattle.cli_requests.specs.declared.destination.Destination.TheVariants.{Session, Nowhere}
use Rattle.cli_requests.specs.declared.destination.ParsedLine.{ParsedLine}
use Rattle.cli_requests.specs.declared.request.Request.TheVariants.{Bad}
use Rattle.cli_requests.specs.Lines.{value_of}
use Rattle.cli_requests.specs.Requests.{IsRequest}
use Rattle.cli_requests.specs.Sessions.{session_in}

-- the data of a line that was parsed
abbrev pub parsed_data : ParsedLine → Data
parsed_data line = view line.value

-- this is what a line was parsed as: the session that it names, of so many, its data, and the number of its bytes
pub record IsParsed (sessions : ℕ) (line : List ℕ) (parsed : ParsedLine) : Type 0 where
  pub named : session_in sessions line ≡ Some parsed.session
  pub read : value_of line ≡ Ok (parsed_data parsed)
  pub sized : parsed.bytes ≡ length line

-- a line goes to the session that it names, parsed; or it names none, and these are its id and what is wrong with it
abbrev pub IsDestination : ℕ → List ℕ → Destination → Type 0
IsDestination sessions line (Session parsed) = IsParsed sessions line parsed
IsDestination sessions line (Nowhere id fault) = (session_in sessions line ≡ None) × IsRequest sessions line (Bad id None fault)

-- what goes to a session was parsed from some line, and the session is one of so many
abbrev pub IsFromLine : ℕ → Destination → Type 0
IsFromLine sessions (Session parsed) = (parsed.session < sessions) × ((line : List ℕ) × IsParsed sessions line parsed)
IsFromLine sessions (Nowhere id fault) = ⊤
