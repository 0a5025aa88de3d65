-- Lines as requests.
use Rattle.std.proofs.Common.{◌≡◌, ◌∙◌, ◌<◌, ℕ, List, length, Some, None, Result, Ok, Err, refl, sym, ap, subst}
use Rattle.serde_json.specs.Data.{Data, null}
use Rattle.cli_input.specs.Lines.{IsLine}
use Rattle.cli_input.specs.declared.line.InputLine.{InputLine}
use Rattle.cli_input.specs.declared.line.InputLine.TheVariants as lines
use Rattle.cli_requests.specs.declared.destination.Destination.TheVariants.{Session, Nowhere}
use Rattle.cli_requests.specs.declared.destination.ParsedLine.{ParsedLine}
use Rattle.cli_requests.specs.declared.fault.RequestFault.{RequestFault}
use Rattle.cli_requests.specs.declared.fault.RequestFault.TheVariants.{BadSession, TooLong}
use Rattle.cli_requests.specs.declared.id.Id.{Id}
use Rattle.cli_requests.specs.declared.request.Request.TheVariants.{Good, Bad}
use Rattle.cli_requests.specs.declared.request.TheConstants.{MOST_REQUEST_BYTES}
use Rattle.cli_requests.specs.declared.request.Wanted.{Wanted}
use Rattle.cli_requests.specs.Asking.{AsksFor}
use Rattle.cli_requests.specs.Destinations.{IsDestination, IsFromLine, IsParsed, parsed_data}
use Rattle.cli_requests.specs.Faults.{IsWrong}
use Rattle.cli_requests.specs.Ids.{id_data, id_of}
use Rattle.cli_requests.specs.Lines.{value_of}
use Rattle.cli_requests.specs.Requests.{IsReading, IsRequest}
use Rattle.cli_requests.specs.Sessions.{session_at, session_read}
use Rattle.cli_requests.proofs.Values.{too_long}

-- a line that is read as no value goes nowhere
pub unread_nowhere : (sessions : ℕ) (line : List ℕ) (id : Id) (fault : RequestFault) → value_of line ≡ Err fault → id_data id ≡ null → IsDestination sessions line (Nowhere id fault)
unread_nowhere sessions line id fault is none = (
  ap (session_read sessions) is,
  subst (λ (read : Result Data RequestFault). IsReading sessions read (Bad id None fault)) (sym is) (none, refl),
)

-- a line that names no session goes nowhere
pub bad_nowhere : (sessions : ℕ) (line : List ℕ) (id : Id) (value : Data) → value_of line ≡ Ok value → None ≡ session_at sessions value → id_data id ≡ id_of value → IsDestination sessions line (Nowhere id BadSession)
bad_nowhere sessions line id value is named same = (
  ap (session_read sessions) is ∙ sym named,
  subst (λ (read : Result Data RequestFault). IsReading sessions read (Bad id None BadSession)) (sym is) (same, sym named, refl),
)

-- a line goes to the session that its value names
pub goes_to : (sessions : ℕ) (line : List ℕ) (parsed : ParsedLine) → value_of line ≡ Ok (parsed_data parsed) → Some parsed.session ≡ session_at sessions (parsed_data parsed) → parsed.bytes ≡ length line → IsDestination sessions line (Session parsed)
goes_to sessions line parsed is named sized = record { named = ap (session_read sessions) is ∙ sym named; read = is; sized = sized }

-- what goes to a session was parsed from its line
pub goes_from : (sessions : ℕ) (line : List ℕ) (parsed : ParsedLine) → parsed.session < sessions → value_of line ≡ Ok (parsed_data parsed) → Some parsed.session ≡ session_at sessions (parsed_data parsed) → parsed.bytes ≡ length line → IsFromLine sessions (Session parsed)
goes_from sessions line parsed low is named sized = (low, (line, goes_to sessions line parsed is named sized))

-- a line that is too long goes nowhere
pub long_nowhere : (sessions : ℕ) (id : Id) (bytes : List ℕ) (line : InputLine) → id_data id ≡ null → line ≡ lines.TooLong → IsLine MOST_REQUEST_BYTES bytes line → IsDestination sessions bytes (Nowhere id TooLong)
long_nowhere sessions id bytes line none is long = unread_nowhere sessions bytes id TooLong (too_long bytes (subst (IsLine MOST_REQUEST_BYTES bytes) is long)) none

-- a line names the session of its value
named_of : (sessions : ℕ) (bytes : List ℕ) (parsed : ParsedLine) → IsParsed sessions bytes parsed → session_at sessions (parsed_data parsed) ≡ Some parsed.session
named_of sessions bytes parsed is = sym (ap (session_read sessions) is.read) ∙ is.named

-- a line is a request for what its value asks for
pub good_request : (sessions : ℕ) (bytes : List ℕ) (parsed : ParsedLine) (id : Id) (wanted : Wanted) → IsParsed sessions bytes parsed → id_data id ≡ id_of (parsed_data parsed) → AsksFor (parsed_data parsed) wanted → IsRequest sessions bytes (Good id parsed.session wanted)
good_request sessions bytes parsed id wanted is same asks = subst (λ (read : Result Data RequestFault). IsReading sessions read (Good id parsed.session wanted)) (sym is.read) (same, named_of sessions bytes parsed is, asks)

-- a line is a request with what is wrong with its value
pub wrong_request : (sessions : ℕ) (bytes : List ℕ) (parsed : ParsedLine) (id : Id) (fault : RequestFault) → IsParsed sessions bytes parsed → id_data id ≡ id_of (parsed_data parsed) → IsWrong (parsed_data parsed) fault → IsRequest sessions bytes (Bad id (Some parsed.session) fault)
wrong_request sessions bytes parsed id fault is same wrong = subst (λ (read : Result Data RequestFault). IsReading sessions read (Bad id (Some parsed.session) fault)) (sym is.read) (same, named_of sessions bytes parsed is, wrong)
