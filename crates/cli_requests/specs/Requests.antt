-- Lines, read as requests.
use Rattle.std.specs.Prelude.{◌≡◌, ℕ, List, Some, None, Result, Ok, Err}
use Rattle.serde_json.specs.Data.{Data, null}
use Rattle.cli_requests.specs.declared.fault.RequestFault.{RequestFault}
use Rattle.cli_requests.specs.declared.fault.RequestFault.TheVariants.{BadSession}
use Rattle.cli_requests.specs.declared.request.Request.{Request}
use Rattle.cli_requests.specs.declared.request.Request.TheVariants.{Good, Bad}
use Rattle.cli_requests.specs.Ids.{id_data, id_of}
use Rattle.cli_requests.specs.Lines.{value_of}
use Rattle.cli_requests.specs.Sessions.{session_at}
use Rattle.cli_requests.specs.Asking.{AsksFor}
use Rattle.cli_requests.specs.Faults.{IsWrong}

-- this is the request of a value
abbrev pub IsRequestOf : ℕ → Data → Request → Type 0
IsRequestOf sessions value (Good id session wanted) = (id_data id ≡ id_of value) × (session_at sessions value ≡ Some session) × AsksFor value wanted
IsRequestOf sessions value (Bad id (Some session) fault) = (id_data id ≡ id_of value) × (session_at sessions value ≡ Some session) × IsWrong value fault
IsRequestOf sessions value (Bad id None fault) = (id_data id ≡ id_of value) × (session_at sessions value ≡ None) × (fault ≡ BadSession)

-- the request of a line without a value, for this cause
abbrev pub IsUnread : RequestFault → Request → Type 0
IsUnread cause (Good id session wanted) = ⊥
IsUnread cause (Bad id (Some session) fault) = ⊥
IsUnread cause (Bad id None fault) = (id_data id ≡ null) × (fault ≡ cause)

-- this is the request of what was read
abbrev pub IsReading : ℕ → Result Data RequestFault → Request → Type 0
IsReading sessions (Ok value) request = IsRequestOf sessions value request
IsReading sessions (Err cause) request = IsUnread cause request

-- this is the request of a line, for this number of sessions
abbrev pub IsRequest : ℕ → List ℕ → Request → Type 0
IsRequest sessions line request = IsReading sessions (value_of line) request
