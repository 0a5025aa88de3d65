-- The value of a line.
use Rattle.std.specs.Prelude.{ℕ, List, length, Option, Some, None, Result, Ok, Err, nat_lt, if◌then◌else◌}
use Rattle.std.specs.Str.{is_utf8}
use Rattle.serde_json.specs.Data.{Data}
use Rattle.serde_json.specs.Read.{read}
use Rattle.cli_requests.specs.declared.fault.RequestFault.{RequestFault}
use Rattle.cli_requests.specs.declared.fault.RequestFault.TheVariants.{TooLong, NotJson}
use Rattle.cli_requests.specs.declared.request.TheConstants.{MOST_REQUEST_BYTES}

-- the value of some bytes, if they are JSON in UTF-8
abbrev pub json_of : List ℕ → Option Data
json_of line = if is_utf8 line then read line else None

-- a value, or the fault that a line is not JSON
abbrev pub or_not_json : Option Data → Result Data RequestFault
or_not_json None = Err NotJson
or_not_json (Some value) = Ok value

-- the value of a line, or why it has none
unfoldable pub value_of : List ℕ → Result Data RequestFault
value_of line = if nat_lt MOST_REQUEST_BYTES (length line) then Err TooLong else or_not_json (json_of line)
