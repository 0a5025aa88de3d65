-- What the router did with the next line.
use Rattle.std.proofs.Common.{◌≡◌, ℕ, List, [], ◌∷◌, Option, Some, None, refl}
use Rattle.cli_input.specs.declared.line.InputLine.{InputLine}
use Rattle.cli_input.specs.Lines.{IsLine, ReadsNext}
use Rattle.cli_requests.specs.declared.request.TheConstants.{MOST_REQUEST_BYTES}
use Rattle.cli_requests.specs.declared.request.Request.TheVariants.{Bad}
use Rattle.cli_requests.specs.declared.fault.RequestFault.{RequestFault}
use Rattle.cli_requests.specs.declared.id.Id.{Id}
use Rattle.cli_requests.specs.declared.destination.ParsedLine.{ParsedLine}
use Rattle.cli_requests.specs.Destinations.{IsParsed}
use Rattle.cli_requests.specs.Requests.{IsRequest}
use Rattle.cli_requests.specs.Sessions.{session_in}
use Rattle.cli_talk.specs.declared.router.RoutedLine.TheVariants.{End, Told, Sent}
use Rattle.cli_talk.specs.Wires.{Takes}
use Rattle.cli_talk.specs.Turns.{IsWholeLine, wrong_answer}
use Rattle.cli_talk.specs.Routed.{RoutesNext}
use Rattle.cli_talk.proofs.Flows.{takes_none, takes_one}

-- no line is left
pub routes_end : {M : Type 0} (line_of : M → ParsedLine) (sessions : ℕ) (known left : Option (List ℕ)) (given : Option (List (List ℕ))) → ReadsNext MOST_REQUEST_BYTES known left None → RoutesNext line_of sessions known left End given given
routes_end line_of sessions None left given read = tt
routes_end line_of sessions (Some x) None given read = absurd read
routes_end line_of sessions (Some x) (Some y) given read = (read.0, read.1, takes_none given)

-- the line is answered
pub routes_told : {M : Type 0} (line_of : M → ParsedLine) (sessions : ℕ) (known left : Option (List ℕ)) (line : InputLine) (id : Id) (fault : RequestFault) (given given' : Option (List (List ℕ))) → ReadsNext MOST_REQUEST_BYTES known left (Some line)
    → ((bytes : List ℕ) → IsLine MOST_REQUEST_BYTES bytes line → (session_in sessions bytes ≡ None) × IsRequest sessions bytes (Bad id None fault)) → (text : List ℕ) × IsWholeLine (wrong_answer id fault) text × Takes given given' text
    → RoutesNext line_of sessions known left Told given given'
routes_told line_of sessions None left line id fault given given' read is taken = tt
routes_told line_of sessions (Some x) None line id fault given given' read is taken = absurd read
routes_told line_of sessions (Some x) (Some y) line id fault given given' read is (text, written, taken) = record {
  line = read.0;
  cut = read.1;
  texts = text ∷ [];
  goes = ((is read.0 read.2).0, (text, refl, record { id = id; fault = fault; is = (is read.0 read.2).1; written = written }));
  parsed = tt;
  taken = takes_one given given' text taken;
}

-- the line is sent to its session
pub routes_sent : {M : Type 0} (line_of : M → ParsedLine) (sessions : ℕ) (known left : Option (List ℕ)) (line : InputLine) (message : M) (given : Option (List (List ℕ))) → ReadsNext MOST_REQUEST_BYTES known left (Some line)
    → ((bytes : List ℕ) → IsLine MOST_REQUEST_BYTES bytes line → IsParsed sessions bytes (line_of message)) → RoutesNext line_of sessions known left (Sent message) given given
routes_sent line_of sessions None left line message given read is = tt
routes_sent line_of sessions (Some x) None line message given read is = absurd read
routes_sent line_of sessions (Some x) (Some y) line message given read is = record { line = read.0; cut = read.1; texts = []; goes = ((is read.0 read.2).named, refl); parsed = is read.0 read.2; taken = takes_none given }
