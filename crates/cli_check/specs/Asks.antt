-- Asks for the names of a file, and what is printed about them.
use Rattle.std.specs.Prelude.{◌≡◌, ℕ, true, Option, List, Result, IfErr, IfOk, map}
use Rattle.std.specs.Io.KnownBytes.{Keeps}
use Rattle.bc_names.specs.Names.{NameParts}
use Rattle.bc_calls.specs.declared.call.Call.TheVariants as calls_made
use Rattle.bc_share.specs.Sessions.{SessionView}
use Rattle.cli_file.specs.declared.stop.Stop.{Stop}
use Rattle.cli_file.specs.Stops.{is_refused}
use Rattle.cli_check.specs.declared.form.Form.{Form}
use Rattle.cli_check.specs.Run.{shown}
use Rattle.cli_check.specs.Performed.{IsAtMostOneMore, Performed, PerformedPart, Performs}

-- a name was asked, and its report was printed, unless the command stops
abbrev pub AsksOne : Form → NameParts → Result ℕ Stop → SessionView → SessionView → Option (List ℕ) → Option (List ℕ) → Type 0
AsksOne form name result old new before after = IfOk result (λ status. Performs (calls_made.Ask name) (shown form) status old new before after)

-- if a call was refused, at most this one was made, and nothing was printed
abbrev pub RefusesOne : Result ℕ Stop → SessionView → SessionView → Option (List ℕ) → Option (List ℕ) → Type 0
RefusesOne result old new before after = IfErr result (λ stop. is_refused stop ≡ true → IsAtMostOneMore old new × Keeps before after)

-- the names were asked, in order, and their reports were printed, unless the command stops
abbrev pub AsksAll : Form → List NameParts → Result ℕ Stop → SessionView → SessionView → Option (List ℕ) → Option (List ℕ) → Type 0
AsksAll form names result old new before after = IfOk result (λ status. Performed (map calls_made.Ask names) (shown form) status old new before after)

-- if a call was refused, a beginning of the names was asked, and their reports were printed
abbrev pub AsksSome : Form → List NameParts → Result ℕ Stop → SessionView → SessionView → Option (List ℕ) → Option (List ℕ) → Type 0
AsksSome form names result old new before after =
    IfErr result (λ stop. is_refused stop ≡ true → PerformedPart (map calls_made.Ask names) (shown form) old new before after)
