-- How the program ends.
use Rattle.std.specs.Prelude.{◌≡◌, ◌⊎◌, ◌<◌, ℕ, Bool, List, Option, Result, MatchResult, codes, if◌then◌else◌}
use Rattle.std.specs.Str.{bytes_eq}
use Rattle.std.specs.Io.KnownBytes.{Keeps}
use Rattle.cli_line.specs.declared.fault.LineFault.{LineFault}
use Rattle.cli_line.specs.declared.line.Line.{Line}
use Rattle.cli_line.specs.declared.line.Line.TheVariants.{Check, Run, Serve, Print}
use Rattle.cli_line.specs.Written.{GivesLine}
use Rattle.cli_file.specs.declared.stop.Stop.TheVariants as stops
use Rattle.cli_file.specs.Words.{AnswersWords, Says}
use Rattle.cli_check.specs.Ends.{IsEnd as IsEndOfCheck}
use Rattle.cli_run.specs.Ends.{IsEnd as IsEndOfRun}
use Rattle.cli_print.specs.Ends.{IsEnd as IsEndOfPrint}
use Rattle.cli_serve.specs.Served.{IsEnd as IsEndOfServe}
use Rattle.cli_serve.specs.Talked.{lines_left}

-- the name is that of standard input
abbrev pub is_standard_input : List ℕ → Bool
is_standard_input name = bytes_eq name (codes "-")

-- the bytes of the input of this name, if they are known: of standard input, or of the file of this name
abbrev pub input_of : (List ℕ → Option (List ℕ)) → Option (List ℕ) → List ℕ → Option (List ℕ)
input_of files standard name = if is_standard_input name then standard else files name

-- the command of the line ended with this status on the input that it names
abbrev pub IsEndOfLine : (List ℕ → Option (List ℕ)) → Option (List ℕ) → Line → ℕ → Option (List ℕ) → Option (List ℕ) → Option (List ℕ) → Option (List ℕ) → Type 0
IsEndOfLine files standard (Check line) exit out out' err err' = IsEndOfCheck line (input_of files standard line.file) exit out out' err err'
IsEndOfLine files standard (Run line) exit out out' err err' = IsEndOfRun line (input_of files standard line.file) exit out out' err err'
IsEndOfLine files standard (Serve line) exit out out' err err' = IsEndOfServe line.sessions (lines_left standard) exit err err'
IsEndOfLine files standard (Print line) exit out out' err err' = IsEndOfPrint line (input_of files standard line.file) exit out out' err err'

-- the words were read as a line whose command ended so, or were no line and were answered
pub record IsEndOfWords (files : List ℕ → Option (List ℕ)) (standard : Option (List ℕ)) (words : List (List ℕ)) (exit : ℕ) (out out' err err' : Option (List ℕ)) : Type 0 where
  pub read : Result Line LineFault
  pub given : GivesLine words read
  pub ended : MatchResult read (λ line. IsEndOfLine files standard line exit out out' err err') (λ fault. AnswersWords fault exit out out' err err')

-- the status is unchanged, or standard output failed at the end and nothing had failed before
abbrev pub HandsOn : ℕ → ℕ → Option (List ℕ) → Option (List ℕ) → Type 0
HandsOn status exit err err' = ((exit ≡ status) × Keeps err err') ⊎ ((status < 3) × Says stops.CannotWrite exit err err')
