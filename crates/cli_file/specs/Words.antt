-- The answer to words that are no command line, such as `--help`.
use Rattle.std.specs.Prelude.{◌≡◌, ◌⊎◌, ℕ, Option, List, []}
use Rattle.std.specs.Io.KnownBytes.{Appends, Keeps}
use Rattle.cli_line.specs.declared.fault.LineFault.{LineFault}
use Rattle.cli_line.specs.declared.fault.LineFault.TheVariants.{Help, Version, WrongUse, NoMemory}
use Rattle.cli_line.specs.Usage.{usage_of, version_line}
use Rattle.cli_file.specs.declared.stop.Stop.{Stop}
use Rattle.cli_file.specs.declared.stop.Stop.TheVariants as stops
use Rattle.cli_file.specs.Stops.{last_line, stop_status}

-- one line on standard error says why nothing is done
abbrev pub Says : Stop → ℕ → Option (List ℕ) → Option (List ℕ) → Type 0
Says stop exit err err' = (exit ≡ stop_status stop) × Appends err err' (last_line [] stop)

-- a text is on standard output, unless that failed
abbrev pub Shows : List ℕ → ℕ → Option (List ℕ) → Option (List ℕ) → Option (List ℕ) → Option (List ℕ) → Type 0
Shows text exit out out' err err' = (exit ≡ 0) × Appends out out' text × Keeps err err' ⊎ Says stops.CannotWrite exit err err'

-- the help on a topic or the line of the version is on standard output, or one line says why the words are no command line
abbrev pub AnswersWords : LineFault → ℕ → Option (List ℕ) → Option (List ℕ) → Option (List ℕ) → Option (List ℕ) → Type 0
AnswersWords (Help topic) exit out out' err err' = Shows (usage_of topic) exit out out' err err'
AnswersWords Version exit out out' err err' = Shows version_line exit out out' err err'
AnswersWords WrongUse exit out out' err err' = Keeps out out' × Says stops.WrongUse exit err err'
AnswersWords NoMemory exit out out' err err' = Keeps out out' × Says stops.NoMemory exit err err'
