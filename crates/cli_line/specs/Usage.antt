-- The texts of `--help` and `--version`.
use Rattle.std.specs.Prelude.{ℕ, List, [], ◌∷◌, ◌++◌, codes}
use Rattle.cli_line.specs.declared.topic.Topic.{Topic}
use Rattle.cli_line.specs.declared.topic.Topic.TheVariants.{Program, Check, Run, Serve, Print}
use Rattle.cli_line.specs.declared.usage.TheConstants.{USAGE, CHECK_USAGE, RUN_USAGE, SERVE_USAGE, PRINT_USAGE, VERSION}

-- the text of help about the program, or about one of its commands
abbrev pub usage_of : Topic → List ℕ
usage_of Program = USAGE.now
usage_of Check = CHECK_USAGE.now
usage_of Run = RUN_USAGE.now
usage_of Serve = SERVE_USAGE.now
usage_of Print = PRINT_USAGE.now

-- the line of the version: the program's name, a space, the version, and a line feed
abbrev pub version_line : List ℕ
version_line = codes "nlldb " ++ VERSION.now ++ 10 ∷ []
