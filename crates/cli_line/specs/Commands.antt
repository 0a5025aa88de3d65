-- The command line as the parser sees it: four commands, with their arguments.
use Rattle.std.specs.Prelude.{◌≡◌, [], ◌∷◌, Some, true, false, codes}
use Rattle.clap.specs.Walk.{Rule}
use Rattle.clap.specs.Simple.{App, app_of, new_app, new_rule, with_rule, with_subcommand}
use Rattle.clap.specs.declared.builder.action.ArgAction.TheVariants.{SetTrue}
use Rattle.clap.specs.declared.builder.command.Command.{Command}
use Rattle.clap.specs.declared.builder.command.Command.TheViews.{out-Command}

-- FILE, which is required
abbrev pub file_rule : Rule
file_rule = record (new_rule (codes "FILE")) { required = true }

-- `--json`, which takes no value
abbrev pub json_rule : Rule
json_rule = record (new_rule (codes "json")) { long = Some (codes "json"); action = Some SetTrue }

-- `--source`, which takes no value
abbrev pub source_rule : Rule
source_rule = record (new_rule (codes "source")) { long = Some (codes "source"); action = Some SetTrue }

-- `--positions`, which takes no value
abbrev pub positions_rule : Rule
positions_rule = record (new_rule (codes "positions")) { long = Some (codes "positions"); action = Some SetTrue }

-- `--sessions N`, by default 1
abbrev pub sessions_rule : Rule
sessions_rule = record (new_rule (codes "sessions")) { long = Some (codes "sessions"); defaults = codes "1" ∷ [] }

-- `--solver S`, by default `components`
abbrev pub solver_rule : Rule
solver_rule = record (new_rule (codes "solver")) { long = Some (codes "solver"); defaults = codes "components" ∷ [] }

-- `--jobs N`, which has no default
abbrev pub jobs_rule : Rule
jobs_rule = record (new_rule (codes "jobs")) { long = Some (codes "jobs") }

-- `--capacity C`, by default 1000000
abbrev pub capacity_rule : Rule
capacity_rule = record (new_rule (codes "capacity")) { long = Some (codes "capacity"); defaults = codes "1000000" ∷ [] }

-- `check FILE [--json] [--source] [--positions] [--jobs N] [--solver S]`
unfoldable pub check_app : App
check_app = with_rule (with_rule (with_rule (with_rule (with_rule (with_rule (new_app (codes "check")) file_rule) json_rule) source_rule) positions_rule) jobs_rule) solver_rule

-- `run FILE [--json] [--positions] [--sessions N] [--solver S]`
unfoldable pub run_app : App
run_app = with_rule (with_rule (with_rule (with_rule (with_rule (new_app (codes "run")) file_rule) json_rule) positions_rule) sessions_rule) solver_rule

-- `serve [--sessions N] [--capacity C] [--solver S]`
unfoldable pub serve_app : App
serve_app = with_rule (with_rule (with_rule (new_app (codes "serve")) sessions_rule) capacity_rule) solver_rule

-- `print FILE [--positions]`
unfoldable pub print_app : App
print_app = with_rule (with_rule (new_app (codes "print")) file_rule) positions_rule

-- the program without its commands: its own name is not among the words, one of its commands is required, `help` is none, and it alone has
-- a version
unfoldable pub program : App
program =
    let named = new_app (codes "nlldb") in
    record named { top = record named.top { no_binary_name = true; subcommand_required = true; disable_help_subcommand = true; has_version = true } }

-- the program with its commands
unfoldable pub nlldb : App
nlldb = with_subcommand (with_subcommand (with_subcommand (with_subcommand program check_app.top) run_app.top) serve_app.top) print_app.top

-- the parser's command is this one, and hands no argument down to its subcommands
abbrev pub IsCommand : App → Command → Type 0
IsCommand app command = (app_of command ≡ app) × ((out-Command command).has_globals ≡ false)
