-- What the parser gets of the commands.
use Rattle.std.proofs.Common.{◌≡◌, ◌∙◌, ℕ, List, Some, ap, ap₂, codes, true, false}
use Rattle.std.specs.Prelude.{◌||◌}
use Rattle.std.specs.Borrow.{Bor}
use Rattle.clap.specs.Walk.{Rule, rule_of}
use Rattle.clap.specs.Simple.{App, app_of_fields, new_app, with_rule, with_subcommand}
use Rattle.clap.specs.Built.{AddsArg, AddsSubcommand}
use Rattle.clap.specs.declared.builder.arg.Arg.{Arg}
use Rattle.clap.specs.declared.builder.command.Command.{Command}
use Rattle.clap.specs.declared.builder.command.Command.TheViews.{out-Command}
use Rattle.clap.specs.declared.builder.command.Command.TheOpen.{Command-F}
use Rattle.cli_line.specs.Commands.{IsCommand, program}

-- one more argument, which is not handed down
pub argument_told : (old new : Command) (a : Arg) (app : App) (rule : Rule) → IsCommand app old → AddsArg old a new → rule_of a ≡ rule → a.global ≡ false
    → IsCommand (with_rule app rule) new
argument_told old new a app rule is added rule_is local =
    (added.shape local ∙ ap₂ with_rule is.0 rule_is, added.globals ∙ (ap (λ b. b || a.global) is.1 ∙ ap (λ b. false || b) local))

-- one more command
pub command_told : (old sub new : Command) (app below : App) → IsCommand app old → IsCommand below sub → AddsSubcommand old sub new
    → IsCommand (with_subcommand app below.top) new
command_told old sub new app below is sub_is added = (
  added.shape sub_is.1 ∙ ap₂ with_subcommand is.0 (ap (λ (a : App). a.top) sub_is.0),
  added.globals ∙ (ap (λ b. b || (out-Command sub).has_globals) is.1 ∙ ap (λ b. false || b) sub_is.1),
)

-- the program, before it has commands
pub program_told : (start a b c d : Command) (text : Bor (List ℕ)) → IsCommand (new_app (codes "nlldb")) start
    → out-Command a ≡ record (out-Command start) { no_binary_name = true }
    → out-Command b ≡ record (out-Command a) { subcommand_required = true }
    → out-Command c ≡ record (out-Command b) { disable_help_subcommand = true }
    → out-Command d ≡ record (out-Command c) { version = Some text }
    → IsCommand program d
unfolding program
program_told start a b c d text is named needed plain dated = (
  ap app_of_fields dated
      ∙ (ap (λ (f : Command-F Command). app_of_fields (record f { version = Some text })) plain
      ∙ (ap (λ (f : Command-F Command). app_of_fields (record (record f { disable_help_subcommand = true }) { version = Some text })) needed
      ∙ (ap (λ (f : Command-F Command). app_of_fields (record (record (record f { subcommand_required = true }) { disable_help_subcommand = true }) { version = Some text })) named
      ∙ ap (λ (s : App). record s { top = record s.top { no_binary_name = true; subcommand_required = true; disable_help_subcommand = true; has_version = true } }) is.0))),
  ap (λ (f : Command-F Command). f.has_globals) dated
      ∙ (ap (λ (f : Command-F Command). f.has_globals) plain
      ∙ (ap (λ (f : Command-F Command). f.has_globals) needed ∙ (ap (λ (f : Command-F Command). f.has_globals) named ∙ is.1))),
)
