-- What is returned for the words.
use Rattle.std.proofs.Common.{◌≡◌, ◌∙◌, List, [], ◌∷◌, Option, Some, None, Result, Ok, Err, ap, ap₂, refl, sym, subst, true, false, inl, inr}
use Rattle.std.specs.Prelude.{◌⊎◌, is_some, option_map, Box}
use Rattle.std.specs.Box.{box_value}
use Rattle.clap.specs.Walk.{Row, Text}
use Rattle.clap.specs.Simple.{App, app_of, is_simple, subcommand_of, subcommand_rows}
use Rattle.clap.specs.Kinds.{IsAmong, Kinds}
use Rattle.clap.specs.Faults.{fault_of, is_simple_and_free}
use Rattle.clap.specs.declared.builder.command.Command.{Command}
use Rattle.clap.specs.declared.parser.matches.SubCommand.{SubCommand}
use Rattle.clap.specs.declared.parser.matches.ArgMatches.TheViews.{out-SubCommand}
use Rattle.clap.specs.declared.error.kind.ErrorKind.{ErrorKind}
use Rattle.clap.specs.declared.error.kind.ErrorKind.TheVariants as kinds
use Rattle.clap.proofs.OnLiterals.{clap_on_literals}
use Rattle.cli_line.specs.declared.fault.LineFault.{LineFault}
use Rattle.cli_line.specs.declared.fault.LineFault.TheVariants.{Help, Version, WrongUse, NoMemory}
use Rattle.cli_line.specs.declared.line.Line.{Line}
use Rattle.cli_line.specs.declared.topic.Topic.{Topic}
use Rattle.cli_line.specs.Faults.{fault_of_kind}
use Rattle.cli_line.specs.Commands.{IsCommand, check_app, nlldb, program, print_app, run_app, serve_app}
use Rattle.cli_line.specs.Written.{GivesLine, GivesParts, command_of, faults_of, line_entered, line_given, line_written}
use Rattle.cli_line.specs.Topics.{topic_of}

free : is_simple_and_free nlldb ≡ true
unfolding clap_on_literals nlldb program check_app run_app serve_app print_app
free = refl

simple : is_simple nlldb ≡ true
unfolding clap_on_literals nlldb program check_app run_app serve_app print_app
simple = refl

-- the parser found no fault
pub clean : (command : Command) (words : List Text) → IsCommand nlldb command
    → (is_simple_and_free (app_of command) ≡ true → fault_of (app_of command) words ≡ []) → faults_of words ≡ []
unfolding faults_of
clean command words is none =
    subst (λ (app : App). fault_of app words ≡ []) is.0 (none (ap is_simple_and_free is.0 ∙ free))

-- the parser failed by one of the faults of the words, or ran out of memory
pub fails : (command : Command) (words : List Text) (k : ErrorKind) → IsCommand nlldb command
    → (is_simple_and_free (app_of command) ≡ true → (k ≡ kinds.OutOfMemory) ⊎ IsAmong k (fault_of (app_of command) words))
    → (k ≡ kinds.OutOfMemory) ⊎ IsAmong k (faults_of words)
unfolding faults_of
fails command words k is why =
    subst (λ (app : App). (k ≡ kinds.OutOfMemory) ⊎ IsAmong k (fault_of app words)) is.0 (why (ap is_simple_and_free is.0 ∙ free))

-- the command that the parse entered is that of the words
pub enters : {P : Type 0} (command : Command) (words : List Text) (entered : Option (Text × List Row)) → IsCommand nlldb command
    → (is_simple (app_of command) ≡ true → P × (entered ≡ subcommand_of (app_of command) words)) → entered ≡ command_of words
unfolding command_of
enters command words entered is matches =
    (matches (ap is_simple is.0 ∙ simple)).1 ∙ ap (λ (app : App). subcommand_of app words) is.0

none_among : (words : List Text) (k : ErrorKind) → IsAmong k (faults_of words) → line_written words ≡ None
unfolding line_written
none_among words k among = go (faults_of words) among
  where
    go : (faults : Kinds) → IsAmong k faults → line_entered faults (command_of words) ≡ None
    go [] h = absurd h
    go (x ∷ xs) h = refl

only_one : (words : List Text) (k one : ErrorKind) → (k ≡ one → ⊥) → IsAmong k (faults_of words) → faults_of words ≡ one ∷ [] → ⊥
only_one words k one other among only = elim (subst (IsAmong k) only among) [
  | inl is ↦ other is
  | inr never ↦ never
]

wrong : (words : List Text) (k : ErrorKind) → (k ≡ kinds.DisplayHelp → ⊥) → (k ≡ kinds.DisplayVersion → ⊥) → IsAmong k (faults_of words)
    → GivesLine words (Err WrongUse)
wrong words k no_help no_version among = (
  none_among words k among,
  only_one words k kinds.DisplayHelp no_help among,
  only_one words k kinds.DisplayVersion no_version among,
)

of_kind : (words : List Text) (topic : Topic) (k : ErrorKind) → topic ≡ topic_of words → IsAmong k (faults_of words)
    → GivesLine words (Err (fault_of_kind topic k))
of_kind words topic kinds.DisplayHelp is h = (h, is)
of_kind words topic kinds.DisplayVersion is h = h
of_kind words topic kinds.OutOfMemory is h = tt
of_kind words topic kinds.InvalidValue is h = wrong words kinds.InvalidValue (λ e. absurd cc) (λ e. absurd cc) h
of_kind words topic kinds.UnknownArgument is h = wrong words kinds.UnknownArgument (λ e. absurd cc) (λ e. absurd cc) h
of_kind words topic kinds.InvalidSubcommand is h = wrong words kinds.InvalidSubcommand (λ e. absurd cc) (λ e. absurd cc) h
of_kind words topic kinds.NoEquals is h = wrong words kinds.NoEquals (λ e. absurd cc) (λ e. absurd cc) h
of_kind words topic kinds.ValueValidation is h = wrong words kinds.ValueValidation (λ e. absurd cc) (λ e. absurd cc) h
of_kind words topic kinds.TooManyValues is h = wrong words kinds.TooManyValues (λ e. absurd cc) (λ e. absurd cc) h
of_kind words topic kinds.TooFewValues is h = wrong words kinds.TooFewValues (λ e. absurd cc) (λ e. absurd cc) h
of_kind words topic kinds.WrongNumberOfValues is h = wrong words kinds.WrongNumberOfValues (λ e. absurd cc) (λ e. absurd cc) h
of_kind words topic kinds.ArgumentConflict is h = wrong words kinds.ArgumentConflict (λ e. absurd cc) (λ e. absurd cc) h
of_kind words topic kinds.MissingRequiredArgument is h = wrong words kinds.MissingRequiredArgument (λ e. absurd cc) (λ e. absurd cc) h
of_kind words topic kinds.MissingSubcommand is h = wrong words kinds.MissingSubcommand (λ e. absurd cc) (λ e. absurd cc) h
of_kind words topic kinds.DisplayHelpOnMissingArgumentOrSubcommand is h = wrong words kinds.DisplayHelpOnMissingArgumentOrSubcommand (λ e. absurd cc) (λ e. absurd cc) h
of_kind words topic kinds.Io is h = wrong words kinds.Io (λ e. absurd cc) (λ e. absurd cc) h
of_kind words topic kinds.Format is h = wrong words kinds.Format (λ e. absurd cc) (λ e. absurd cc) h

-- the parse refused the words
pub refused : (words : List Text) (topic : Topic) (k : ErrorKind) (fault : LineFault) → (k ≡ kinds.OutOfMemory) ⊎ IsAmong k (faults_of words)
    → topic ≡ topic_of words → fault ≡ fault_of_kind topic k → GivesLine words (Err fault)
refused words topic k fault why on is =
    subst (λ (fault : LineFault). GivesLine words (Err fault)) (sym is) (elim why [
      | inl e ↦ subst (λ (kind : ErrorKind). GivesLine words (Err (fault_of_kind topic kind))) (sym e) tt
      | inr h ↦ of_kind words topic k on h
    ])

-- the command that was entered is read
pub given : (words : List Text) (entered : Text × List Row) (r : Result Line LineFault) → faults_of words ≡ [] → Some entered ≡ command_of words
    → GivesParts (line_given entered) r → GivesLine words r
unfolding line_written
given words entered (Ok line) clean is h = ap₂ line_entered clean (sym is) ∙ h
given words entered (Err WrongUse) clean is h = (ap₂ line_entered clean (sym is) ∙ h, (λ only. absurd cc), (λ only. absurd cc))
given words entered (Err (Help topic)) clean is h = absurd h
given words entered (Err Version) clean is h = absurd h
given words entered (Err NoMemory) clean is h = tt

-- no command was entered
pub not_given : (words : List Text) → faults_of words ≡ [] → None ≡ command_of words → GivesLine words (Err WrongUse)
unfolding line_written
not_given words clean is = (ap₂ line_entered clean (sym is), (λ only. absurd cc), (λ only. absurd cc))

module _ {Z : Type 0} where
  -- a command that was entered, by its name and its arguments
  pub entered_rows : (o : Option (Box SubCommand Z)) (name : Text) (rows : List Row)
      → Some name ≡ option_map (λ b. (out-SubCommand (box_value b)).name.now) o
      → Some rows ≡ option_map (λ p. p.1) (subcommand_rows o)
      → Some (name, rows) ≡ subcommand_rows o
  entered_rows None name rows e f = absurd cc
  entered_rows (Some b) name rows e f = cc

  pub no_rows : (o : Option (Box SubCommand Z)) → false ≡ is_some o → None ≡ subcommand_rows o
  no_rows None e = refl
  no_rows (Some b) e = absurd cc
