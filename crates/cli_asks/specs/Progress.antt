-- How far an ask is.
use Rattle.std.specs.Prelude.{◌≡◌}
use Rattle.bc_names.specs.Names.{NameParts}
use Rattle.cli_asks.specs.declared.ask.AskProgress.{AskProgress}
use Rattle.cli_asks.specs.declared.ask.AskProgress.TheVariants.{Begun, Worked, Refused}

-- what was begun, or the work on it, is of this name
abbrev pub IsProgressOf : NameParts → AskProgress → Type 0
IsProgressOf name (Begun begun) = begun.root ≡ name
IsProgressOf name (Worked work) = work.snapshot.root ≡ name
IsProgressOf name Refused = Unit {0}
