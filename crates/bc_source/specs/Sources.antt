-- Texts of units under their names, and the units that they spell.
use Rattle.std.specs.Prelude.{ℕ, Bool, List, reverse, Option, Some, None, Result, Ok, Err}
use Rattle.std.specs.List.{find}
use Rattle.std.specs.Option.{option_and_then}
use Rattle.bc_syntax.specs.declared.syntax.Body.{Body}
use Rattle.bc_text.specs.declared.fault.ReadFault.{ReadFault}
use Rattle.bc_names.specs.Names.{NameParts, is_same_name}
use Rattle.bc_text.specs.Reading.{read}

-- the text of a unit in a file: its name, the number of lines of the file before it, and its bytes
pub record SourceParts : Type 0 where
  pub name : NameParts
  pub line : ℕ
  pub text : List ℕ

-- a text, with the number of lines of the file before it and the unit that it spells
pub record UnitParts : Type 0 where
  pub line : ℕ
  pub text : List ℕ
  pub unit : Body

-- the text has this name
abbrev pub is_of : NameParts → SourceParts → Bool
is_of name source = is_same_name source.name name

-- the last text of a name: the stored one, since a check removes nothing, and a put that is full is of a name that is never stored
abbrev pub last_of : NameParts → List SourceParts → Option SourceParts
last_of name sources = find (is_of name) (reverse sources)

-- a text with the unit that was read from it, if the reading succeeded
abbrev pub read_as : SourceParts → Result Body ReadFault → Option UnitParts
read_as source (Ok unit) = Some (record { line = source.line; text = source.text; unit = unit })
read_as source (Err fault) = None

-- the unit that a text spells, if it spells one
abbrev pub unit_of : SourceParts → Option UnitParts
unit_of source = read_as source (read source.text)

-- the unit that the last text of a name spells
abbrev pub unit_under : List SourceParts → NameParts → Option UnitParts
unit_under sources name = option_and_then unit_of (last_of name sources)
