-- The forms in which the answers of a file are printed.
use Rattle.std.specs.Prelude.{ℕ, Bool, true, false, not, ◌&&◌, ◌||◌, ◌==◌, nat_lt, List, [], ◌∷◌, ◌++◌, length, if◌then◌else◌}
use Rattle.bc_syntax.specs.declared.syntax.Body.{Body}
use Rattle.bc_syntax.specs.declared.syntax.UnitKind.{UnitKind}
use Rattle.bc_syntax.specs.declared.syntax.UnitKind.TheVariants.{Function, Closure}
use Rattle.bc_syntax.specs.Children.{children_of}
use Rattle.bc_names.specs.Names.{NameParts}
use Rattle.bc_calls.specs.declared.call.Call.{Call}
use Rattle.bc_calls.specs.declared.call.Call.TheVariants.{Types, Put, Remove, Ask, All as EveryRoot}
use Rattle.cli_line.specs.Parts.{CheckParts}
use Rattle.bc_source.specs.Sources.{SourceParts}
use Rattle.cli_file.specs.Parts.{Part}
use Rattle.cli_check.specs.declared.form.Form.{Form}
use Rattle.cli_check.specs.declared.form.Form.TheVariants.{Text, Json, Sourced}

-- the text of a section, under this name
abbrev pub source_of : Part → NameParts → SourceParts
source_of section name = record { name = name; line = section.line; text = section.text }

-- a unit of this kind may have this name
abbrev pub suits_kind : UnitKind → NameParts → Bool
suits_kind Function name = length name.segments == 0
suits_kind Closure name = not (length name.segments == 0)

-- a unit suits this name; a put of one that does not stores nothing, whatever is stored
abbrev pub does_suit : Body → NameParts → Bool
does_suit body name = suits_kind body.header.kind name && (length (children_of body) == 0 || nat_lt (length name.segments) 7)

-- the text of a section, if the call that it makes puts a unit that suits its name
abbrev pub source_put : Part → Call → List SourceParts
source_put section (Types types) = []
source_put section (Put name body) = if does_suit body name then source_of section name ∷ [] else []
source_put section (Remove name) = []
source_put section (Ask name) = []
source_put section EveryRoot = []

-- the texts of sections that make these calls, one each, if their units suit their names
abbrev pub sources_of : List Part → List Call → List SourceParts
sources_of [] made = []
sources_of (section ∷ sections) [] = []
sources_of (section ∷ sections) (call ∷ made) = source_put section call ++ sources_of sections made

-- the form for which the line asks: JSON, text with sources, or text alone
abbrev pub form_of : CheckParts → List Part → List Call → Form
form_of line sections made = if line.json then Json else if line.source then Sourced (sources_of sections made) else Text
