-- The sections that an iterator has left.
use Rattle.std.specs.Prelude.{List}
use Rattle.cli_file.specs.declared.section.Section.{Section}
use Rattle.cli_file.specs.declared.section.Sections.{Sections}
use Rattle.cli_file.specs.Parts.{Part, lines_of, sections_from}

-- a section, as contracts see it
abbrev pub part_of : Section → Part
part_of s = record { line = s.line; header = s.header.now; text = s.text.now }

-- the sections that are left
abbrev pub left : Sections → List Part
left s = sections_from s.line (lines_of s.rest.now)
