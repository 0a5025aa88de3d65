use Rattle.std.proofs.Common.{◌≡◌, ◌++◌, map, drop}
use Rattle.cli_file.specs.Parts.{sections_of}
use Rattle.cli_file.specs.Left.{left}
use Rattle.cli_file.specs.Changes.{seen}
use Rattle.cli_check.specs.Forms.{sources_of}
use Rattle.cli_check.proofs.form.find_sources.Given as goal

abbrev pub invariant-loop-change : goal.invariant-loop-change
invariant-loop-change l =
    l.sources ++ sources_of (left l.sections) (map seen (drop l.change-index l.changes)) ≡ sources_of (sections_of l.file) (map seen l.changes)
