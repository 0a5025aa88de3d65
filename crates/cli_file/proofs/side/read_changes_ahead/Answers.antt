use Rattle.std.proofs.Common.{List, subst}
use Rattle.cli_file.specs.Parts.{Part}
use Rattle.cli_file.specs.Changes.{GivesChanges}
use Rattle.cli_file.proofs.side.read_changes_ahead.Goals as goal

pub returns : goal.returns
returns g c = subst (λ (parts : List Part). GivesChanges parts c.gather.result) c.in_ok-sections.ensures c.gather.ensures
