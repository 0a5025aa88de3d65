use Rattle.std.proofs.Common.{map}
use Rattle.cli_file.specs.Parts.{sections_of}
use Rattle.cli_file.specs.Changes.{MakeAll, Makes, Takes, seen}
use Rattle.cli_file.specs.declared.file.FileChange.{FileChange}
use Rattle.std.specs.Prelude.{Vec}
use Rattle.std.specs.declared.alloc.Global.{Global}
use Rattle.cli_file.proofs.Locating.{located_answers}
use Rattle.cli_file.proofs.side.read_changes_by.Goals as goal

pub returns-in-Err : goal.returns-in-Err
returns-in-Err g c =
    rw c.locate.ensures (located_answers (λ (list : Vec FileChange Global). MakeAll (sections_of c.args.file.now) (map seen list.items)) Makes Takes (sections_of c.args.file.now) c.args.positions c.args.file.now c.in-Err.stop c.in-Err.ensures)
