use Rattle.std.specs.Prelude.{Vec}
use Rattle.std.specs.declared.alloc.Global.{Global}
use Rattle.cli_file.specs.Parts.{sections_of}
use Rattle.cli_file.proofs.Locating.{located_answers}
use Rattle.cli_run.specs.declared.file.SessionCall.{SessionCall}
use Rattle.cli_run.specs.Calls.{GiveAll, Gives, Takes}
use Rattle.cli_run.proofs.file.read_told_calls.Goals as goal

pub returns-in-Err : goal.returns-in-Err
returns-in-Err c =
    rw c.locate.ensures (located_answers (λ (list : Vec SessionCall Global). GiveAll c.args.sessions (sections_of c.args.file.now) list.items) (Gives c.args.sessions) (Takes c.args.sessions) (sections_of c.args.file.now) c.args.positions c.args.file.now c.in-Err.stop c.in-Err.ensures)
