use Rattle.bc_text.specs.Reading.{read_types}
use Rattle.cli_file.specs.Left.{part_of}
use Rattle.cli_file.proofs.Reading.{unread}
use Rattle.cli_file.proofs.file.read_declarations.Goals as goal

pub returns-in-Err : goal.returns-in-Err
returns-in-Err c = rw c.text_stop.ensures (unread (read_types c.args.section.now.text.now) (part_of c.args.section.now) c.in-Err.fault c.in-Err.ensures.exact)
