use Rattle.bc_text.specs.Reading.{read}
use Rattle.cli_file.specs.Left.{part_of}
use Rattle.cli_file.proofs.Reading.{unread}
use Rattle.cli_file.proofs.file.read_body.Goals as goal

pub returns-in-Err : goal.returns-in-Err
returns-in-Err c = rw c.text_stop.ensures (unread (read c.args.section.now.text.now) (part_of c.args.section.now) c.in-Err.fault c.in-Err.ensures.exact)
