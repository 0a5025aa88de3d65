use Rattle.cli_output.proofs.Moves.{leaves}
use Rattle.cli_output.proofs.token.leave_maker.Goals as goal

pub split_seat-requires : goal.split_seat-requires
split_seat-requires c = (c.requires.tables, c.requires.words, leaves c.args.first.now.id c.args.first.now.me.0 c.requires.both.0 c.requires.both.1)
