use Rattle.cli_output.proofs.Moves.{admits}
use Rattle.cli_output.proofs.token.make_author.Goals as goal

pub split_seat-requires : goal.split_seat-requires
split_seat-requires c = (c.requires.tables, c.requires.words, admits c.args.maker.now.id c.args.maker.now.me.0 c.requires.makes.0)
