use Rattle.std.proofs.Common.{◌∙◌}
use Rattle.cli_output.proofs.Moves.{takes_in, learns}
use Rattle.cli_output.proofs.token.learn_texts.Goals as goal

pub join_seat-requires : goal.join_seat-requires
join_seat-requires c =
    (c.requires.tables.0, c.requires.tables.1, c.requires.writes.1, c.requires.words, takes_in c.args.keeper.now.id c.args.keeper.now.me.0 c.args.token.id c.args.token.me.0 c.requires.writes.0)

pub load-requires : goal.load-requires
load-requires c = (c.join_seat.ensures.0 ∙ c.requires.tables.0, c.requires.words, learns c.args.table.now.shared.table_id.slots c.join_seat.new.seat.id c.join_seat.new.seat.me 0)
