use Rattle.std.proofs.Common.{◌≡◌, true, ap, ◌∙◌}
use Rattle.cli_output.proofs.Moves.{hands_on, takes_in, wrote}
use Rattle.cli_output.proofs.token.write.Goals as goal

pub split_seat-mine-requires : goal.split_seat-mine-requires
split_seat-mine-requires g c = (c.requires.tables.1, c.requires.words, hands_on c.args.token.now.id c.args.token.now.me.0 c.requires.writes.0 c.requires.writes.1 c.requires.writes.2)

pub join_seat-requires : goal.join_seat-requires
join_seat-requires g c =
    let mine = c.split_seat-mine.ensures in
    let wrote_it : c.split_seat-mine.result.me.0.writes ≡ true = ap (λ m. m.0.writes) mine.4 ∙ c.requires.writes.2 in
    (c.requires.tables.0, mine.3 ∙ c.requires.tables.1, ap (λ m. m.1) mine.4, c.requires.words, takes_in c.args.keeper.now.id c.args.keeper.now.me.0 c.split_seat-mine.result.id c.split_seat-mine.result.me.0 wrote_it)

pub split_seat-requires : goal.split_seat-requires
split_seat-requires g c =
    let mine = c.split_seat-mine.ensures in
    let both = c.join_seat.ensures in
    let knows : c.join_seat.new.seat.me.0.keeps ≡ true = ap (λ m. m.0.keeps) both.2 ∙ c.requires.keeps.0 in
    let writes : c.join_seat.new.seat.me.0.writes ≡ true = ap (λ m. m.0.writes) both.2 ∙ ap (λ m. m.0.writes) mine.4 ∙ c.requires.writes.2 in
    (both.0 ∙ c.requires.tables.0, c.requires.words, wrote c.join_seat.new.seat.id c.join_seat.new.seat.me.0 g.X.Text.text knows writes)
