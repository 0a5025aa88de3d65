use Rattle.std.proofs.lemmas.List.Folds.{length-prefix_len}
use Rattle.bc_source.specs.Points.{is_no_semicolon}
use Rattle.bc_source.proofs.points.to_semicolon.Goals as goal

pub returns : goal.returns
returns c = rw (c.count_to_semicolon-length.ensures, length-prefix_len is_no_semicolon c.args.bytes.now)
