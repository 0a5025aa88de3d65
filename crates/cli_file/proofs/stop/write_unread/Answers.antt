use Rattle.std.specs.Prelude.{codes, map}
use Rattle.std.proofs.KnownBytes.{Appends-trans}
use Rattle.std.proofs.lemmas.Result.{on_ok_weaker}
use Rattle.cli_file.specs.OneLine.{in_one_line}
use Rattle.cli_file.proofs.stop.write_unread.Goals as goal

pub returns : goal.returns
returns g c =
    on_ok_weaker c.write_all-2.result
    (Appends-trans _ _ _ _ (codes "\n") (Appends-trans _ _ _ (codes "cannot read ") (map in_one_line c.args.file.now) c.in_ok-write_all.ensures.bytes c.in_ok-write_in_one_line.ensures))
    c.write_all-2.ensures.bytes
