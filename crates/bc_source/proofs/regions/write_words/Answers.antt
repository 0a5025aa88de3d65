use Rattle.std.proofs.Common.{codes}
use Rattle.bc_source.specs.Regions.{regions_text}
use Rattle.bc_source.proofs.Appending.{then_added}
use Rattle.bc_source.proofs.regions.write_words.Goals as goal

pub returns : goal.returns
returns g c =
    then_added (g.W.Write.contents c.args.out.now) (g.W.Write.contents c.write_bytes.new.out) (g.W.Write.contents c.write_all_named.new.out) (codes "    regions") (regions_text c.args.regions.now c.args.error.now) c.write_all_named.result
    c.in_ok-write_bytes.ensures c.write_all_named.ensures
