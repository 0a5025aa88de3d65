use Rattle.bc_syntax.specs.Universals.{universal_names}
use Rattle.bc_source.proofs.Appending.{one_more}
use Rattle.bc_source.proofs.regions.write_all_named.Goals as goal

pub loop-number-preserved : goal.loop-number-preserved
loop-number-preserved g c =
    one_more c.args.error.now (universal_names c.args.regions.now) c.loop-number.number (g.W.Write.contents c.args.out.now) (g.W.Write.contents c.loop-number.out) (g.W.Write.contents c.write_named.new.out)
    c.loop-number.invariant c.in_ok-write_named.ensures
