use Rattle.std.proofs.Common.{sym, subst}
use Rattle.bc_places.proofs.Ending.{Ends, ends}
use Rattle.bc_places.proofs.walk.noted_places.Goals as goal

pub loop-cursor-init : goal.loop-cursor-init
loop-cursor-init c = record {
  ends = subst Ends (sym c.new-cursor.ensures) (ends 0 0 c.args.text.now);
  noted = cc;
}
