use Rattle.std.proofs.Common.{refl, arith}
use Rattle.std.proofs.lemmas.Grind.{common_steps}
use Rattle.bc_types.proofs.Appending.{appended-all}
use Rattle.bc_prov.proofs.pieces.share_pieces.Goals as goal

pub loop-entry-preserved : goal.loop-entry-preserved
loop-entry-preserved c = grind (arith, common_steps)

pub returns : goal.returns
returns c = appended-all (λ l. l) _ _ c.args.pieces.now c.loop-entry.entry-index c.loop-entry-test.false refl c.loop-entry.invariant
