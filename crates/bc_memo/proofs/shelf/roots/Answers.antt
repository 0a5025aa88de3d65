use Rattle.std.proofs.Common.{◌++◌, sym, ap, ◌∙◌, append-nil, arith}
use Rattle.std.proofs.lemmas.List.{at_drop_all}
use Rattle.std.proofs.lemmas.Grind.{common_steps}
use Rattle.bc_memo.specs.Places.{roots_in}
use Rattle.bc_memo.proofs.shelf.roots.Goals as goal

pub loop-row-preserved : goal.loop-row-preserved
loop-row-preserved c = grind (arith, common_steps)

pub returns : goal.returns
returns c = sym (append-nil _) ∙ ap (λ l. c.loop-row.names.items ++ l) (sym (at_drop_all roots_in c.args.places.now c.loop-row.row-index c.loop-row-test.false)) ∙ c.loop-row.invariant
