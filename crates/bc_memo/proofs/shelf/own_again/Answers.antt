use Rattle.std.proofs.Common.{◌++◌, sym, ap, ◌∙◌, append-nil, arith}
use Rattle.std.proofs.lemmas.List.{drop_all}
use Rattle.std.proofs.lemmas.Grind.{common_steps}
use Rattle.bc_memo.proofs.shelf.own_again.Goals as goal

pub loop-row-preserved : goal.loop-row-preserved
loop-row-preserved c = record { rows = grind (arith, common_steps); memory = grind (arith, common_steps) }

pub returns-clause-rows : goal.returns-clause-rows
returns-clause-rows c = sym (append-nil _) ∙ ap (λ l. c.loop-row.ready.items ++ l) (sym (drop_all c.loop-row.row-index c.args.rows.now c.loop-row-test.false)) ∙ c.loop-row.invariant.rows
