use Rattle.bc_syntax.specs.Children.{closures_of_statement}
use Rattle.bc_syntax.proofs.Marks.{marked_one_more}
use Rattle.bc_syntax.proofs.closures.mark_statements.Goals as goal

pub loop-statement-preserved : goal.loop-statement-preserved
loop-statement-preserved c =
    let x = c.statement-item.result in
    marked_one_more closures_of_statement _ _ _ c.args.statements.now c.loop-statement.statement-index x x c.loop-statement-test.true c.statement-item.is c.loop-statement.invariant c.mark_statement.ensures
