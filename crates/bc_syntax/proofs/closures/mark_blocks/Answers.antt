use Rattle.bc_syntax.specs.declared.syntax.Block.{Block}
use Rattle.bc_syntax.specs.Children.{closures_of_statements}
use Rattle.bc_syntax.proofs.Marks.{marked_one_more}
use Rattle.bc_syntax.proofs.closures.mark_blocks.Goals as goal

pub loop-block-preserved : goal.loop-block-preserved
loop-block-preserved c =
    let x = c.block-item.result in
    marked_one_more (λ (block : Block). closures_of_statements block.statements) _ _ _ c.args.blocks.now c.loop-block.block-index x x c.loop-block-test.true c.block-item.is c.loop-block.invariant (rw c.as_slice.ensures at c.mark_statements.ensures)
