use Rattle.std.proofs.Common.{replicate, false}
use Rattle.bc_syntax.specs.Children.{closures_of, closures_of_types, closures_of_blocks}
use Rattle.bc_syntax.proofs.Marks.{marked_both, marked_from_none}
use Rattle.bc_syntax.proofs.syntax.Body.marked_closures.Goals as goal

pub returns : goal.returns
returns c =
    marked_from_none _ (closures_of c.args.self.now)
    (marked_both (replicate 64 false) _ _ (closures_of_types c.args.self.now.lets) (closures_of_blocks c.args.self.now.blocks) (rw c.as_slice.ensures at c.mark_types.ensures) (rw c.as_slice-2.ensures at c.mark_blocks.ensures))
