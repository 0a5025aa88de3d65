use Rattle.std.proofs.Common.{arith}
use Rattle.std.proofs.lemmas.List.{drop_all}
use Rattle.bc_position.proofs.Lines.{first_lines_none, count_end, count_on}
use Rattle.bc_position.proofs.position.count_first_lines.Goals.{then-byte-eq10, else-byte-eq10}
use Rattle.bc_position.proofs.position.count_first_lines.Goals as goal

pub loop-i-preserved : goal.loop-i-preserved
loop-i-preserved c = elim c.if-byte-eq10.branch [
  | then-byte-eq10 w ↦ count_end c.args.text.now c.loop-i.i c.loop-i.left _ _ c.loop-i-test.true c.if-left-eq0.false w.if-byte-eq10.true w.left-is c.loop-i.invariant
  | else-byte-eq10 w ↦ count_on c.args.text.now c.loop-i.i c.loop-i.left _ _ c.loop-i-test.true c.if-left-eq0.false w.if-byte-eq10.false w.left-is c.loop-i.invariant
]

pub returns-clause-value : goal.returns-clause-value
returns-clause-value c = grind (arith, drop_all, first_lines_none)
