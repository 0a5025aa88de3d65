use Rattle.bc_syntax.specs.declared.symbol.Symbol.TheVariants as s
use Rattle.bc_syntax.specs.Spelling as spell
use Rattle.bc_print.proofs.Printings.{taken_whole, writes_both, writes_one_more}
use Rattle.bc_print.proofs.points.write_lines.Goals as goal

pub loop-statement-preserved : goal.loop-statement-preserved
loop-statement-preserved g c =
    let x = c.statement-item.result in
    writes_one_more (spell.line c.args.regions.now) _ _ _ c.args.statements.now c.loop-statement.statement-index x x c.loop-statement-test.true c.statement-item.is c.loop-statement.invariant
    (writes_both _ _ _ (spell.statement c.args.regions.now x) (spell.symbol s.Semicolon) c.in_ok-write_statement.ensures c.in_ok-write_symbol.ensures)

pub returns : goal.returns
returns g c = rw (taken_whole _ _ c.loop-statement-test.false) at c.loop-statement.invariant
