use Rattle.std.proofs.Common.{◌++◌}
use Rattle.bc_syntax.specs.Spelling as spell
use Rattle.bc_syntax.specs.declared.symbol.Symbol.TheVariants as s
use Rattle.bc_print.proofs.Printings.{writes_nothing, writes_both, writes_one_more}
use Rattle.bc_print.proofs.tokens.write_next.Goals as goal

pub loop-item-init : goal.loop-item-init
loop-item-init g c = writes_nothing (g.W.Write.contents c.args.out.now)

pub loop-item-preserved : goal.loop-item-preserved
loop-item-preserved g c =
    let item = g.T.Spelled.spelling c.args.regions.now in
    writes_one_more (λ y. spell.symbol s.Comma ++ item y) _ _ _ c.args.items.now c.loop-item.item-index c.item-item.result c.item-item.result c.loop-item-test.true c.item-item.is c.loop-item.invariant
    (writes_both _ _ _ (spell.symbol s.Comma) (item c.item-item.result) c.in_ok-write_symbol.ensures c.in_ok-write_tokens.ensures)
