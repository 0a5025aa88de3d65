use Rattle.std.proofs.lemmas.Result.{on_ok_weaker}
use Rattle.bc_print.proofs.Printings.{writes_angled, writes_no_angled}
use Rattle.bc_print.proofs.tokens.write_angled.Goals as goal

pub returns-then-is_empty : goal.returns-then-is_empty
returns-then-is_empty g c = writes_no_angled (g.T.Spelled.spelling c.args.regions.now) _ c.args.items.now c.if-is_empty.ensures

pub returns : goal.returns
returns g c =
    on_ok_weaker c.write_symbol-2.result (writes_angled (g.T.Spelled.spelling c.args.regions.now) _ _ _ _ c.args.items.now c.if-is_empty.ensures c.in_ok-write_symbol.ensures c.in_ok-write_commas.ensures) c.write_symbol-2.ensures
