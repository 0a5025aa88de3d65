use Rattle.std.proofs.Common.{◌++◌}
use Rattle.std.proofs.lemmas.Result.{on_ok_weaker}
use Rattle.bc_syntax.specs.declared.symbol.Symbol.TheVariants as s
use Rattle.bc_syntax.specs.Locals.{first_let}
use Rattle.bc_syntax.specs.Spelling as spell
use Rattle.bc_print.proofs.Printings.{writes_both}
use Rattle.bc_print.proofs.units.write_body.Goals as goal

pub returns : goal.returns
returns g c =
    let regions = c.args.body.now.header.signature.regions in
    let opening = spell.symbol s.OpenBrace in
    let lets = spell.lets regions (first_let c.args.body.now.header) c.args.body.now.lets in
    let blocks = spell.blocks regions 0 c.args.body.now.blocks in
    let closing = spell.symbol s.CloseBrace in
    on_ok_weaker c.write_symbol-2.result
    (λ done. writes_both _ _ _ opening (lets ++ (blocks ++ closing)) c.in_ok-write_symbol.ensures
    (writes_both _ _ _ lets (blocks ++ closing) (rw (c.as_slice-regions.ensures, c.first_let-first_let.ensures, c.as_slice.ensures) at c.in_ok-write_lets.ensures)
    (writes_both _ _ _ blocks closing (rw (c.as_slice-regions.ensures, c.as_slice-2.ensures) at c.in_ok-write_blocks.ensures) done)))
    c.write_symbol-2.ensures
