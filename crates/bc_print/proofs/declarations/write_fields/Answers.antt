use Rattle.bc_syntax.specs.declared.symbol.Symbol.TheVariants as s
use Rattle.bc_syntax.specs.Spelling as spell
use Rattle.bc_print.proofs.Printings.{writes_both, writes_one_more}
use Rattle.bc_print.proofs.declarations.write_fields.Goals as goal

pub loop-field-preserved : goal.loop-field-preserved
loop-field-preserved g c =
    let x = c.field-item.result in
    writes_one_more (spell.field c.args.regions.now) _ _ _ c.args.fields.now c.loop-field.field-index x x c.loop-field-test.true c.field-item.is c.loop-field.invariant
    (writes_both _ _ _ (spell.ty c.args.regions.now x) (spell.symbol s.Semicolon) c.in_ok-write_ty.ensures c.in_ok-write_symbol.ensures)
