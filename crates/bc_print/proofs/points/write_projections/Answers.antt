use Rattle.std.proofs.Common.{get_or, refl}
use Rattle.bc_syntax.specs.declared.symbol.Symbol.TheVariants as s
use Rattle.bc_syntax.specs.declared.syntax.Projection.TheVariants.{Deref}
use Rattle.bc_syntax.specs.Spelling as spell
use Rattle.bc_print.proofs.Printings.{writes_both, writes_one_more}
use Rattle.bc_print.proofs.points.write_projections.Goals as goal

pub loop-projection-preserved : goal.loop-projection-preserved
loop-projection-preserved g c =
    let at = c.loop-projection.projection-index in
    let x = get_or c.args.projections.now at Deref in
    writes_one_more spell.step _ _ _ c.args.projections.now at Deref x c.loop-projection-test.true refl c.loop-projection.invariant
    (writes_both _ _ _ (spell.symbol s.Dot) (spell.projection x) c.in_ok-write_symbol.ensures c.in_ok-write_projection.ensures)
