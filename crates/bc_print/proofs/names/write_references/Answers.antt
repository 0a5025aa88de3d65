use Rattle.std.proofs.Common.{get_or, refl}
use Rattle.bc_syntax.specs.declared.symbol.Symbol.TheVariants as s
use Rattle.bc_syntax.specs.declared.syntax.Reference.{Reference}
use Rattle.bc_syntax.specs.declared.syntax.Region.TheVariants.{Universal}
use Rattle.bc_syntax.specs.declared.syntax.Mutability.TheVariants.{Shared}
use Rattle.bc_syntax.specs.Spelling as spell
use Rattle.bc_print.proofs.Printings.{writes_both, writes_one_more}
use Rattle.bc_print.proofs.names.write_references.Goals as goal

none : Reference
none = record { region = Universal 0; mutability = Shared }

pub loop-reference-preserved : goal.loop-reference-preserved
unfolding none
loop-reference-preserved g c =
    let at = c.loop-reference.reference-index in
    let x = get_or c.args.references.now at none in
    writes_one_more (spell.behind c.args.regions.now) _ _ _ c.args.references.now at none x c.loop-reference-test.true refl c.loop-reference.invariant
    (writes_both _ _ _ (spell.symbol s.Ampersand) (spell.reference c.args.regions.now x) c.in_ok-write_symbol.ensures c.in_ok-write_reference.ensures)
