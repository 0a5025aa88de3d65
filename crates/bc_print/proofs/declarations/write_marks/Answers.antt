use Rattle.std.proofs.Common.{◌≡◌, ◌≤◌, ◌<◌, length, get_or, List, sym, ap, ◌∙◌, subst, arith}
use Rattle.std.specs.List.{zip}
use Rattle.bc_syntax.specs.declared.syntax.Variance.{Variance}
use Rattle.bc_syntax.specs.declared.syntax.Variance.TheVariants.{Covariant}
use Rattle.bc_syntax.specs.declared.syntax.RegionName.{RegionName}
use Rattle.bc_print.specs.Printing.{Writes}
use Rattle.bc_syntax.specs.Spelling as spell
use Rattle.bc_print.proofs.Printings.{writes_both, writes_listed, zipped_at, zipped_length, taken_whole}
use Rattle.bc_print.proofs.declarations.write_marks.Goals as goal

pub loop-index-preserved : goal.loop-index-preserved
loop-index-preserved g c =
    let variances = c.args.variances.now in
    let names = c.args.names.now in
    let at = c.loop-index.index in
    let name = c.index-names-index.result in
    let variance = get_or variances at Covariant in
    let some : at < length (zip variances names) = omega (arith, c.loop-index-test.true, zipped_length variances names c.requires) in
    let few : at < length variances = omega (arith, c.loop-index-test.true, c.requires) in
    let pair : (variance, name) ≡ get_or (zip variances names) at (Covariant, name) =
    ap (λ (n : RegionName). (variance, n)) c.index-names-index.is ∙ sym (zipped_at variances names at Covariant name few c.requires) in
    writes_listed spell.mark _ _ _ _ (zip variances names) at (Covariant, name) (variance, name) some pair c.loop-index.invariant c.in_ok-write_comma_before.ensures
    (writes_both _ _ _ (spell.variance variance) (spell.region_name name) c.in_ok-write_variance.ensures (rw c.as_slice.ensures at c.in_ok-write_named.ensures))

pub returns : goal.returns
returns g c =
    let pairs = zip c.args.variances.now c.args.names.now in
    let past : length pairs ≤ c.loop-index.index = omega (arith, c.loop-index-test.false, zipped_length c.args.variances.now c.args.names.now c.requires) in
    subst (λ (l : List (Variance × RegionName)). Writes (g.W.Write.contents c.args.out.now) (g.W.Write.contents c.loop-index.out) (spell.commas spell.mark l)) (taken_whole c.loop-index.index pairs past) c.loop-index.invariant
