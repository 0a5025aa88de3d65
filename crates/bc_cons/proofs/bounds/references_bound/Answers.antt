use Rattle.std.proofs.Common.{List, sym, ◌∙◌, arith}
use Rattle.std.proofs.lemmas.List.{at_drop_more, at_drop_all}
use Rattle.bc_syntax.specs.declared.syntax.Reference.{Reference}
use Rattle.bc_types.specs.Mentions.{regions_of_references}
use Rattle.bc_cons.specs.Bounds.{regions_bound}
use Rattle.bc_cons.proofs.bounds.references_bound.Goals as goal

pub loop-reference-preserved : goal.loop-reference-preserved
loop-reference-preserved c =
    let here = c.loop-reference in
    let bound = λ (references : List Reference). regions_bound c.args.universals here.bound (regions_of_references references) in
    record {
      bound = rw (c.max-bound.ensures, c.region_number.ensures.value) (sym (at_drop_more bound c.args.references.now here.reference-index _ c.loop-reference-test.true) ∙ here.invariant.bound);
      within = omega (arith, c.max-bound.ensures, c.region_number.ensures.small, here.invariant.within);
    }

pub returns-clause-bound : goal.returns-clause-bound
returns-clause-bound c =
    let here = c.loop-reference in
    let bound = λ (references : List Reference). regions_bound c.args.universals here.bound (regions_of_references references) in
    sym (at_drop_all bound c.args.references.now here.reference-index c.loop-reference-test.false) ∙ here.invariant.bound
