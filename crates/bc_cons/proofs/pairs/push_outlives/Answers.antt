use Rattle.std.proofs.Common.{List, map, refl}
use Rattle.std.proofs.lemmas.List.{at_drop_more}
use Rattle.bc_syntax.specs.declared.syntax.Reference.{Reference}
use Rattle.bc_types.specs.Subtype.{outlives}
use Rattle.bc_types.proofs.Appending.{appended-turn, appended-all}
use Rattle.bc_cons.proofs.pairs.push_outlives.Goals as goal

pub loop-reference-preserved : goal.loop-reference-preserved
loop-reference-preserved c =
    let each = λ (references : List Reference). map (λ (reference : Reference). outlives reference.region c.args.region) references in
    appended-turn each _ _ c.args.references.now c.loop-reference.reference-index _ _ c.in_ok-push.ensures.items (at_drop_more each _ _ _ c.loop-reference-test.true) c.loop-reference.invariant

pub returns : goal.returns
returns c =
    let each = λ (references : List Reference). map (λ (reference : Reference). outlives reference.region c.args.region) references in
    appended-all each _ _ c.args.references.now c.loop-reference.reference-index c.loop-reference-test.false refl c.loop-reference.invariant
