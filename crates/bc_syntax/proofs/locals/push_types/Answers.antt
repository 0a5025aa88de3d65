use Rattle.std.proofs.Common.{List, [], ◌∷◌, ◌++◌, ◌+◌, drop, sym, ap, ◌∙◌, append_assoc}
use Rattle.std.proofs.lemmas.List.{at_drop_more}
use Rattle.bc_syntax.specs.declared.syntax.Ty.{Ty}
use Rattle.bc_syntax.proofs.locals.push_types.Goals as goal

pub loop-ty-preserved : goal.loop-ty-preserved
loop-ty-preserved c =
    let more = c.args.more.now in
    let rest = drop (c.loop-ty.ty-index + 1) more in
    let here = at_drop_more (λ (l : List Ty). l) more c.loop-ty.ty-index c.ty-item.result c.loop-ty-test.true ∙ ap (λ (ty : Ty). ty ∷ rest) (sym c.ty-item.is ∙ sym c.in_ok-copy_type.ensures) in
    ap (λ (l : List Ty). l ++ rest) c.in_ok-push.ensures.items
    ∙ append_assoc c.loop-ty.types.items (c.in_ok-copy_type.field-0 ∷ []) rest
    ∙ ap (λ (l : List Ty). c.loop-ty.types.items ++ l) (sym here)
    ∙ c.loop-ty.invariant
