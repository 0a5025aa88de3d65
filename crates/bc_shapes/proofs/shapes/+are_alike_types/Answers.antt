use Rattle.std.proofs.Common.{◌≡◌, suc, ◌-◌, ◌≤◌, Bool, true, false, ◌&&◌, List, [], ◌∷◌, length, get_or, take, drop, sym, ap, ◌∙◌, arith}
use Rattle.std.proofs.lemmas.List.{take_all}
use Rattle.bc_syntax.specs.declared.syntax.Reference.{Reference}
use Rattle.bc_syntax.specs.declared.syntax.Base.{Base}
use Rattle.bc_shapes.specs.Mutabilities.{same_mutability}
use Rattle.bc_shapes.specs.Shapes.{alike_types}
use Rattle.bc_shapes.proofs.shapes.+are_alike_types.Goals as goal

module _ (first second : Base) where
  alike-same : (rs os : List Reference) (d e : Reference) (alike : Bool) → 1 ≤ length rs → 1 ≤ length os → true ≡ same_mutability (get_or rs 0 d).mutability (get_or os 0 e).mutability
      → alike ≡ alike_types (take (length rs - 1) (drop 1 rs)) first (take (length os - 1) (drop 1 os)) second → alike ≡ alike_types rs first os second
  alike-same [] os d e alike some others same is = absurd (omega (arith, some))
  alike-same (r ∷ rs) [] d e alike some others same is = absurd (omega (arith, others))
  alike-same (r ∷ rs) (o ∷ os) d e alike some others same is =
      is
      ∙ ap (λ (l : List Reference). alike_types l first (take (suc (length os) - 1) os) second) (take_all (suc (length rs) - 1) rs (omega arith))
      ∙ ap (λ (l : List Reference). alike_types rs first l second) (take_all (suc (length os) - 1) os (omega arith))
      ∙ ap (λ b. b && alike_types rs first os second) same

  alike-other : (rs os : List Reference) (d e : Reference) (alike : Bool) → 1 ≤ length rs → 1 ≤ length os → alike ≡ false → alike ≡ same_mutability (get_or rs 0 d).mutability (get_or os 0 e).mutability → alike ≡ alike_types rs first os second
  alike-other [] os d e alike some others fails is = absurd (omega (arith, some))
  alike-other (r ∷ rs) [] d e alike some others fails is = absurd (omega (arith, others))
  alike-other (r ∷ rs) (o ∷ os) d e alike some others fails is = fails ∙ ap (λ b. b && alike_types rs first os second) (sym fails ∙ is)

pub returns-then-is_same_mutability : goal.returns-then-is_same_mutability
returns-then-is_same_mutability t c =
    alike-same c.args.first.now c.args.second.now c.args.references.now c.args.others.now _ _ _ c.in-len1-up.len_at_least c.in-len1-up-others-2.len_at_least c.if-is_same_mutability.ensures c.are_alike_types.ensures

pub returns-else-is_same_mutability : goal.returns-else-is_same_mutability
returns-else-is_same_mutability t c =
    alike-other c.args.first.now c.args.second.now c.args.references.now c.args.others.now _ _ _ c.in-len1-up.len_at_least c.in-len1-up-others-2.len_at_least c.if-is_same_mutability.false c.is_same_mutability.ensures
