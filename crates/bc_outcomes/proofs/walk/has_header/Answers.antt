use Rattle.std.proofs.Common.{◌≡◌, sym, ap, ◌∙◌}
use Rattle.bc_syntax.specs.declared.syntax.Body.{Body}
use Rattle.bc_syntax.proofs.Equality.{header}
use Rattle.bc_outcomes.proofs.walk.has_header.Goals as goal

pub returns-then-child-kid : goal.returns-then-child-kid
returns-then-child-kid c =
    let same : c.body.result.now ≡ c.args.kid.now.unit.now = c.body.ensures.value ∙ c.get.ensures in
    let headers = header c.args.child.now.header c.body.result.now.header in
    let here = ap (λ (b : Body). b.header) same in
    (λ t. (let equal = headers.0 (sym c.eq.ensures ∙ t) ∙ here in λ i. record { number = c.if-child-kid.true i; header = equal i }), λ is. c.eq.ensures ∙ headers.1 (ap (λ k. k.header) is ∙ sym here))
