use Rattle.std.proofs.Common.{◌≡◌, sym, ap, ◌∙◌}
use Rattle.bc_syntax.proofs.Equality.{header}
use Rattle.bc_bodies.specs.declared.children.Child.{Child}
use Rattle.bc_outcomes.proofs.visit.same_child.Goals as goal

pub returns-then-one-other : goal.returns-then-one-other
returns-then-one-other c =
    let headers = header c.args.one.now.header c.args.other.now.header in
    (λ t. (let equal = headers.0 (sym c.eq.ensures ∙ t) in λ i. record { number = c.if-one-other.true i; header = equal i }), λ is. c.eq.ensures ∙ headers.1 (ap (λ (k : Child). k.header) is))
