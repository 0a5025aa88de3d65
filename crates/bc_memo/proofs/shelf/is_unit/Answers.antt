use Rattle.std.proofs.Common.{true≢false, sym, ◌∙◌, ap}
use Rattle.bc_syntax.specs.declared.syntax.Body.{Body}
use Rattle.bc_syntax.proofs.Equality.{body}
use Rattle.bc_names.specs.Names.{NameParts}
use Rattle.bc_names.proofs.Equality.{name}
use Rattle.bc_memo.proofs.shelf.is_unit.Goals as goal

pub returns-then-eq : goal.returns-then-eq
returns-then-eq c =
    let names = (name c.args.unit.now.0 c.args.row.now.0).0 (sym c.eq.ensures ∙ c.if-eq.true) in
    let bodies = body c.args.unit.now.1 c.args.row.now.1.unit in
    (λ t. (let same = bodies.0 (sym c.eq-then-eq.ensures ∙ t) in λ i. (names i, same i)), λ is. c.eq-then-eq.ensures ∙ bodies.1 (ap (λ (p : NameParts × Body). p.1) is))

pub returns-else-eq : goal.returns-else-eq
returns-else-eq c =
    (λ t. absurd (true≢false (sym t ∙ c.if-eq.false)), λ is. absurd (true≢false (sym ((name c.args.unit.now.0 c.args.row.now.0).1 (ap (λ (p : NameParts × Body). p.0) is)) ∙ sym c.eq.ensures ∙ c.if-eq.false)))
