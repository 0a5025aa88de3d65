use Rattle.std.proofs.Common.{◌≡◌, Some, refl, sym, ap, ◌∙◌, subst}
use Rattle.std.specs.Arc.{arc_value}
use Rattle.bc_syntax.specs.declared.syntax.Body.{Body}
use Rattle.bc_bodies.specs.Mir.{Mir, mir_of}
use Rattle.bc_mir.specs.Typing.{misfit}
use Rattle.bc_prov.specs.Pieces.{IsFitted}
use Rattle.bc_outcomes.specs.Visits.{mir_in}
use Rattle.bc_outcomes.proofs.walk.visited.Goals as goal

some_same : (a b : Body) → Some a ≡ Some b → a ≡ b
some_same a b e = cc

pub returns-in-Some-clause-ok : goal.returns-in-Some-clause-ok
returns-in-Some-clause-ok c =
    let piece = c.in-Some.piece.now in
    let unit : piece.unit ≡ c.args.unit.now = some_same piece.unit c.args.unit.now (sym c.in-Some.ensures.over.unit ∙ c.requires.held) in
    let types = c.in-Some.ensures.over.types ∙ sym c.args.checked.now.same in
    let mir = c.in-Some.ensures.right.fitted.over ∙ (λ i. mir_of (types i) (c.in-Some.ensures.from i) (unit i)) in
    c.in_ok-of_piece.ensures ∙ (λ i. record { name = c.args.name; unit = unit i; typed = mir i })

pub returns-in-Some-clause-fits : goal.returns-in-Some-clause-fits
returns-in-Some-clause-fits c =
    let piece = c.in-Some.piece.now in
    let unit : piece.unit ≡ c.args.unit.now = some_same piece.unit c.args.unit.now (sym c.in-Some.ensures.over.unit ∙ c.requires.held) in
    let types = c.in-Some.ensures.over.types ∙ sym c.args.checked.now.same in
    let mir = c.in-Some.ensures.right.fitted.over ∙ (λ i. mir_of (types i) (c.in-Some.ensures.from i) (unit i)) in
    ap misfit (sym mir) ∙ c.in-Some.ensures.right.fitted.fits

pub of-requires : goal.of-requires
of-requires c =
    let heads = c.deref.ensures.value ∙ c.in_ok-headers.ensures in
    let there : mir_of (arc_value c.args.checked.now.types.now) c.deref.result.now c.get.result.now ≡ mir_in c.args.checked.now c.args.kids.now c.args.unit.now = λ i. mir_of (arc_value c.args.checked.now.types.now) (heads i) (c.get.ensures i) in
    let mir = c.in_ok-typed-2.ensures ∙ c.in_ok-typed.ensures.ok ∙ there in
    subst (λ (p : Body × Mir). IsFitted p.1.types p.0 p.1) (λ i. (sym c.in_ok-unit.ensures.cases i, sym mir i))
    (record { over = refl; numbered = c.requires.numbers; fits = ap misfit (sym there) ∙ c.in_ok-typed.ensures.fits })

pub returns-clause-ok : goal.returns-clause-ok
returns-clause-ok c =
    let heads = c.deref.ensures.value ∙ c.in_ok-headers.ensures in
    let mir = c.in_ok-typed-2.ensures ∙ c.in_ok-typed.ensures.ok ∙ (λ i. mir_of (arc_value c.args.checked.now.types.now) (heads i) (c.get.ensures i)) in
    c.of.ensures ∙ (λ i. record { name = c.args.name; unit = c.in_ok-unit.ensures.cases i; typed = mir i })
