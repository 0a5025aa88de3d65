use Rattle.std.proofs.Common.{◌≡◌, ◌∙◌, sym, subst}
use Rattle.std.specs.Prelude.{Option, IfSome}
use Rattle.bc_names.specs.Names.{NameParts, IsName, name_text}
use Rattle.bc_names.proofs.Segments.{starts, starts_not, goes_on, goes_not, ends, ends_whole, reads_all}
use Rattle.bc_names.proofs.name.Name.read.Goals as goal

pub returns-in_err-name-clause-only : goal.returns-in_err-name-clause-only
returns-in_err-name-clause-only c = λ whole is e. absurd (starts_not c.args.bytes.now c.run-root.result.now c.run-root.ensures.run (sym c.of_root.ensures ∙ c.in_err-name.was {u = tt}) whole is e)

pub loop-number-init : goal.loop-number-init
loop-number-init c = starts c.args.bytes.now c.run-root.result.now c.from-rest.result.now c.in_ok-name.name c.run-root.ensures.run c.from-rest.ensures (sym c.of_root.ensures ∙ c.in_ok-name.was {u = tt})

pub returns-in_err-name-2-clause-only : goal.returns-in_err-name-2-clause-only
returns-in_err-name-2-clause-only c = λ whole is e.
    absurd (goes_not c.args.bytes.now c.loop-number.rest.now c.loop-number.name c.in-Some.number c.in-Some.len c.loop-number.invariant (sym c.first_segment.ensures ∙ c.in-Some.is) (sym c.child.ensures ∙ c.in_err-name-2.was {u = tt}) whole is e)

pub loop-number-preserved : goal.loop-number-preserved
loop-number-preserved c =
    goes_on c.args.bytes.now c.loop-number.rest.now c.from-rest-in-Some.result.now c.loop-number.name c.in_ok-name-2.name c.in-Some.number c.in-Some.len c.loop-number.invariant (sym c.first_segment.ensures ∙ c.in-Some.is) c.from-rest-in-Some.ensures (sym c.child.ensures ∙ c.in_ok-name-2.was {u = tt})

pub returns-clause-found : goal.returns-clause-found
returns-clause-found c =
    subst (λ (o : Option NameParts). IfSome o (λ name. IsName name × (c.args.bytes.now ≡ name_text name))) (sym c.then_some.ensures)
    (ends c.args.bytes.now c.loop-number.rest.now c.loop-number.name c.is_empty.result c.loop-number.invariant c.is_empty.ensures)

pub returns-clause-only : goal.returns-clause-only
returns-clause-only c = λ whole is e.
    c.then_some.ensures
    ∙ ends_whole c.loop-number.rest.now c.loop-number.name whole c.is_empty.result c.is_empty.ensures
    (reads_all c.args.bytes.now c.loop-number.rest.now c.loop-number.name c.loop-number.invariant (sym c.first_segment.ensures ∙ c.in_default.is) whole is e)
