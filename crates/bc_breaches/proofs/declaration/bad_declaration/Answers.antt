use Rattle.std.proofs.Common.{sym, ◌∙◌}
use Rattle.bc_breaches.proofs.Walking.{good-turn, bad-here, bad-is, all-good}
use Rattle.bc_breaches.proofs.declaration.bad_declaration.Goals as goal

pub loop-number-preserved : goal.loop-number-preserved
loop-number-preserved c =
    good-turn c.args.declarations.now c.loop-number.number c.index-declarations-number.result c.loop-number-test.true c.index-declarations-number.is _ (sym c.declaration_breach.ensures ∙ c.in-None.is) c.loop-number.invariant

pub returns-in-Some-clause-number : goal.returns-in-Some-clause-number
returns-in-Some-clause-number c =
    bad-here c.args.declarations.now c.loop-number.number c.index-declarations-number.result c.loop-number-test.true c.index-declarations-number.is _ c.in-Some.breach (sym c.declaration_breach.ensures ∙ c.in-Some.is)
    c.loop-number.invariant

pub returns-in-Some-clause-breach : goal.returns-in-Some-clause-breach
returns-in-Some-clause-breach c =
    bad-is c.args.declarations.now c.loop-number.number c.index-declarations-number.result c.loop-number-test.true c.index-declarations-number.is c.in-Some.breach (sym c.declaration_breach.ensures ∙ c.in-Some.is)

pub returns-clause-number : goal.returns-clause-number
returns-clause-number c = all-good c.args.declarations.now c.loop-number.number _ c.loop-number-test.false c.loop-number.invariant
