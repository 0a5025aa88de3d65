use Rattle.bc_solve.proofs.explainer.ways_for.Goals as goal

pub returns-then-ways-element-clause-ways : goal.returns-then-ways-element-clause-ways
returns-then-ways-element-clause-ways c = rw (c.in-Some.is, c.if-ways-element.true) at c.requires.last
