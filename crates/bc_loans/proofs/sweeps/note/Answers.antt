use Rattle.std.proofs.Common.{arith}
use Rattle.bc_loans.proofs.Telling.{IsInserted, IsInserted-from, IsInserted-kept}
use Rattle.bc_loans.proofs.sweeps.note.Goals as goal

pub returns-then-grown-clause-set : goal.returns-then-grown-clause-set
returns-then-grown-clause-set c = record { some = omega (arith, c.requires.set, c.insert-new.ensures.rows); size = c.insert-new.ensures.size }

pub returns-then-grown-clause-kept : goal.returns-then-grown-clause-kept
returns-then-grown-clause-kept c =
    let inserted : IsInserted c.args.reached.now c.insert-new.new.self 0 c.args.point =
    IsInserted-from c.args.reached.now c.insert-new.new.self 0 c.args.point c.requires.point c.insert-new.ensures.rows c.insert-new.ensures.others c.insert-new.ensures.size c.insert-new.ensures.set in
    IsInserted-kept c.args.reached.now c.insert-new.new.self 0 c.args.point inserted 0

pub returns-then-grown-clause-noted : goal.returns-then-grown-clause-noted
returns-then-grown-clause-noted c = λ _.
    (IsInserted-from c.args.reached.now c.insert-new.new.self 0 c.args.point c.requires.point c.insert-new.ensures.rows c.insert-new.ensures.others c.insert-new.ensures.size c.insert-new.ensures.set).there
