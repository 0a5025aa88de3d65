use Rattle.bc_share.proofs.Audits.{own_more, own_other, own_apart, own_all}
use Rattle.bc_share.proofs.audit.is_own.Goals as goal
use Rattle.bc_share.proofs.audit.is_own.Goals.{then-entry-number+in-Some, else-entry-number}

pub loop-entry-preserved : goal.loop-entry-preserved
loop-entry-preserved c =
    elim c.if-entry-number.branch [
      | then-entry-number+in-Some w ↦ rw w.rest-is (own_more _ _ _ _ _ _ _ c.loop-entry.invariant c.loop-entry-test.true c.entry-item.is w.if-entry-number.true w.in-Some.ensures)
      | else-entry-number w ↦ rw w.rest-is (own_other _ _ _ _ _ _ c.loop-entry.invariant c.loop-entry-test.true c.entry-item.is w.if-entry-number.false)
    ]

pub returns-in_default : goal.returns-in_default
returns-in_default c = own_apart _ _ _ _ _ _ c.loop-entry.invariant c.loop-entry-test.true c.entry-item.is c.if-entry-number.true c.in_default.ensures

pub returns : goal.returns
returns c = own_all _ _ _ _ _ _ c.loop-entry.invariant c.loop-entry-test.false c.is_empty.ensures
