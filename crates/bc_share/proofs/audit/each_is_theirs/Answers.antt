use Rattle.std.proofs.Common.{true≢false, sym, ◌∙◌}
use Rattle.std.specs.List.{Contains}
use Rattle.bc_calls.specs.declared.call.Entry.{Entry}
use Rattle.bc_share.specs.Closings.{numbers}
use Rattle.bc_share.proofs.Closings.{each_fails, each_more}
use Rattle.bc_share.proofs.audit.each_is_theirs.Goals as goal

pub returns-then-not-has_number : goal.returns-then-not-has_number
returns-then-not-has_number g c =
    let P : Entry → Type 0 = λ e. Contains (numbers c.args.sessions.now) e.session in
    each_fails P c.args.entries.now c.loop-entry.entry-index c.entry-item.result c.loop-entry-test.true c.entry-item.is
    (λ has. true≢false (sym (c.has_number.ensures.1 has) ∙ c.if-not-has_number.true))

pub loop-entry-preserved : goal.loop-entry-preserved
loop-entry-preserved g c =
    let P : Entry → Type 0 = λ e. Contains (numbers c.args.sessions.now) e.session in
    each_more P c.args.entries.now c.loop-entry.entry-index c.entry-item.result c.loop-entry.invariant c.loop-entry-test.true c.entry-item.is (c.has_number.ensures.0 c.if-not-has_number.false)
