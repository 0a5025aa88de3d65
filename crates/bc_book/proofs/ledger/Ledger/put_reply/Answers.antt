use Rattle.std.proofs.Common.{subst}
use Rattle.std.specs.Prelude.{IfOk}
use Rattle.bc_prov.specs.State.{Bodies}
use Rattle.bc_calls.specs.Calls.{after, IsPutReply}
use Rattle.bc_book.specs.Ledgers.{LedgerView}
use Rattle.bc_book.proofs.Keeping.{same_bodies}
use Rattle.bc_book.proofs.ledger.Ledger.put_reply.Goals as goal

pub returns-clause-reply : goal.returns-clause-reply
returns-clause-reply c =
    let i = c.self.inside in
    subst (λ (v : LedgerView). IfOk c.put_reply.result (IsPutReply (after v.entries).bodies c.args.name.now c.args.unit.now)) c.self.view_is
    (subst (λ (bodies : Bodies). IfOk c.put_reply.result (IsPutReply bodies c.args.name.now c.args.unit.now)) (same_bodies i.shelf.held i.history.items c.self.invariant.0.shelf_of) c.put_reply.ensures.reply)
