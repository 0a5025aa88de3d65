use Rattle.bc_calls.specs.declared.call.PutReply.TheVariants.{Added}
use Rattle.std.proofs.Common.{subst, ◌≡◌, ◌<◌, length}
use Rattle.bc_syntax.specs.declared.syntax.Body.{Body}
use Rattle.bc_calls.specs.Calls.{IsPutReply, after, most_bodies}
use Rattle.bc_book.specs.Ledgers.{BookView}
use Rattle.bc_book.proofs.Fitting.{none_fit}
use Rattle.bc_book.proofs.book.Book.put.Goals as goal

pub append-requires-clause-reply : goal.append-requires-clause-reply
append-requires-clause-reply g c =
    subst (λ (x : BookView × Body). IsPutReply (after x.0.entries).bodies c.args.name x.1 c.in_ok-reply.reply) (λ i. (c.self.view_is i, c.get.ensures i)) c.in_ok-reply.ensures.reply

pub append-requires-clause-fit : goal.append-requires-clause-fit
append-requires-clause-fit g c = none_fit _ c.none-effects.result.pieces c.none-effects.ensures.pieces

pub append-requires-clause-published : goal.append-requires-clause-published
append-requires-clause-published g c = none_fit _ c.none-effects.result.pieces c.none-effects.ensures.pieces

pub append-requires-clause-place : goal.append-requires-clause-place
append-requires-clause-place g c = subst (λ (v : BookView). c.in_ok-reply.reply ≡ Added → length v.shelf.places < most_bodies) c.self.view_is c.in_ok-reply.ensures.place
