use Rattle.bc_prov.specs.State.{at_name}
use Rattle.std.proofs.Common.{◌≡◌, length, sym, ◌∙◌, subst, arith}
use Rattle.bc_calls.specs.Calls.{HoldsCount}
use Rattle.bc_book.specs.Ledgers.{bodies_of}
use Rattle.bc_calls.specs.declared.call.TheConstants.{MOST_BODIES}
use Rattle.bc_book.proofs.Keeping.{absent_none, counted, some_unit}
use Rattle.bc_book.proofs.reply.stored_reply.Goals as goal

pub returns-then-count-lt-MOST_BODIES-clause-reply : goal.returns-then-count-lt-MOST_BODIES-clause-reply
returns-then-count-lt-MOST_BODIES-clause-reply c =
    let s = c.args.shelf.now.held in
    let less = c.if-count-lt-MOST_BODIES.true in
    let count = c.count-count.ensures.count in
    (c.requires.suits, absent_none s c.args.name.now (sym c.is_held.ensures ∙ c.if-is_held.false), (length s.places, omega (arith, less, count), counted s c.count-count.ensures.ordered))

pub returns-else-count-lt-MOST_BODIES-clause-reply : goal.returns-else-count-lt-MOST_BODIES-clause-reply
returns-else-count-lt-MOST_BODIES-clause-reply c =
    let s = c.args.shelf.now.held in
    let many = c.if-count-lt-MOST_BODIES.false in
    let count = c.count-count.ensures.count in
    let few = c.requires.few in
    let all : length s.places ≡ MOST_BODIES = omega (arith, many, count, few) in
    (c.requires.suits, absent_none s c.args.name.now (sym c.is_held.ensures ∙ c.if-is_held.false), subst (HoldsCount (bodies_of s)) all (counted s c.count-count.ensures.ordered))

pub returns-then-is_held-clause-reply : goal.returns-then-is_held-clause-reply
returns-then-is_held-clause-reply c = (c.requires.suits, some_unit (at_name c.args.shelf.now.held.places c.args.name.now) ∙ sym c.is_held.ensures ∙ c.if-is_held.true)
