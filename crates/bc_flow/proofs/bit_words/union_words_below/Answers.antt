use Rattle.std.proofs.Common.{◌≡◌, ◌/◌, ◌%◌, ◌<◌, length, arith}
use Rattle.std.proofs.lemmas.Nat.{one_shl}
use Rattle.bc_flow.proofs.Fronts.{AreJoined, joined_part, joined_ends}
use Rattle.bc_flow.proofs.bit_words.union_words_below.Goals.{else-count-ne0-via-then-count-ne0+else-whole-from, else-count-ne0-via-else-count-ne0}
use Rattle.bc_flow.proofs.bit_words.union_words_below.Goals as goal

pub returns-then-whole-from : goal.returns-then-whole-from
returns-then-whole-from c =
    let whole : c.min-whole.result ≡ c.args.count / 64 = omega (arith, c.min-whole.ensures, c.if-whole-from.true) in
    let end : c.loop-k.k ≡ c.args.count / 64 = omega (arith, whole, c.loop-k-test.false, c.loop-k.auto.k-end) in
    let joined : AreJoined c.loop-k.into c.args.into.now c.args.from.now (c.args.count / 64) = rw end at c.loop-k.invariant.joined in
    let within : c.args.count / 64 < length c.loop-k.into = omega (arith, c.requires, c.if-count-ne0.true, c.loop-k.invariant.count) in
    rw (one_shl (c.args.count % 64) 64 (omega arith), whole) (joined_part c.loop-k.into c.args.into.now c.args.from.now c.args.count joined within)

pub returns-else-count-ne0 : goal.returns-else-count-ne0
returns-else-count-ne0 c =
    let end : c.loop-k.k ≡ c.min-whole.result = omega (arith, c.loop-k-test.false, c.loop-k.auto.k-end) in
    joined_ends c.loop-k.into c.args.into.now c.args.from.now c.args.count c.min-whole.result (rw end at c.loop-k.invariant.joined)
    (omega (arith, c.min-whole.ensures)) (omega (arith, c.min-whole.ensures)) (λ _. omega (arith, c.min-whole.ensures))
    (λ part. elim c.else-count-ne0.branch [
      | else-count-ne0-via-then-count-ne0+else-whole-from w ↦ omega (arith, w.if-whole-from.false)
      | else-count-ne0-via-else-count-ne0 w ↦ absurd (omega (arith, w.if-count-ne0.false, part))
    ])
