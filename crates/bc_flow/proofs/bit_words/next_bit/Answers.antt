use Rattle.std.proofs.Common.{rules, ◌%◌, arith}
use Rattle.std.proofs.lemmas.Nat.Bits.{ones_shl}
use Rattle.bc_flow.proofs.NextBit.{scanned_first, scanned_next, scanned_all, scanned_none, scanned_found}
use Rattle.bc_flow.proofs.bit_words.next_bit.Goals as goal

pub returns-in_err-word : goal.returns-in_err-word
returns-in_err-word c =
    let h = c.in_err-word.ensures.lookup in
    rw c.from_residual.ensures (scanned_none c.args.words.now c.args.from h.3)

pub loop-word-init : goal.loop-word-init
loop-word-init c =
    let h = c.in_ok-word.ensures.lookup in
    scanned_first c.args.words.now c.args.from c.in_ok-word.field-0.now _ h.3.0 h.1 (search rules) (ones_shl 64 (c.args.from % 64) (omega arith))

pub returns-in_err-word-2 : goal.returns-in_err-word-2
returns-in_err-word-2 c =
    let h = c.in_err-word-2.ensures.lookup in
    rw c.from_residual-in_err-word-2.ensures (scanned_all c.args.words.now c.args.from c.loop-word.index (rw c.loop-word-test.true at c.loop-word.invariant) h.3)

pub loop-word-preserved : goal.loop-word-preserved
loop-word-preserved c =
    let h = c.in_ok-word-2.ensures.lookup in
    scanned_next c.args.words.now c.args.from c.loop-word.index c.in_ok-word-2.field-0.now (rw c.loop-word-test.true at c.loop-word.invariant) h.3.0 h.1 (search rules)

pub overflow_mul-result : goal.overflow_mul-result
overflow_mul-result c =
    let found = scanned_found c.args.words.now c.args.from c.loop-word.index c.loop-word.word c.loop-word.invariant (omega (arith, c.loop-word-test.false)) in
    let below = c.requires _ found.is_set in
    omega (arith, below, c.ranges.size)

pub overflow_add-result : goal.overflow_add-result
overflow_add-result c =
    let found = scanned_found c.args.words.now c.args.from c.loop-word.index c.loop-word.word c.loop-word.invariant (omega (arith, c.loop-word-test.false)) in
    let below = c.requires _ found.is_set in
    omega (arith, below, c.ranges.size)

pub returns : goal.returns
returns c = scanned_found c.args.words.now c.args.from c.loop-word.index c.loop-word.word c.loop-word.invariant (omega (arith, c.loop-word-test.false))
