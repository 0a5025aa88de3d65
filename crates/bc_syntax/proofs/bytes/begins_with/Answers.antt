use Rattle.std.proofs.Common.{◌<◌, ◌≤◌, length, sym, arith}
use Rattle.bc_syntax.proofs.Fronts.{same_front, other_front}
use Rattle.bc_syntax.proofs.bytes.begins_with.Goals as goal

pub returns-then-bytes-index : goal.returns-then-bytes-index
returns-then-bytes-index c =
    let within : c.loop-index.index < length c.args.word.now = omega (arith, c.loop-index-test.true) in
    other_front c.args.word.now c.args.bytes.now c.loop-index.index within (λ e. c.if-bytes-index.true (sym e))

pub returns : goal.returns
returns c =
    let enough : length c.args.word.now ≤ length c.args.bytes.now = omega (arith, c.if-bytes-word.false) in
    same_front c.args.word.now c.args.bytes.now enough (λ k lt. c.loop-index.invariant k (omega (arith, lt, c.loop-index-test.false)))
