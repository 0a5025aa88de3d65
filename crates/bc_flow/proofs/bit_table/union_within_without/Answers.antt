use Rattle.std.proofs.Common.{rules, ◌≡◌, ◌+◌, ◌<◌, ◌^◌, length, arith, get_or, refl, w64}
use Rattle.std.specs.Prelude.{bit_or, bit_and}
use Rattle.std.specs.Int.{bit_not}
use Rattle.std.specs.Int.Bits.{and_lt}
use Rattle.std.proofs.lemmas.Grind.{common_steps}
use Rattle.std.proofs.lemmas.Nat.{or_lt}
use Rattle.bc_flow.proofs.Tabled.{done_more, rest_more, differs_more}
use Rattle.bc_flow.proofs.bit_table.union_within_without.Goals as goal

pub loop-k-preserved : goal.loop-k-preserved
loop-k-preserved c =
    let within : c.args.to + c.loop-k.k < length c.loop-k.words = omega (arith, c.loop-k-test.true, c.requires.to, c.loop-k.auto.words) in
    let here : get_or c.loop-k.words (c.args.to + c.loop-k.k) 0 ≡ get_or c.args.words.now (c.args.to + c.loop-k.k) 0 = c.loop-k.invariant.rest (c.args.to + c.loop-k.k) (λ _. omega arith) in
    let there : get_or c.loop-k.words (c.args.from + c.loop-k.k) 0 ≡ get_or c.args.words.now (c.args.from + c.loop-k.k) 0 =
    c.loop-k.invariant.rest (c.args.from + c.loop-k.k) (λ after. let p = c.requires.apart c.loop-k.k c.loop-k-test.true (λ less. omega (arith, less, after)) in omega (arith, p, c.loop-k-test.true)) in
    let from_fits : get_or c.loop-k.words (c.args.from + c.loop-k.k) 0 < 2 ^ 64 = search rules in
    let fits : get_or c.loop-k.words (c.args.to + c.loop-k.k) 0 < 2 ^ 64 = search rules in
    let rest : bit_not w64 (get_or c.args.kills.now (c.args.kill + c.loop-k.k) 0) < 2 ^ 64 = omega arith in
    record {
      done = done_more c.loop-k.words c.args.to c.loop-k.k _ (λ j. bit_or (get_or c.args.words.now (c.args.to + j) 0) (bit_and (get_or c.args.words.now (c.args.from + j) 0) (bit_not w64 (get_or c.args.kills.now (c.args.kill + j) 0)))) within c.loop-k.invariant.done (rw (here, there) refl);
      rest = rest_more c.loop-k.words c.args.words.now c.args.to c.loop-k.k _ c.loop-k.invariant.rest;
      same = grind (arith, common_steps);
      differs = differs_more c.loop-k.words c.args.words.now c.args.to c.loop-k.k _ c.loop-k.changed c.loop-k.invariant.differs within here (or_lt 64 _ _ fits (and_lt 64 _ _ from_fits rest)) (rw here at fits);
    }
