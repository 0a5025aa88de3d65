use Rattle.std.proofs.Common.{◌≡◌, ◌<◌, ◌≤◌, ◌∙◌, ◌+◌, ℕ, true, false, inl, inr, length, get_or, take, sym, arith}
use Rattle.std.proofs.lemmas.Bool.Decides.{nat_tests}
use Rattle.std.proofs.lemmas.List.Folds.{length-prefix_len}
use Rattle.std.proofs.lemmas.List.Sums.{prefix_len_is}
use Rattle.std.specs.Char.{is_ascii_digit}
use Rattle.std.proofs.lemmas.Bool.{cases_eq}
use Rattle.bc_tokens.specs.Token.{Counts, value}
use Rattle.bc_tokens.proofs.Numbers.{counts_more, counts_still}
use Rattle.bc_tokens.proofs.token.counted.Goals as goal
use Rattle.bc_tokens.proofs.token.counted.Goals.{then-number, else-number}

pub returns-then-not-is_ascii_digit-clause-count : goal.returns-then-not-is_ascii_digit-clause-count
returns-then-not-is_ascii_digit-clause-count c =
    let bytes = c.args.bytes.now in
    let index = c.loop-index.index in
    let within : index ≤ length bytes = omega (arith, c.loop-index-test.true) in
    let stop : is_ascii_digit (get_or bytes index 0) ≡ false = grind (arith, nat_tests, c.is_ascii_digit.ensures.value, c.if-not-is_ascii_digit.true) in
    sym (length-prefix_len is_ascii_digit bytes ∙ prefix_len_is is_ascii_digit bytes index 0 within c.loop-index.invariant.0 (λ _. stop))

pub returns-clause-count : goal.returns-clause-count
returns-clause-count c =
    let bytes = c.args.bytes.now in
    let all = λ (k : ℕ) (h : k < length bytes). c.loop-index.invariant.0 k (omega (arith, h, c.loop-index-test.false)) in
    let within : length bytes ≤ length bytes = omega arith in
    sym (length-prefix_len is_ascii_digit bytes ∙ prefix_len_is is_ascii_digit bytes (length bytes) 0 within all (λ h. absurd (omega (arith, h))))

pub loop-index-preserved : goal.loop-index-preserved
loop-index-preserved c =
    let bytes = c.args.bytes.now in
    let i = c.loop-index.index in
    let digit : is_ascii_digit (get_or bytes i 0) ≡ true = sym (c.if-not-is_ascii_digit.ensures {u = tt}).value in
    let counts : Counts c.if-number.number (value (take (i + 1) bytes)) = elim c.if-number.branch [
      | then-number w ↦ rw (w.number-is, w.from.ensures) (counts_more bytes i c.loop-index.number c.loop-index-test.true c.loop-index.invariant.1 (omega (arith, w.if-number.true)))
      | else-number w ↦ rw w.number-is (counts_still bytes i c.loop-index.number c.loop-index-test.true c.loop-index.invariant.1 (omega (arith, w.if-number.false)))
    ] in
    (λ k low. elim (cases_eq k i) [ inl same ↦ rw same digit | inr other ↦ c.loop-index.invariant.0 k (omega (arith, low, other)) ], counts)
