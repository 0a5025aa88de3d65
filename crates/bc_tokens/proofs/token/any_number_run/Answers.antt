use Rattle.std.proofs.Common.{◌≡◌, ◌+◌, ◌∙◌, ap, sym, subst, take, arith, length}
use Rattle.std.proofs.lemmas.List.{length-take, length-take-le, length-drop}
use Rattle.bc_syntax.specs.Words.{is_number}
use Rattle.bc_tokens.specs.Token.{Counts, value}
use Rattle.bc_tokens.proofs.Runs.{digits_split, all_digits, number_ends}
use Rattle.bc_tokens.proofs.token.any_number_run.Goals as goal

pub is_number_of-requires : goal.is_number_of-requires
is_number_of-requires c = all_digits c.args.bytes.now c.behind.result.now c.counted-digits.result.0 c.run_len-others.result c.counted-digits.ensures.count c.behind.ensures c.run_len-others.ensures.count

pub returns-clause-run : goal.returns-clause-run
returns-clause-run c = digits_split c.args.bytes.now c.behind.result.now c.counted-digits.result.0 c.run_len-others.result c.counted-digits.ensures.count c.behind.ensures c.run_len-others.ensures.count

pub returns-clause-number : goal.returns-clause-number
returns-clause-number c = c.is_number_of.ensures ∙ ap is_number (digits_split c.args.bytes.now c.behind.result.now c.counted-digits.result.0 c.run_len-others.result c.counted-digits.ensures.count c.behind.ensures c.run_len-others.ensures.count)

pub returns-clause-counts : goal.returns-clause-counts
returns-clause-counts c = λ h.
    let bytes = c.args.bytes.now in
    let digits = c.counted-digits.result.0 in
    let none : c.run_len-others.result ≡ 0 =
    number_ends (take (digits + c.run_len-others.result) bytes) c.run_len-others.result
    (all_digits bytes c.behind.result.now digits c.run_len-others.result c.counted-digits.ensures.count c.behind.ensures c.run_len-others.ensures.count) (sym c.is_number_of.ensures ∙ h)
    in
    let same : digits ≡ digits + c.run_len-others.result = omega (arith, none) in
    subst (λ k. Counts c.counted-digits.result.1 (value (take k bytes))) same c.counted-digits.ensures.number

pub returns-clause-within : goal.returns-clause-within
returns-clause-within c = omega (arith, length-take (c.counted-digits.result.0 + c.run_len-others.result) c.args.bytes.now)

pub slice_bounds-run-end : goal.slice_bounds-run-end
slice_bounds-run-end c =
    let bytes = c.args.bytes.now in
    let rest = ap length c.behind.ensures ∙ length-drop c.counted-digits.result.0 bytes in
    sym (length-take-le _ bytes (omega (arith, rest, c.counted-digits.ensures.within, c.run_len-others.ensures.within)))
