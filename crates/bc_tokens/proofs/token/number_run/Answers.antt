use Rattle.std.proofs.Common.{◌≡◌, true, false, slice_index, arith}
use Rattle.std.specs.Prelude.{◌==◌}
use Rattle.std.specs.Char.{is_ascii_digit}
use Rattle.std.proofs.lemmas.Grind.{common_steps}
use Rattle.std.proofs.lemmas.Bool.Decides.{nat_tests}
use Rattle.std.proofs.lemmas.List.{length-take}
use Rattle.bc_syntax.specs.Bytes.{is_run_byte}
use Rattle.bc_tokens.proofs.Runs.{one_digit, two_digits}
use Rattle.bc_tokens.proofs.token.number_run.Goals as goal

pub returns-then-not-is_run_byte-clause-number : goal.returns-then-not-is_run_byte-clause-number
returns-then-not-is_run_byte-clause-number c =
    let bytes = c.args.bytes.now in
    let digit : is_ascii_digit (slice_index bytes 0) ≡ true = grind (arith, common_steps) in
    let end : is_run_byte (slice_index bytes 1) ≡ false = grind (arith, common_steps) in
    (one_digit bytes digit end).1

pub returns-then-not-is_run_byte-2-clause-run : goal.returns-then-not-is_run_byte-2-clause-run
returns-then-not-is_run_byte-2-clause-run c =
    let bytes = c.args.bytes.now in
    let digit : is_ascii_digit (slice_index bytes 0) ≡ true = grind (arith, common_steps) in
    let other : (slice_index bytes 0 == 48) ≡ false = grind (arith, nat_tests, common_steps) in
    let second : is_ascii_digit (slice_index bytes 1) ≡ true = grind (arith, common_steps) in
    let end : is_run_byte (slice_index bytes 2) ≡ false = grind (arith, common_steps) in
    (two_digits bytes digit other second end).0

pub returns-then-not-is_run_byte-2-clause-number : goal.returns-then-not-is_run_byte-2-clause-number
returns-then-not-is_run_byte-2-clause-number c =
    let bytes = c.args.bytes.now in
    let digit : is_ascii_digit (slice_index bytes 0) ≡ true = grind (arith, common_steps) in
    let other : (slice_index bytes 0 == 48) ≡ false = grind (arith, nat_tests, common_steps) in
    let second : is_ascii_digit (slice_index bytes 1) ≡ true = grind (arith, common_steps) in
    let end : is_run_byte (slice_index bytes 2) ≡ false = grind (arith, common_steps) in
    (two_digits bytes digit other second end).1

pub returns-then-not-is_run_byte-clause-within : goal.returns-then-not-is_run_byte-clause-within
returns-then-not-is_run_byte-clause-within c = omega (arith, length-take 1 c.args.bytes.now)

pub returns-then-not-is_run_byte-clause-run : goal.returns-then-not-is_run_byte-clause-run
returns-then-not-is_run_byte-clause-run c =
    let bytes = c.args.bytes.now in
    let digit : is_ascii_digit (slice_index bytes 0) ≡ true = grind (arith, common_steps) in
    let end : is_run_byte (slice_index bytes 1) ≡ false = grind (arith, common_steps) in
    (one_digit bytes digit end).0

pub returns-then-not-is_run_byte-2-clause-within : goal.returns-then-not-is_run_byte-2-clause-within
returns-then-not-is_run_byte-2-clause-within c = omega (arith, length-take 2 c.args.bytes.now)
