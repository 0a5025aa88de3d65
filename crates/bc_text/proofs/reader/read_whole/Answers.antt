use Rattle.std.proofs.Common.{◌≡◌, false, length, refl, arith}
use Rattle.std.specs.Prelude.{nat_lt}
use Rattle.std.proofs.lemmas.Bool.Decides.{nat_tests}
use Rattle.bc_text.specs.Reading.{read, read_whole}
use Rattle.bc_text.proofs.UnitLaws.{body_fits}
use Rattle.bc_text.proofs.reader.read_whole.Goals as goal

pub of_fitting-requires : goal.of_fitting-requires
of_fitting-requires c = body_fits _ _ c.body.result c.in_ok-body.field-0 c.body.ensures (c.in_ok-body.was {u = tt})

pub returns-clause-exact : goal.returns-clause-exact
unfolding read read_whole
returns-clause-exact c =
    let short : nat_lt 1048576 (length c.args.bytes.now) ≡ false = grind (arith, nat_tests, c.if-bytes-gt-MAX_TEXT.false) in
    let body = rw c.new-cursor.ensures at (c.in_ok-body.ensures {u = tt}) in
    rw (short, body, c.of_fitting.ensures) refl
