use Rattle.std.proofs.Common.{arith}
use Rattle.cli_run.proofs.Numbers.{one_digit, two_digits}
use Rattle.cli_run.proofs.header.behind_number.Goals as goal

pub returns-then-number-lt10-clause-found : goal.returns-then-number-lt10-clause-found
returns-then-number-lt10-clause-found c = rw (one_digit c.args.number (omega (arith, c.if-number-lt10.true))) c.behind.ensures.found

pub returns-then-number-lt10-clause-none : goal.returns-then-number-lt10-clause-none
returns-then-number-lt10-clause-none c = rw (one_digit c.args.number (omega (arith, c.if-number-lt10.true))) c.behind.ensures.none

pub returns-clause-found : goal.returns-clause-found
returns-clause-found c = rw (two_digits c.args.number (omega (arith, c.if-number-lt10.false)) (omega (arith, c.requires))) c.behind-2.ensures.found

pub returns-clause-none : goal.returns-clause-none
returns-clause-none c = rw (two_digits c.args.number (omega (arith, c.if-number-lt10.false)) (omega (arith, c.requires))) c.behind-2.ensures.none
