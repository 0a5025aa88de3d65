use Rattle.std.proofs.Common.{◌≡◌, ◌++◌, drop}
use Rattle.std.specs.List.{flat_map, enumerate_from}
use Rattle.bc_loans.specs.Loans.{loans_of_step}
use Rattle.bc_loans.proofs.loan_list.loans_of_steps.Given as goal

abbrev pub invariant-loop-point : goal.invariant-loop-point
invariant-loop-point l =
    l.loans.items ++ flat_map loans_of_step (enumerate_from l.point (drop l.point l.steps))
    ≡ flat_map loans_of_step (enumerate_from 0 l.steps)
