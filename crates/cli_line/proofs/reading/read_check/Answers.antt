use Rattle.std.proofs.Common.{Err, rules, subst, sym}
use Rattle.clap.specs.Words.{found_of, rows_of}
use Rattle.cli_line.specs.declared.fault.LineFault.{LineFault}
use Rattle.cli_line.specs.Written.{GivesParts, check_given}
use Rattle.cli_line.proofs.Parts.{check_is, check_of_both, check_without_file, check_without_jobs, check_without_solver}
use Rattle.cli_line.proofs.reading.read_check.Goals as goal

pub returns-in_default : goal.returns-in_default
returns-in_default c = check_without_file _ c.in_default.ensures

pub returns-in-Err : goal.returns-in-Err
returns-in-Err c =
    let wrong = c.in-Err.ensures.wrong in
    subst (λ (fault : LineFault). GivesParts (check_given (rows_of (found_of c.args.matches.now))) (Err fault)) (sym wrong.0) (check_without_jobs _ _ c.in-Some.ensures wrong.1)

pub returns-in_default-solver_given : goal.returns-in_default-solver_given
returns-in_default-solver_given c = check_without_solver _ _ _ c.in-Some.ensures c.in-Ok.ensures.given c.in_default-solver_given.ensures

pub returns-then-asks_for_both : goal.returns-then-asks_for_both
returns-then-asks_for_both c = check_of_both _ _ _ _ c.in-Some.ensures c.in-Ok.ensures.given c.in-Some-solver_given.ensures (search rules)

pub returns : goal.returns
returns c =
    check_is _ _ _ _ _ _ _ _ _ c.in-Some.ensures c.in-Ok.ensures.given c.in-Some-solver_given.ensures (search rules) c.in_ok-file.ensures.ok
    c.is_set-json.ensures c.is_set-source.ensures c.is_set-positions.ensures c.new.ensures
