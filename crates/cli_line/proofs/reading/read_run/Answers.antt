use Rattle.cli_line.proofs.Parts.{run_is, run_without_file, run_without_sessions, run_without_solver}
use Rattle.cli_line.proofs.reading.read_run.Goals as goal

pub returns-in_default : goal.returns-in_default
returns-in_default c = run_without_file _ c.in_default.ensures

pub returns-in_default-sessions_given : goal.returns-in_default-sessions_given
returns-in_default-sessions_given c = run_without_sessions _ _ c.in-Some.ensures c.in_default-sessions_given.ensures

pub returns-in_default-solver_given : goal.returns-in_default-solver_given
returns-in_default-solver_given c = run_without_solver _ _ _ c.in-Some.ensures c.in-Some-sessions_given.ensures c.in_default-solver_given.ensures

pub returns : goal.returns
returns c =
    run_is _ _ _ _ _ _ _ _ c.in-Some.ensures c.in-Some-sessions_given.ensures c.in-Some-solver_given.ensures c.in_ok-file.ensures.ok
    c.is_set-json.ensures c.is_set-positions.ensures c.new.ensures
