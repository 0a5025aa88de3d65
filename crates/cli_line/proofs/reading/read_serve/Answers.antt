use Rattle.cli_line.proofs.Parts.{serve_is, serve_without_capacity, serve_without_sessions, serve_without_solver}
use Rattle.cli_line.proofs.reading.read_serve.Goals as goal

pub returns-in_default : goal.returns-in_default
returns-in_default c = serve_without_sessions _ c.in_default.ensures

pub returns-in_default-capacity_given : goal.returns-in_default-capacity_given
returns-in_default-capacity_given c = serve_without_capacity _ _ c.in-Some.ensures c.in_default-capacity_given.ensures

pub returns-in_default-solver_given : goal.returns-in_default-solver_given
returns-in_default-solver_given c = serve_without_solver _ _ _ c.in-Some.ensures c.in-Some-capacity_given.ensures c.in_default-solver_given.ensures

pub returns : goal.returns
returns c = serve_is _ _ _ _ _ c.in-Some.ensures c.in-Some-capacity_given.ensures c.in-Some-solver_given.ensures c.new.ensures
