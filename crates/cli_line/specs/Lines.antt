-- The parts of a line.
use Rattle.std.specs.Prelude.{◌≡◌, ◌≤◌, ◌&&◌, Bool, true, false}
use Rattle.cli_line.specs.declared.solver.Solver.{Solver}
use Rattle.cli_line.specs.declared.solver.Solver.TheVariants.{Components}
use Rattle.cli_line.specs.declared.line.Line.{Line}
use Rattle.cli_line.specs.declared.line.Line.TheVariants.{Check, Run, Serve, Print}

-- the line is of `check`
abbrev pub is_check : Line → Bool
is_check (Check check) = true
is_check (Run run) = false
is_check (Serve serve) = false
is_check (Print print) = false

-- the line is of `run`
abbrev pub is_run : Line → Bool
is_run (Check check) = false
is_run (Run run) = true
is_run (Serve serve) = false
is_run (Print print) = false

-- the solver of a line; `print` solves nothing, and counts as by components
abbrev pub solver_of : Line → Solver
solver_of (Check check) = check.solver
solver_of (Run run) = run.solver
solver_of (Serve serve) = serve.solver
solver_of (Print print) = Components

-- a line of `check` does not have both `--json` and `--source`, a line of `run` or `serve` has 1 to 16 sessions, and the history of a line
-- of `serve` has 1 to 1,000,000 entries
abbrev pub IsInRange : Line → Type 0
IsInRange (Check check) = (check.json && check.source) ≡ false
IsInRange (Run run) = (1 ≤ run.sessions) × (run.sessions ≤ 16)
IsInRange (Serve serve) = ((1 ≤ serve.sessions) × (serve.sessions ≤ 16)) × ((1 ≤ serve.capacity) × (serve.capacity ≤ 1000000))
IsInRange (Print print) = Unit {0}
