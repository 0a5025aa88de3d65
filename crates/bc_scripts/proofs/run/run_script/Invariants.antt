use Rattle.std.proofs.Common.{take}
use Rattle.bc_scripts.specs.Runs.{HasMade}
use Rattle.bc_scripts.proofs.run.run_script.Given as goal

abbrev pub invariant-loop-number : goal.invariant-loop-number
invariant-loop-number g l = HasMade l.fn.session l.session (take l.number l.script)
