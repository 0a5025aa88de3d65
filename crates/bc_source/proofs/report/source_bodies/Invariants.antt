use Rattle.std.proofs.Common.{◌≡◌, map, take}
use Rattle.bc_source.specs.Report.{sourced}
use Rattle.bc_source.proofs.report.source_bodies.Given as goal

abbrev pub invariant-loop-body : goal.invariant-loop-body
invariant-loop-body l = l.found.items ≡ map (sourced l.sources) (take l.body-index l.bodies)
