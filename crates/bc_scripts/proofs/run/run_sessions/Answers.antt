use Rattle.std.proofs.Common.{List, subst}
use Rattle.std.specs.Prelude.{map}
use Rattle.bc_calls.specs.declared.call.Call.{Call}
use Rattle.bc_scripts.specs.declared.run.End.{End}
use Rattle.bc_share.specs.Sessions.{SessionView}
use Rattle.bc_scripts.specs.Runs.{AreRuns}
use Rattle.bc_scripts.proofs.Running.{runs_whole}
use Rattle.bc_scripts.proofs.run.run_sessions.Goals as goal

pub returns-clause-run : goal.returns-clause-run
returns-clause-run g c =
    runs_whole c.args.sessions.items c.args.scripts.items c.seat_all.new.ran.items c.run_all.new.ran c.seat_all.new.ran.len c.seat_all.ensures c.seat_all.new.ran.ok.0
    (subst (λ (x : List (SessionView × End) × List (List Call)). AreRuns (map (λ (s : SessionView × End). s.0) x.0) x.1 c.run_all.new.ran) (λ i. (c.deref_mut.ensures.value i, c.deref.ensures.value i)) c.run_all.ensures)
