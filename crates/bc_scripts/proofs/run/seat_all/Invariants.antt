use Rattle.std.proofs.Common.{◌≡◌, ◌≤◌, ◌+◌, ◌++◌, length, vec_capacity}
use Rattle.bc_scripts.specs.Runs.{seats}
use Rattle.bc_scripts.proofs.run.seat_all.Given as goal

abbrev pub invariant-loop-session : goal.invariant-loop-session
invariant-loop-session g l =
    (l.ran.items ++ seats l.session-iterator.rest.items ≡ seats l.fn.sessions.items)
    × (length l.session-iterator.rest.items + length l.ran.items ≤ vec_capacity l.ran)
