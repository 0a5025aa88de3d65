use Rattle.std.proofs.Common.{◌≡◌, ◌≤◌, ◌+◌, ◌++◌, length, vec_capacity}
use Rattle.cli_run.specs.Runs.{sessions_of, ends_of}
use Rattle.cli_run.proofs.make.part.Given as goal

abbrev pub invariant-loop-session : goal.invariant-loop-session
invariant-loop-session g l = record {
  sessions : l.sessions.items ++ sessions_of l.session-iterator.rest.items ≡ sessions_of l.fn.ran.items;
  ends : l.ends.items ++ ends_of l.session-iterator.rest.items ≡ ends_of l.fn.ran.items;
  room : length l.session-iterator.rest.items + length l.sessions.items ≤ vec_capacity l.sessions;
  room_for_ends : length l.session-iterator.rest.items + length l.ends.items ≤ vec_capacity l.ends;
}
