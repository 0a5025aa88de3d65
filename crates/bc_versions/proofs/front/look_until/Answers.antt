use Rattle.std.proofs.Common.{[], sym}
use Rattle.std.proofs.lemmas.List.{append-nil}
use Rattle.bc_calls.proofs.Beginnings.{starts_again}
use Rattle.bc_versions.proofs.front.look_until.Goals as goal

pub loop-init : goal.loop-init
loop-init g c = (([], sym (append-nil _)), c.requires)

pub returns-then-reached-clause-later : goal.returns-then-reached-clause-later
returns-then-reached-clause-later g c = starts_again _ _ _ c.read_last-next.ensures.later c.loop.invariant.0

pub returns-then-reached-clause-legal : goal.returns-then-reached-clause-legal
returns-then-reached-clause-legal g c = c.read_last-next.ensures.legal c.loop.invariant.1

pub loop-preserved : goal.loop-preserved
loop-preserved g c = (starts_again _ _ _ c.read_last-next.ensures.later c.loop.invariant.0, c.read_last-next.ensures.legal c.loop.invariant.1)
