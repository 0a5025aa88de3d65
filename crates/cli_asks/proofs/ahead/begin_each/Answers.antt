use Rattle.std.proofs.Common.{◌≡◌}
use Rattle.bc_share.proofs.Noting.{same_session}
use Rattle.cli_asks.proofs.Beginning.{begun_none, begun_more, begun_kept}
use Rattle.cli_asks.proofs.ahead.begin_each.Goals as goal

pub loop-name-init : goal.loop-name-init
loop-name-init g c =
    let same : c.into_iter-name-iterator.result ≡ c.args.names.now.keys = c.into_iter-name-iterator.ensures.into_iter_gives.0 in
    begun_none _ _ _ _ same c.in_ok-asks.ensures.items

pub loop-name-preserved : goal.loop-name-preserved
loop-name-preserved g c =
    begun_more _ _ _ _ _ _ _ _ _ _ c.loop-name.invariant c.in-Some.ensures.steps c.begin.ensures.name c.in_ok-push.ensures.items c.begin.ensures.kept

pub returns-in_err-asks-clause-kept : goal.returns-in_err-asks-clause-kept
returns-in_err-asks-clause-kept g c = same_session _

pub returns-in_err-push-clause-kept : goal.returns-in_err-push-clause-kept
returns-in_err-push-clause-kept g c = begun_kept _ _ _ _ _ _ c.loop-name.invariant c.begin.ensures.kept

pub returns-clause-kept : goal.returns-clause-kept
returns-clause-kept g c = c.loop-name.invariant.kept
