use Rattle.std.proofs.Common.{ap, ◌∙◌}
use Rattle.std.specs.Arc.{arc_value}
use Rattle.bc_calls.specs.declared.call.Event.TheVariants.{Ask}
use Rattle.bc_prov.specs.Snapshots.{SnapshotView}
use Rattle.bc_share.proofs.Noting.{told_again, refused_again}
use Rattle.bc_share.proofs.session.Session.ask.Goals as goal

pub returns-clause-told : goal.returns-clause-told
returns-clause-told g c =
    let name = ap (λ (s : SnapshotView). s.root) c.in_ok-work.ensures.same ∙ c.in_ok-begun.ensures.part.root in
    told_again c.settle.result (λ o. Ask c.in_ok-work.work.snapshot.root (arc_value o)) (λ o. Ask c.args.name.now (arc_value o)) _ _ _ c.begin.ensures.kept (λ o. ap (λ n. Ask n (arc_value o)) name) c.settle.ensures.told

pub returns-clause-refused : goal.returns-clause-refused
returns-clause-refused g c = refused_again c.settle.result _ _ _ c.begin.ensures.kept c.settle.ensures.refused
