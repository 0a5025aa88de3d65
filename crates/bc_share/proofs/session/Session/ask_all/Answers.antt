use Rattle.std.proofs.Common.{refl}
use Rattle.std.specs.Arc.{arc_value}
use Rattle.bc_calls.specs.declared.call.Event.TheVariants as events
use Rattle.bc_share.proofs.Noting.{told_again, refused_again}
use Rattle.bc_share.proofs.session.Session.ask_all.Goals as goal

pub returns-clause-told : goal.returns-clause-told
returns-clause-told g c = told_again c.settle_all.result (λ l. events.All (arc_value l)) (λ l. events.All (arc_value l)) _ _ _ c.begin_all.ensures.kept (λ l. refl) c.settle_all.ensures.told

pub returns-clause-refused : goal.returns-clause-refused
returns-clause-refused g c = refused_again c.settle_all.result _ _ _ c.begin_all.ensures.kept c.settle_all.ensures.refused
