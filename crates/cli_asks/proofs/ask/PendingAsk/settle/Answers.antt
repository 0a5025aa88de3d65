use Rattle.std.proofs.Common.{ap}
use Rattle.std.specs.Arc.{arc_value}
use Rattle.bc_calls.specs.declared.call.Event.TheVariants.{Ask}
use Rattle.bc_names.specs.Names.{NameParts}
use Rattle.cli_asks.proofs.Settling.{told_as, refused_same}
use Rattle.cli_asks.proofs.ask.PendingAsk.settle.Goals as goal

pub returns-clause-told : goal.returns-clause-told
returns-clause-told g c =
    told_as c.settle.result (λ o. Ask c.in_ok-work.work.snapshot.root (arc_value o)) _ _ _ (λ o. ap (λ (n : NameParts). Ask n (arc_value o)) c.in_ok-work.ensures) c.settle.ensures.told

pub returns-clause-refused : goal.returns-clause-refused
returns-clause-refused g c = refused_same c.settle.result _ _ c.settle.ensures.refused
