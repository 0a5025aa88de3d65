use Rattle.std.proofs.Common.{subst}
use Rattle.bc_share.specs.Sessions.{SessionView, Stays}
use Rattle.bc_share.proofs.Noting.{made_again}
use Rattle.bc_share.proofs.session.Session.make.Goals as goal

pub returns-clause-made : goal.returns-clause-made
returns-clause-made g c = made_again c.enter.result _ (λ made. made.event) _ _ _ (subst (λ (s : SessionView). Stays s c.reserve.new.self.session) c.self.view_is c.reserve.ensures.kept) c.enter.ensures.made
