use Rattle.std.proofs.Common.{List, [], ◌∷◌, ◌++◌, ap, ◌∙◌}
use Rattle.bc_share.specs.Sessions.{SessionView, new_sessions}
use Rattle.bc_share.proofs.Closings.{new_more}
use Rattle.bc_share.proofs.db.seated.Goals as goal

pub loop-number-preserved : goal.loop-number-preserved
loop-number-preserved g c =
    c.in_ok-push.ensures.items
    ∙ ap (λ (l : List SessionView). l ++ c.new.result ∷ []) c.loop-number.invariant
    ∙ ap (λ (s : SessionView). new_sessions c.args.tag c.loop-number.number ++ s ∷ []) c.new.ensures
    ∙ new_more c.args.tag c.loop-number.number
