use Rattle.std.proofs.Common.{sym, ◌∙◌}
use Rattle.bc_prov.proofs.Equality.{declared}
use Rattle.bc_prov.proofs.pieces.PieceSet.is_over.Goals as goal

pub returns : goal.returns
returns c =
    let types = declared c.self.inside.types c.args.types.now in
    rw (← c.self.view_is) (λ t. types.0 (sym c.eq.ensures ∙ t), λ is. c.eq.ensures ∙ types.1 is)
