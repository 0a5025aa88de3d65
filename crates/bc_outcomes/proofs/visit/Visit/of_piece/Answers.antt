use Rattle.std.proofs.Common.{ap, ◌∙◌}
use Rattle.bc_prov.specs.Pieces.{PieceView}
use Rattle.bc_outcomes.proofs.visit.Visit.of_piece.Goals as goal

pub returns : goal.returns
returns c =
    let unit = c.in_ok-unit.ensures.cases ∙ c.unit.ensures ∙ ap (λ (p : PieceView). p.unit) c.get.ensures in
    let typed = c.in_ok-typed.ensures.cases ∙ c.typed.ensures.value ∙ ap (λ (p : PieceView). p.mir) c.get-2.ensures in
    λ i. record { name = c.args.name; unit = unit i; typed = typed i }
