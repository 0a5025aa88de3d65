use Rattle.std.proofs.Common.{◌∷◌, ◌+◌, drop, map, refl, sym, ap, ◌∙◌}
use Rattle.std.proofs.lemmas.List.{at_drop_more}
use Rattle.bc_prov.specs.Pieces.{PieceView}
use Rattle.bc_types.proofs.Appending.{appended-turn, appended-all}
use Rattle.bc_outcomes.specs.Reported.{errors_in}
use Rattle.bc_outcomes.proofs.verdicts.errors_of.Goals as goal

pub loop-piece-preserved : goal.loop-piece-preserved
loop-piece-preserved c =
    let each = map errors_in in
    let pieces = c.args.pieces.now in
    let i = c.loop-piece.piece-index in
    let errors = c.in_ok-errors.ensures.cases ∙ c.errors.ensures.value ∙ ap (λ (p : PieceView). p.verdict.errors) c.get.ensures in
    let grown = rw errors at c.in_ok-push.ensures.items in
    let one = at_drop_more each pieces i c.piece-item.result c.loop-piece-test.true ∙ ap (λ piece. each (piece ∷ drop (i + 1) pieces)) (sym c.piece-item.is) in
    appended-turn each _ _ pieces i _ _ grown one c.loop-piece.invariant

pub returns : goal.returns
returns c = appended-all (map errors_in) _ _ c.args.pieces.now c.loop-piece.piece-index c.loop-piece-test.false refl c.loop-piece.invariant
