use Rattle.std.proofs.Common.{ap, sym, ◌∙◌}
use Rattle.std.specs.Prelude.{Some}
use Rattle.bc_syntax.proofs.Equality.{body}
use Rattle.bc_prov.specs.Pieces.{PieceView}
use Rattle.bc_prov.proofs.snapshot.Snapshot.has_unit.Goals as goal

pub returns-in-Some : goal.returns-in-Some
returns-in-Some c =
    let piece = c.args.entry.now.1 in
    let mine = c.unit-in-Some.ensures ∙ ap (λ (p : PieceView). p.unit) c.get.ensures in
    λ t.
    let same = (body c.unit-in-Some.result.now c.in-Some.unit.now).0 (sym c.eq.ensures ∙ t) in
    sym c.in-Some.ensures.unit ∙ ap Some (sym same ∙ mine)
