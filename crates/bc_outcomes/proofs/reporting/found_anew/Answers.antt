use Rattle.std.proofs.Common.{◌≡◌, List, ◌∙◌, sym, subst}
use Rattle.bc_syntax.specs.declared.syntax.Declaration.{Declaration}
use Rattle.bc_prov.specs.Pieces.{PieceSetView, AreOver, ArePieces}
use Rattle.bc_outcomes.proofs.Fits.{fit_over, some_fit}
use Rattle.bc_outcomes.proofs.reporting.found_anew.Goals as goal

pub of-requires : goal.of-requires
of-requires g c =
    let snapshot = c.args.snapshot.now in
    let pieces = c.in_ok-outcome.pieces in
    let fit = some_fit snapshot.types snapshot.units snapshot.root c.in_ok-outcome.outcome pieces.all.items pieces.unkept.items c.in_ok-outcome.ensures.pieces c.in_ok-outcome.ensures.unkept in
    let types : c.in_ok-types.types ≡ snapshot.types = c.in_ok-types.ensures.cases ∙ c.types.ensures in
    subst (λ (ts : List Declaration). AreOver ts pieces.unkept.items) (sym types) (fit_over snapshot.types snapshot.units pieces.unkept.items fit)

pub returns-clause-fit : goal.returns-clause-fit
returns-clause-fit g c =
    let snapshot = c.args.snapshot.now in
    let pieces = c.in_ok-outcome.pieces in
    subst (λ (set : PieceSetView). ArePieces snapshot.types snapshot.units set.rows) (sym c.of.ensures)
    (some_fit snapshot.types snapshot.units snapshot.root c.in_ok-outcome.outcome pieces.all.items pieces.unkept.items c.in_ok-outcome.ensures.pieces c.in_ok-outcome.ensures.unkept)
