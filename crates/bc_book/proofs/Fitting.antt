-- No pieces fit.
use Rattle.std.proofs.Common.{◌≡◌, Option, None, sym, subst}
use Rattle.std.specs.List.{AllByRecursion}
use Rattle.bc_names.specs.Names.{NameParts}
use Rattle.bc_prov.specs.Pieces.{PieceSetView, PieceView, rows_of}

-- all is true of no pieces
pub none_fit : (P : NameParts × PieceView → Type 0) (pieces : Option PieceSetView) → pieces ≡ None → AllByRecursion P (rows_of pieces)
none_fit P pieces none = subst (λ (p : Option PieceSetView). AllByRecursion P (rows_of p)) (sym none) tt
