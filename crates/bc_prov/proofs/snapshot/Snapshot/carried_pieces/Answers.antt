use Rattle.std.proofs.Common.{sym, ap, ◌∙◌, subst}
use Rattle.std.specs.Prelude.{IfSome}
use Rattle.std.specs.List.{AllByRecursion}
use Rattle.bc_names.specs.Names.{NameParts}
use Rattle.bc_prov.specs.Pieces.{PieceView, ArePieces, IsPieceFor, pieces_at}
use Rattle.bc_prov.specs.Snapshots.{PieceList}
use Rattle.bc_prov.specs.State.{at_name}
use Rattle.bc_prov.proofs.Runs.{pieces_at_for}
use Rattle.bc_prov.proofs.snapshot.Snapshot.carried_pieces.Goals as goal

pub returns-in-Some : goal.returns-in-Some
returns-in-Some c =
    let types = c.self.inside.types in
    let units = c.self.inside.units.items in
    let n : NameParts = c.args.name.now in
    let are : ArePieces types units c.in-Some.pieces.items = subst (λ (o : PieceList). IfSome o (λ ps. ArePieces types units ps.items)) c.in-Some.is c.self.invariant.offered_pieces in
    rw (← c.self.view_is)
    (subst (AllByRecursion (λ (p : NameParts × PieceView). IsPieceFor types (at_name units n) p.1)) (sym (c.pieces_of_name.ensures ∙ ap (pieces_at n) c.deref.ensures.value)) (pieces_at_for n types units c.in-Some.pieces.items are))
