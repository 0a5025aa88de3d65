use Rattle.bc_prov.specs.Pieces.{IsPieceFor}
use Rattle.bc_prov.specs.Snapshots.{IsAmongPieces}
use Rattle.bc_prov.specs.State.{at_name}
use Rattle.bc_prov.proofs.Sets.{among_for, some_map}
use Rattle.bc_prov.proofs.snapshot.Snapshot.kept_piece.Goals as goal

pub returns : goal.returns
returns c =
    let kept = c.self.inside.kept in
    let types = c.self.inside.types in
    let units = c.self.inside.units.items in
    rw (← c.self.view_is)
    (some_map c.piece_of_name.result (λ p. IsAmongPieces kept c.args.name.now p.now) (λ p. IsPieceFor types (at_name units c.args.name.now) p.now)
    (λ p. among_for types units kept c.args.name.now p.now c.self.invariant.kept_pieces) c.piece_of_name.ensures)
