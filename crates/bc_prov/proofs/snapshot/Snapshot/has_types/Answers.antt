use Rattle.std.proofs.Common.{ap, sym, ◌∙◌}
use Rattle.bc_prov.specs.Pieces.{PieceView}
use Rattle.bc_prov.specs.Snapshots.{SnapshotView}
use Rattle.bc_prov.proofs.Equality.{declared}
use Rattle.bc_prov.proofs.snapshot.Snapshot.has_types.Goals as goal

pub returns : goal.returns
returns c = λ t.
    sym (c.types.ensures ∙ ap (λ (p : PieceView). p.types) c.get.ensures)
    ∙ (declared c.types.result.now c.self.inside.types).0 (sym c.eq.ensures ∙ t)
    ∙ ap (λ (s : SnapshotView). s.types) c.self.view_is
