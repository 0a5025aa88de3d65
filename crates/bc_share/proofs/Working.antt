-- Working on all that was begun, one after another.
use Rattle.std.proofs.Common.{◌≡◌, List, [], ◌∷◌, ◌++◌, append_assoc, sym, ap, ◌∙◌, subst}
use Rattle.std.specs.List.{AllZip}
use Rattle.std.proofs.lemmas.List.{append-nil}
use Rattle.bc_prov.specs.Snapshots.{SnapshotView}
use Rattle.bc_calls.specs.Works.{WorkView}
use Rattle.bc_versions.proofs.Tables.{zip_more}
use Rattle.bc_share.specs.Works.{IsWorkOn}

-- the works are on all that was begun, except for what is left
pub record HasWorked (all left : List SnapshotView) (works : List WorkView) : Type 0 where
  pub before : List SnapshotView
  pub cut : all ≡ before ++ left
  pub good : AllZip IsWorkOn before works

pub worked_none : (all left : List SnapshotView) (works : List WorkView) → all ≡ left → works ≡ [] → HasWorked all left works
worked_none all left works same none = record { before = []; cut = same; good = subst (λ (ws : List WorkView). AllZip IsWorkOn [] ws) (sym none) tt }

pub worked_more : (all left rest : List SnapshotView) (works works' : List WorkView) (begun : SnapshotView) (work : WorkView) → HasWorked all left works → left ≡ begun ∷ rest → works' ≡ works ++ work ∷ [] → IsWorkOn begun work → HasWorked all rest works'
worked_more all left rest works works' begun work h next longer is = record {
  before = h.before ++ begun ∷ [];
  cut = h.cut ∙ ap (λ (bs : List SnapshotView). h.before ++ bs) next ∙ sym (append_assoc h.before (begun ∷ []) rest);
  good = subst (λ (ws : List WorkView). AllZip IsWorkOn (h.before ++ begun ∷ []) ws) (sym longer) (zip_more IsWorkOn h.before works begun work h.good is);
}

pub worked_all : (all left : List SnapshotView) (works : List WorkView) → HasWorked all left works → left ≡ [] → AllZip IsWorkOn all works
worked_all all left works h none =
    let same : all ≡ h.before = h.cut ∙ ap (λ (bs : List SnapshotView). h.before ++ bs) none ∙ append-nil h.before in
    subst (λ (bs : List SnapshotView). AllZip IsWorkOn bs works) (sym same) h.good
