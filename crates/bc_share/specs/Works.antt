-- Work on what was begun.
use Rattle.std.specs.Prelude.{◌≡◌}
use Rattle.bc_names.specs.Names.{NameParts}
use Rattle.bc_prov.specs.Outcome.{IsOutcomeIn}
use Rattle.bc_prov.specs.Snapshots.{SnapshotView, IsPartOf}
use Rattle.bc_prov.specs.State.{State}
use Rattle.bc_calls.specs.Works.{WorkView}

-- the work was done on this part, and its outcome is right for a name in each state of which this is the name's part
pub record IsWorkOn (begun : SnapshotView) (work : WorkView) : Type 0 where
  pub same : work.snapshot ≡ begun
  pub outcome : (name : NameParts) (state : State) → IsPartOf begun name state → IsOutcomeIn state name work.outcome
