use Rattle.std.proofs.Common.{◌≡◌, ◌<◌, ℕ, get_or}
use Rattle.bc_names.specs.Names.{NameParts}
use Rattle.bc_memo.specs.declared.place.Place.{Place}
use Rattle.bc_memo.proofs.shelf.are_revisions.Given as goal

abbrev pub invariant-loop-index : goal.invariant-loop-index
invariant-loop-index l = (k : ℕ) (d : NameParts × Place) (e : ℕ) → k < l.index → get_or l.revisions k e ≡ (get_or l.places k d).1.revision
