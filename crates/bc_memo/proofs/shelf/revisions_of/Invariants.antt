use Rattle.std.proofs.Common.{◌≡◌, take}
use Rattle.std.specs.Prelude.{map}
use Rattle.bc_names.specs.Names.{NameParts}
use Rattle.bc_memo.specs.declared.place.Place.{Place}
use Rattle.bc_memo.proofs.shelf.revisions_of.Given as goal

abbrev pub invariant-loop-row : goal.invariant-loop-row
invariant-loop-row l = l.revisions.items ≡ map (λ (p : NameParts × Place). p.1.revision) (take l.row-index l.places)
