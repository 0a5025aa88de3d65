use Rattle.std.proofs.Common.{◌≡◌, take}
use Rattle.std.specs.Prelude.{map}
use Rattle.bc_names.specs.Names.{NameParts}
use Rattle.bc_memo.specs.declared.place.Place.{Place}
use Rattle.bc_memo.proofs.shelf.units_of.Given as goal

abbrev pub invariant-loop-row : goal.invariant-loop-row
invariant-loop-row l = l.units.items ≡ map (λ (p : NameParts × Place). (p.0, p.1.unit)) (take l.row-index l.places)
