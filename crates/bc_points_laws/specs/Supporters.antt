-- Supporting prefixes through the fields of structs, found by taking away last projections.
use Rattle.std.specs.Prelude.{ℕ, Bool, false, not, Option, Some, None, option_and_then, if◌then◌else◌, List, [], ◌∷◌, reverse}
use Rattle.bc_syntax.specs.declared.syntax.Ty.{Ty}
use Rattle.bc_syntax.specs.declared.syntax.Place.{Place}
use Rattle.bc_syntax.specs.declared.syntax.Reference.{Reference}
use Rattle.bc_syntax.specs.declared.syntax.Projection.{Projection}
use Rattle.bc_syntax.specs.declared.syntax.Projection.TheVariants.{Deref, Field}
use Rattle.bc_shapes.specs.Mutabilities.{is_mutable}
use Rattle.bc_bodies.specs.Mir.{Mir}
use Rattle.bc_bodies.specs.PlaceTypes.{type_of_place}

-- the place of a local and of projections that are given last first
abbrev pub place_of : ℕ → List Projection → Place
place_of local last_first = record { local = local; projections = reverse last_first }

-- there is a reference, and it is shared
abbrev pub is_shared : Option Reference → Bool
is_shared None = false
is_shared (Some reference) = not (is_mutable reference.mutability)

-- the outermost reference, if the projection dereferences it
abbrev pub referenced : Projection → List Reference → Option Reference
referenced Deref [] = None
referenced Deref (reference ∷ references) = Some reference
referenced (Field k) references = None

-- the reference that a projection of a type dereferences
abbrev pub reference_taken : Projection → Ty → Option Reference
reference_taken projection ty = referenced projection ty.references

-- the reference that the last projection of a place dereferences; the projections are given last first
abbrev pub last_taken_of : Mir → ℕ → List Projection → Option Reference
last_taken_of mir local [] = None
last_taken_of mir local (last ∷ before) =
    option_and_then (reference_taken last) (type_of_place mir (place_of local before))

-- the reference that the last projection of a place dereferences
abbrev pub last_taken : Mir → Place → Option Reference
last_taken mir place = last_taken_of mir place.local (reverse place.projections)

-- the place and its prefixes, the longest first, up to one whose last projection dereferences a shared reference, which is included
abbrev pub supporters_from : Mir → ℕ → List Projection → List Place
supporters_from mir local [] = place_of local [] ∷ []
supporters_from mir local (last ∷ before) =
    place_of local (last ∷ before)
    ∷ (if is_shared (last_taken_of mir local (last ∷ before)) then [] else supporters_from mir local before)

-- the supporting prefixes of a place, the place itself first
abbrev pub supporters : Mir → Place → List Place
supporters mir place = supporters_from mir place.local (reverse place.projections)
