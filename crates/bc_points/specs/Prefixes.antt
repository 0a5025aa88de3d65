-- Prefixes of places.
use Rattle.std.specs.Prelude.{Bool, true, false, ◌==◌, if◌then◌else◌, Option, Some, None, is_some, List, [], ◌∷◌}
use Rattle.std.specs.List.{list_all}
use Rattle.std.specs.Option.{option_map_or}
use Rattle.bc_syntax.specs.declared.syntax.Place.{Place}
use Rattle.bc_syntax.specs.declared.syntax.Reference.{Reference}
use Rattle.bc_syntax.specs.declared.syntax.Projection.{Projection}
use Rattle.bc_syntax.specs.declared.syntax.Projection.TheVariants.{Deref, Field}
use Rattle.bc_bodies.specs.Places.{are_mutable, is_field}

-- the references that the supporting prefixes of a place dereference: of all that it dereferences, those from the last shared one on, and
-- all of them if none is shared (RFC 2094, "Reborrow constraints")
abbrev pub from_last_shared : List Reference → List Reference
from_last_shared [] = []
from_last_shared (reference ∷ references) =
    if are_mutable references then reference ∷ references else from_last_shared references

-- two projections are the same
abbrev pub same_projection : Projection → Projection → Bool
same_projection Deref Deref = true
same_projection Deref (Field k) = false
same_projection (Field j) Deref = false
same_projection (Field j) (Field k) = j == k

-- the projections that follow a beginning of a list, or none if the list does not begin with it
abbrev pub rest_after : List Projection → List Projection → Option (List Projection)
rest_after [] projections = Some projections
rest_after (first ∷ beginning) [] = None
rest_after (first ∷ beginning) (second ∷ projections) =
    if same_projection first second then rest_after beginning projections else None

-- the projections that are taken away from a place to leave a prefix of it, or none if it is no prefix
abbrev pub rest_of : Place → Place → Option (List Projection)
rest_of prefix place =
    if prefix.local == place.local then rest_after prefix.projections place.projections else None

-- a prefix of a place: what is left when last projections, or none, are taken away (RFC 2094, "Borrow checker phase 2")
abbrev pub is_prefix : Place → Place → Bool
is_prefix prefix place = is_some (rest_of prefix place)

-- a shallow prefix of a place: only fields are taken away from the place (RFC 2094, "Borrow checker phase 2")
abbrev pub is_shallow_prefix : Place → Place → Bool
is_shallow_prefix prefix place = option_map_or (list_all is_field) (rest_of prefix place) false
