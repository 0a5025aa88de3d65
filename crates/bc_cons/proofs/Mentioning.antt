-- The regions of a type are those of its references and the arguments of the struct.
use Rattle.std.proofs.Common.{◌≡◌, ℕ, ◌<◌, Bool, ◌||◌, ◌==◌, List, [], ◌∷◌, ◌++◌, map, refl, ap, ◌∙◌}
use Rattle.std.specs.List.{All, list_any}
use Rattle.std.proofs.lemmas.List.Folds.{list_any-append}
use Rattle.std.proofs.lemmas.List.Elements.{All-nil, All-cons, All-head, All-tail}
use Rattle.bc_syntax.specs.declared.syntax.Region.{Region}
use Rattle.bc_syntax.specs.declared.syntax.Reference.{Reference}
use Rattle.bc_syntax.specs.declared.syntax.Ty.{Ty}
use Rattle.bc_points.specs.Regions.{region_number}
use Rattle.bc_types.specs.Mentions.{regions_of_references, regions_of_base}
use Rattle.bc_cons.specs.Starts.{mentions}

any_of_map : {A B : Type 0} (f : A → B) (p : B → Bool) (xs : List A) → list_any p (map f xs) ≡ list_any (λ x. p (f x)) xs
any_of_map f p [] = refl
any_of_map f p (x ∷ xs) = ap (λ b. p (f x) || b) (any_of_map f p xs)

pub mentioned : (universals region : ℕ) (ty : Ty) →
    mentions universals region ty
    ≡ (list_any (λ (reference : Reference). region_number universals reference.region == region) ty.references
    || list_any (λ (other : Region). region_number universals other == region) (regions_of_base ty.base))
mentioned universals region ty =
    let is_it : Region → Bool = λ other. region_number universals other == region in
    list_any-append is_it (regions_of_references ty.references) (regions_of_base ty.base)
    ∙ ap (λ b. b || list_any is_it (regions_of_base ty.base)) (any_of_map (λ (reference : Reference). reference.region) is_it ty.references)

pub all_below : (universals bound : ℕ) (references : List Reference) (more : List Region) → All (λ (region : Region). region_number universals region < bound) (regions_of_references references ++ more) →
    All (λ (reference : Reference). region_number universals reference.region < bound) references × All (λ (region : Region). region_number universals region < bound) more
all_below universals bound [] more all = (All-nil (λ (reference : Reference). region_number universals reference.region < bound), all)
all_below universals bound (reference ∷ references) more all =
    let is_below : Region → Type 0 = λ region. region_number universals region < bound in
    let rest = all_below universals bound references more (All-tail is_below reference.region (regions_of_references references ++ more) all) in (
      All-cons (λ (other : Reference). region_number universals other.region < bound) reference references (All-head is_below reference.region (regions_of_references references ++ more) all) rest.0,
      rest.1,
    )
