-- `from_last_shared` of one more reference.
use Rattle.std.proofs.Common.{◌≡◌, Bool, true, false, ◌&&◌, cond, List, [], ◌∷◌, ◌++◌, refl, ap, ◌∙◌}
use Rattle.std.proofs.lemmas.List.Folds.{list_all-append}
use Rattle.bc_syntax.specs.declared.syntax.Reference.{Reference}
use Rattle.bc_shapes.specs.Mutabilities.{is_mutable}
use Rattle.bc_bodies.specs.Places.{are_mutable}
use Rattle.bc_points.specs.Prefixes.{from_last_shared}

choose : (mutable all : Bool) (first reference : Reference) (references rest : List Reference) → cond (all && (mutable && true)) (first ∷ references ++ reference ∷ []) (cond mutable (rest ++ reference ∷ []) (reference ∷ [])) ≡ cond mutable (cond all (first ∷ references) rest ++ reference ∷ []) (reference ∷ [])
choose true true first reference references rest = refl
choose true false first reference references rest = refl
choose false true first reference references rest = refl
choose false false first reference references rest = refl

choose-none : (mutable : Bool) (reference : Reference) → reference ∷ [] ≡ cond mutable (reference ∷ []) (reference ∷ [])
choose-none true reference = refl
choose-none false reference = refl

-- if the last reference is shared, it alone is left; if it is mutable, it follows what was left
pub from_last_shared-more : (references : List Reference) (reference : Reference) → from_last_shared (references ++ reference ∷ []) ≡ cond (is_mutable reference.mutability) (from_last_shared references ++ reference ∷ []) (reference ∷ [])
from_last_shared-more [] reference = choose-none (is_mutable reference.mutability) reference
from_last_shared-more (first ∷ references) reference =
    ap (λ all. cond all (first ∷ references ++ reference ∷ []) (from_last_shared (references ++ reference ∷ []))) (list_all-append (λ (r : Reference). is_mutable r.mutability) references (reference ∷ []))
    ∙ ap (λ rest. cond (are_mutable references && (is_mutable reference.mutability && true)) (first ∷ references ++ reference ∷ []) rest) (from_last_shared-more references reference)
    ∙ choose (is_mutable reference.mutability) (are_mutable references) first reference references (from_last_shared references)
