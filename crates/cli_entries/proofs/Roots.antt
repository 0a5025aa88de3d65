-- The values of roots, one after another.
use Rattle.std.proofs.Common.{ℕ, ◌+◌, ◌<◌, List, [], ◌∷◌, ◌++◌, length, get_or, map, take, subst, sym}
use Rattle.std.specs.List.{AllZip}
use Rattle.std.proofs.lemmas.List.{map-append, take_more}
use Rattle.serde_json.specs.View.{view}
use Rattle.serde_json.specs.declared.value.Value.{Value}
use Rattle.bc_names.specs.Names.{NameParts}
use Rattle.bc_prov.specs.declared.outcome.Outcome.{Outcome}
use Rattle.cli_entries.specs.Replies.{IsRoot}

-- one more of each
zip_more : {A B : Type 0} (R : A → B → Type 0) (xs : List A) (ys : List B) (x : A) (y : B) → AllZip R xs ys → R x y → AllZip R (xs ++ x ∷ []) (ys ++ y ∷ [])
zip_more R [] [] x y h new = (new, tt)
zip_more R [] (b ∷ ys) x y h new = absurd h
zip_more R (a ∷ xs) [] x y h new = absurd h
zip_more R (a ∷ xs) (b ∷ ys) x y h new = (h.0, zip_more R xs ys x y h.1 new)

-- the value of the next root, after those before it
pub one_more_root : (rows : List (NameParts × Outcome)) (i : ℕ) (d : NameParts × Outcome) (values : List Value) (value : Value) → i < length rows → AllZip IsRoot (take i rows) (map view values) → IsRoot (get_or rows i d) (view value) → AllZip IsRoot (take (i + 1) rows) (map view (values ++ value ∷ []))
one_more_root rows i d values value lt h new =
    subst (λ (front : List (NameParts × Outcome)). AllZip IsRoot front (map view (values ++ value ∷ []))) (sym (take_more rows i d lt))
    (subst (AllZip IsRoot (take i rows ++ get_or rows i d ∷ [])) (sym (map-append view values (value ∷ []))) (zip_more IsRoot (take i rows) (map view values) (get_or rows i d) (view value) h new))
