-- What a map from names has after an insertion.
use Rattle.std.proofs.Common.{◌≡◌, ℕ, Bool, true, false, cond, Option, Some, List, [], ◌∷◌, refl, sym, ap, ◌∙◌, true≢false}
use Rattle.std.specs.Str.{bytes_eq}
use Rattle.std.specs.Map.{lookup}
use Rattle.std.specs.HashMap.{HashMap}
use Rattle.std.proofs.lemmas.Slice.Eq.{bytes_eq-Decides}
use Rattle.indexmap.specs.IndexMap.{insert_entry}
use Rattle.bc_types.specs.Known.{Adds}

same-place : {X : Type 0} (here : Bool) (value old : X) (rest : Option X) → cond here (Some value) rest ≡ cond here (Some value) (cond here (Some old) rest)
same-place true value old rest = refl
same-place false value old rest = refl

other-place : {X : Type 0} (first second : Bool) (value old : X) (rest : Option X) → (first ≡ true → second ≡ true → ⊥) → cond second (Some old) (cond first (Some value) rest) ≡ cond first (Some value) (cond second (Some old) rest)
other-place true true value old rest apart = absurd (apart refl refl)
other-place true false value old rest apart = refl
other-place false true value old rest apart = refl
other-place false false value old rest apart = refl

module _ {K : Type 0} (eq : K → K → Bool) (bytes : K → List ℕ) (is : (a b : K) → eq a b ≡ bytes_eq (bytes a) (bytes b)) (name : List ℕ) where
  abbrev found : {X : Type 0} → List (K × X) → Option X
  found es = lookup (λ k. bytes_eq name (bytes k)) es

  never-both : (a b : K) → eq a b ≡ false → bytes_eq name (bytes a) ≡ true → bytes_eq name (bytes b) ≡ true → ⊥
  never-both a b differ first second =
      let same : bytes a ≡ bytes b = sym ((bytes_eq-Decides name (bytes a)).0 first) ∙ (bytes_eq-Decides name (bytes b)).0 second in
      true≢false (sym ((bytes_eq-Decides (bytes a) (bytes b)).1 same) ∙ sym (is a b) ∙ differ)

  pub lookup-insert : {X : Type 0} (es : List (K × X)) (key : K) (value : X) → found (insert_entry eq es key value) ≡ cond (bytes_eq name (bytes key)) (Some value) (found es)
  lookup-insert [] key value = refl
  lookup-insert (e ∷ es) key value = by (eq key e.0) refl (lookup-insert es key value)
    where
      by : (same : Bool) → eq key e.0 ≡ same → found (insert_entry eq es key value) ≡ cond (bytes_eq name (bytes key)) (Some value) (found es)
          → found (cond same ((e.0, value) ∷ es) (e ∷ insert_entry eq es key value)) ≡ cond (bytes_eq name (bytes key)) (Some value) (found (e ∷ es))
      by true equal rest =
          let same : bytes key ≡ bytes e.0 = (bytes_eq-Decides (bytes key) (bytes e.0)).0 (sym (is key e.0) ∙ equal) in
          same-place (bytes_eq name (bytes e.0)) value e.1 (found es) ∙ ap (λ b. cond (bytes_eq name b) (Some value) (found (e ∷ es))) (sym same)
      by false differ rest =
          ap (λ r. cond (bytes_eq name (bytes e.0)) (Some e.1) r) rest
          ∙ other-place (bytes_eq name (bytes key)) (bytes_eq name (bytes e.0)) value e.1 (found es) (never-both key e.0 differ)

-- an insertion adds its name
pub adds : {K X S : Type 0} (eq : K → K → Bool) (bytes : K → List ℕ) → ((a b : K) → eq a b ≡ bytes_eq (bytes a) (bytes b)) → (old new : HashMap K X S) (key : K) (value : X) (name : List ℕ) → bytes key ≡ name → new.entries ≡ insert_entry eq old.entries key value → Adds bytes old new name value
adds eq bytes is old new key value name named entries other =
    ap (lookup (λ k. bytes_eq other (bytes k))) entries
    ∙ lookup-insert eq bytes is other old.entries key value
    ∙ ap (λ n. cond (bytes_eq other n) (Some value) (lookup (λ k. bytes_eq other (bytes k)) old.entries)) named
