-- The text of a list of values.
use Rattle.std.proofs.Common.{◌≡◌, ℕ, ◌<◌, ◌+◌, List, [], ◌∷◌, ◌++◌, Bool, true, false, ◌||◌, length, get_or, take, map, codes, Vec, Global, refl, sym, ap, subst, ◌∙◌, append_assoc}
use Rattle.std.specs.List.{flat_map, AllZip}
use Rattle.std.proofs.lemmas.List.{map_more}
use Rattle.serde_json.specs.View.{items_view}
use Rattle.serde_json.specs.Written.{items_have_float, items_text, has_float, compact_text}
use Rattle.serde_json.specs.declared.value.Value.{Value, Array}
use Rattle.serde_json.proofs.Views.{view-Array}
use Rattle.bc_json.specs.Texts.{HasText, separated, array_text}

no_float : (a b : Bool) → a ≡ false → b ≡ false → (a || b) ≡ false
no_float a b e f = rw (e, f) refl

items_no_float : (values : List Value) (texts : List (List ℕ)) → AllZip HasText values texts → items_have_float (items_view values) ≡ false
items_no_float [] [] h = refl
items_no_float [] (t ∷ ts) h = absurd h
items_no_float (v ∷ vs) [] h = absurd h
items_no_float (v ∷ vs) (t ∷ ts) h = no_float _ _ h.0.0 (items_no_float vs ts h.1)

-- the values after the first
later_text : (values : List Value) (texts : List (List ℕ)) → AllZip HasText values texts → items_text true (items_view values) ≡ flat_map (λ later. codes "," ++ later) texts ++ 93 ∷ []
later_text [] [] h = refl
later_text [] (t ∷ ts) h = absurd h
later_text (v ∷ vs) [] h = absurd h
later_text (v ∷ vs) (t ∷ ts) h =
    ap (λ (x : List ℕ). 44 ∷ (x ++ items_text true (items_view vs))) h.0.1
    ∙ ap (λ (x : List ℕ). 44 ∷ (t ++ x)) (later_text vs ts h.1)
    ∙ sym (append_assoc (44 ∷ t) (flat_map (λ later. codes "," ++ later) ts) (93 ∷ []))

list_text : (values : List Value) (texts : List (List ℕ)) → AllZip HasText values texts → items_text false (items_view values) ≡ separated texts ++ 93 ∷ []
list_text [] [] h = refl
list_text [] (t ∷ ts) h = absurd h
list_text (v ∷ vs) [] h = absurd h
list_text (v ∷ vs) (t ∷ ts) h =
    ap (λ (x : List ℕ). x ++ items_text true (items_view vs)) h.0.1
    ∙ ap (λ (x : List ℕ). t ++ x) (later_text vs ts h.1)
    ∙ sym (append_assoc t (flat_map (λ later. codes "," ++ later) ts) (93 ∷ []))

-- an array of values has the text of the array of their texts
pub array_has_text : (values : Vec Value Global) (texts : List (List ℕ)) → AllZip HasText values.items texts → HasText (Array values) (array_text texts)
array_has_text values texts h = (
  ap has_float (view-Array values) ∙ items_no_float values.items texts h,
  ap compact_text (view-Array values) ∙ ap (λ (x : List ℕ). 91 ∷ x) (list_text values.items texts h),
)

push_text : (values : List Value) (texts : List (List ℕ)) (value : Value) (text : List ℕ) → AllZip HasText values texts → HasText value text → AllZip HasText (values ++ value ∷ []) (texts ++ text ∷ [])
push_text [] [] value text h new = (new, tt)
push_text [] (t ∷ ts) value text h new = absurd h
push_text (v ∷ vs) [] value text h new = absurd h
push_text (v ∷ vs) (t ∷ ts) value text h new = (h.0, push_text vs ts value text h.1 new)

-- one more value, that of the next item
pub one_more : {X : Type 0} (f : X → List ℕ) (xs : List X) (i : ℕ) (d : X) (values : List Value) (value : Value) → i < length xs → AllZip HasText values (map f (take i xs)) → HasText value (f (get_or xs i d)) → AllZip HasText (values ++ value ∷ []) (map f (take (i + 1) xs))
one_more f xs i d values value lt h new =
    subst (AllZip HasText (values ++ value ∷ [])) (sym (map_more f xs i d lt)) (push_text values (map f (take i xs)) value (f (get_or xs i d)) h new)
