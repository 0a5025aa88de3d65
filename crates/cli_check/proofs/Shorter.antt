-- Histories without their last entry.
use Rattle.std.proofs.Common.{◌≡◌, Bool, cond, eq-eqb, List, [], ◌∷◌, ◌++◌, ◌+◌, map, length, refl, sym, ap, ◌∙◌, subst, append_assoc, arith, inl, inr}
use Rattle.std.specs.Prelude.{◌⊎◌}
use Rattle.std.specs.List.{All}
use Rattle.std.proofs.Math.Seq.{get_or-append_seam}
use Rattle.std.proofs.lemmas.List.{get_or_append_left, length-append}
use Rattle.bc_calls.specs.declared.call.Event.{Event}
use Rattle.bc_calls.specs.declared.call.Entry.{Entry}
use Rattle.bc_calls.specs.Calls.{IsLegal, calls}
use Rattle.bc_calls.proofs.Beginnings.{calls-append}
use Rattle.cli_check.specs.Run.{AreLegal}

-- what is taken from the end of a list with one item
pub the_last : {X : Type 0} (x y : X) (rest : List X) → x ∷ [] ≡ rest ++ y ∷ [] → (rest ≡ []) × (y ≡ x)
the_last x y [] h = (refl, cc)
the_last x y (z ∷ []) h = absurd cc
the_last x y (z ∷ w ∷ rest) h = absurd cc

snoc_same : {X : Type 0} (xs ys : List X) (x y : X) → xs ++ x ∷ [] ≡ ys ++ y ∷ [] → xs ≡ ys
snoc_same [] ys x y h = sym (the_last x y ys h).0
snoc_same (z ∷ xs) [] x y h = (let never : z ∷ xs ≡ [] = (the_last y x (z ∷ xs) (sym h)).0 in absurd cc)
snoc_same {X} (z ∷ xs) (w ∷ ys) x y h =
    let first : z ≡ w = cc in
    let rest : xs ++ x ∷ [] ≡ ys ++ y ∷ [] = cc in
    ap (λ (v : X). v ∷ xs) first ∙ ap (λ (l : List X). w ∷ l) (snoc_same xs ys x y rest)

nothing_last : {X : Type 0} (xs : List X) (x : X) → [] ≡ xs ++ x ∷ [] → ⊥
nothing_last [] x h = absurd cc
nothing_last (y ∷ xs) x h = absurd cc

-- the end of a list
ends : {X : Type 0} (xs : List X) → (xs ≡ []) ⊎ ((front : List X) × (x : X) × (xs ≡ front ++ x ∷ []))
ends [] = inl refl
ends {X} (y ∷ xs) = elim (ends xs) [
  | inl none ↦ inr ([], y, ap (λ (l : List X). y ∷ l) none)
  | inr some ↦ inr (y ∷ some.0, some.1, ap (λ (l : List X). y ∷ l) some.2)
]

-- a legal history without its last entry is legal
legal_before : (h : List Entry) (x : Entry) → IsLegal (h ++ x ∷ []) → IsLegal h
legal_before h x legal before e rest cut = legal before e (rest ++ x ∷ []) (ap (λ (l : List Entry). l ++ x ∷ []) cut ∙ append_assoc before (e ∷ rest) (x ∷ []))

one_call : (x : Entry) → x.session ≡ 0 → calls 0 (x ∷ []) ≡ x.event ∷ []
one_call x mine = ap (λ (b : Bool). map (λ (e : Entry). e.event) (cond b (x ∷ []) [])) (eq-eqb x.session 0 mine)

shorter : (events : List Event) (event : Event) (front : List Entry) (x : Entry) (h : AreLegal (events ++ event ∷ [])) → h.history ≡ front ++ x ∷ [] → AreLegal events
shorter events event front x h cut =
    let long : length (front ++ x ∷ []) ≡ length front + 1 = length-append front (x ∷ []) in
    let all : All (λ (e : Entry). e.session ≡ 0) (front ++ x ∷ []) = subst (All (λ (e : Entry). e.session ≡ 0)) cut h.one_session in
    let mine : x.session ≡ 0 = ap (λ (e : Entry). e.session) (sym (get_or-append_seam front x [] x)) ∙ all (length front) x (omega (arith, long)) in
    record {
      history = front;
      legal = legal_before front x (subst IsLegal cut h.legal);
      one_session = λ k d below. ap (λ (e : Entry). e.session) (sym (get_or_append_left front (x ∷ []) d k below)) ∙ all k d (omega (arith, below, long));
      own = snoc_same (calls 0 front) events x.event event (ap (λ (l : List Event). calls 0 front ++ l) (sym (one_call x mine)) ∙ sym (calls-append 0 front (x ∷ [])) ∙ ap (calls 0) (sym cut) ∙ h.own);
    }

-- the calls of a legal history without the last are those of a legal history
pub legal_shorter : (events : List Event) (event : Event) → AreLegal (events ++ event ∷ []) → AreLegal events
legal_shorter events event h = elim (ends h.history) [
  | inl none ↦ (let never : [] ≡ events ++ event ∷ [] = ap (calls 0) (sym none) ∙ h.own in absurd (nothing_last events event never))
  | inr some ↦ shorter events event some.0 some.1 h some.2
]
