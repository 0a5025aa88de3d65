-- Histories that grow at their end.
use Rattle.std.proofs.Common.{◌≡◌, ◌⊎◌, ◌+◌, ◌≤◌, Bool, true, cond, List, [], ◌∷◌, ◌++◌, length, refl, sym, ap, ◌∙◌, subst, inl, inr, ⊎_elim, arith}
use Rattle.std.proofs.lemmas.List.Sums.{fold-append, sum_by-append, count_by-le-length}
use Rattle.bc_calls.specs.declared.call.Entry.{Entry}
use Rattle.bc_prov.specs.State.{State}
use Rattle.bc_calls.specs.Calls.{opening, next, after, MayComeNext, IsLegal}
use Rattle.bc_calls.specs.Changes.{writes, writes_of}

-- if a longer list is cut before an element, it is the last one, or the cut is in the shorter list
pub snoc_split : {A : Type 0} (h : List A) (x : A) (before : List A) (e : A) (rest : List A) → h ++ x ∷ [] ≡ before ++ e ∷ rest
    → ((before ≡ h) × (e ≡ x) × (rest ≡ [])) ⊎ ((front : List A) × (rest ≡ front ++ x ∷ []) × (h ≡ before ++ e ∷ front))
snoc_split [] x [] e rest is = inl (refl, cc, cc)
snoc_split [] x (b ∷ []) e rest is = absurd (cc)
snoc_split [] x (b ∷ c ∷ bs) e rest is = absurd (cc)
snoc_split (y ∷ ys) x [] e rest is = inr (ys, cc, cc)
snoc_split {A} (y ∷ ys) x (b ∷ bs) e rest is =
    let tails : ys ++ x ∷ [] ≡ bs ++ e ∷ rest = cc in
    let heads : y ≡ b = cc in
    ⊎_elim
    (λ (t : (bs ≡ ys) × (e ≡ x) × (rest ≡ [])). inl (cc, t.1, t.2))
    (λ (t : (front : List A) × (rest ≡ front ++ x ∷ []) × (ys ≡ bs ++ e ∷ front)). inr (t.0, t.1, cc))
    (snoc_split ys x bs e rest tails)

pub legal_none : IsLegal []
legal_none [] e rest is = absurd (cc)
legal_none (b ∷ bs) e rest is = absurd (cc)

pub legal_snoc : (h : List Entry) (x : Entry) → IsLegal h → MayComeNext h x → IsLegal (h ++ x ∷ [])
legal_snoc h x legal fits before e rest is =
    ⊎_elim
    (λ (t : (before ≡ h) × (e ≡ x) × (rest ≡ [])). subst (λ (p : List Entry × Entry). MayComeNext p.0 p.1) (λ i. (sym t.0 i, sym t.1 i)) fits)
    (λ (t : (front : List Entry) × (rest ≡ front ++ x ∷ []) × (h ≡ before ++ e ∷ front)). legal before e t.0 t.2)
    (snoc_split h x before e rest is)

pub after-snoc : (h : List Entry) (e : Entry) → after (h ++ e ∷ []) ≡ next (after h) e.event
after-snoc h e = fold-append (λ (s : State) (x : Entry). next s x.event) opening h (e ∷ [])

-- the number of accepted writes with one entry more
pub writes-snoc : (h : List Entry) (e : Entry) → writes_of (h ++ e ∷ []) ≡ writes_of h + cond (writes e.event) 1 0
writes-snoc h e =
    let split : writes_of (h ++ e ∷ []) ≡ writes_of h + (0 + cond (writes e.event) 1 0) = sum_by-append (λ (x : Entry). cond (writes x.event) 1 0) h (e ∷ []) in
    omega (arith, split)

pub writes_no_fewer : (h : List Entry) (e : Entry) → writes_of h ≤ writes_of (h ++ e ∷ [])
writes_no_fewer h e = let more = writes-snoc h e in omega (arith, more)

pub writes_more : (h : List Entry) (e : Entry) → writes e.event ≡ true → writes_of (h ++ e ∷ []) ≡ writes_of h + 1
writes_more h e is = writes-snoc h e ∙ ap (λ (b : Bool). writes_of h + cond b 1 0) is

-- there are no more writes than entries
pub writes_few : (h : List Entry) → writes_of h ≤ length h
writes_few h = count_by-le-length (λ (e : Entry). writes e.event) h
