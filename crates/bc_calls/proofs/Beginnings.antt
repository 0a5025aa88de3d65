-- Beginnings of legal histories, and their last entries.
use Rattle.std.proofs.Common.{◌≡◌, ◌⊎◌, ℕ, ◌+◌, ◌==◌, Bool, List, [], ◌∷◌, ◌++◌, length, cond, eq-eqb, refl, ap, sym, ◌∙◌, inl, inr, ⊎_elim, arith, append_assoc, Some, None}
use Rattle.std.specs.Prelude.{count_by, filter, map}
use Rattle.std.proofs.lemmas.List.Elements.{filter-append}
use Rattle.std.proofs.lemmas.List.{append-nil, length-map, map-append}
use Rattle.std.proofs.lemmas.List.Sums.{length-filter, sum_by-append}
use Rattle.bc_calls.specs.declared.call.Event.{Event}
use Rattle.bc_calls.specs.declared.call.Entry.{Entry}
use Rattle.bc_calls.specs.Calls.{calls, count_of, IsLegal, StartsWith, last_of}

-- a list is empty, or has a last element
pub last_split : {A : Type 0} (l : List A) → (l ≡ []) ⊎ ((front : List A) × (x : A) × (l ≡ front ++ x ∷ []))
last_split [] = inl refl
last_split {A} (y ∷ ys) =
    ⊎_elim
    (λ (none : ys ≡ []). inr ([], y, ap (λ l. y ∷ l) none))
    (λ (t : (front : List A) × (x : A) × (ys ≡ front ++ x ∷ [])). inr (y ∷ t.0, t.1, ap (λ l. y ∷ l) t.2))
    (last_split ys)

pub last_of-snoc : (h : List Entry) (e : Entry) → last_of (h ++ e ∷ []) ≡ Some e
last_of-snoc [] e = refl
last_of-snoc (x ∷ []) e = refl
last_of-snoc (x ∷ y ∷ h) e = last_of-snoc (y ∷ h) e

pub starts_more : (g h more : List Entry) → StartsWith g h → StartsWith (g ++ more) h
starts_more g h more s = (s.0 ++ more, ap (λ l. l ++ more) s.1 ∙ append_assoc h s.0 more)

pub starts_again : (f g h : List Entry) → StartsWith f g → StartsWith g h → StartsWith f h
starts_again f g h a b = (b.0 ++ a.0, a.1 ∙ ap (λ l. l ++ a.0) b.1 ∙ append_assoc h b.0 a.0)

count-append : (p : Entry → Bool) (xs ys : List Entry) → count_by p (xs ++ ys) ≡ count_by p xs + count_by p ys
count-append p xs ys = sum_by-append (λ (e : Entry). cond (p e) 1 0) xs ys

-- in a legal history a beginning with the same last entry is the whole: each session and number occurs once
pub same_end : (log h : List Entry) → IsLegal log → StartsWith log h → last_of h ≡ last_of log → log ≡ h
same_end log h legal begins same =
    ⊎_elim
    (λ (none : begins.0 ≡ []). begins.1 ∙ ap (λ r. h ++ r) none ∙ append-nil h)
    (λ (more : (front : List Entry) × (z : Entry) × (begins.0 ≡ front ++ z ∷ [])).
    let z = more.1 in
    let whole : log ≡ (h ++ more.0) ++ z ∷ [] = begins.1 ∙ ap (λ r. h ++ r) more.2 ∙ sym (append_assoc h more.0 (z ∷ [])) in
    let ends : last_of h ≡ Some z = same ∙ ap last_of whole ∙ last_of-snoc (h ++ more.0) z in
    ⊎_elim
    (λ (none : h ≡ []). absurd (let e : None ≡ Some z = sym (ap last_of none) ∙ ends in cc))
    (λ (t : (before : List Entry) × (x : Entry) × (h ≡ before ++ x ∷ [])).
    let x : t.1 ≡ z = (let e : Some t.1 ≡ Some z = sym (last_of-snoc t.0 t.1) ∙ sym (ap last_of t.2) ∙ ends in cc) in
    absurd (twice log t.0 more.0 z legal (whole ∙ ap (λ l. (l ++ more.0) ++ z ∷ []) (t.2 ∙ ap (λ y. t.0 ++ y ∷ []) x))))
    (last_split h))
    (last_split begins.0)
  where
    twice : (log before between : List Entry) (z : Entry) → IsLegal log → log ≡ ((before ++ z ∷ []) ++ between) ++ z ∷ [] → ⊥
    twice log before between z legal is =
        let p : Entry → Bool = λ e. e.session == z.session in
        let one : count_by p (z ∷ []) ≡ 1 = ap (λ b. 0 + cond b 1 0) (eq-eqb z.session z.session refl) in
        let late = (legal ((before ++ z ∷ []) ++ between) z [] is).1 in
        let early = (legal before z (between ++ z ∷ []) (is ∙ append_assoc (before ++ z ∷ []) between (z ∷ []) ∙ append_assoc before (z ∷ []) (between ++ z ∷ []))).1 in
        omega (arith, one, early, late, count-append p (before ++ z ∷ []) between, count-append p before (z ∷ []))

pub calls-append : (session : ℕ) (g h : List Entry) → calls session (g ++ h) ≡ calls session g ++ calls session h
calls-append session g h =
    ap (map (λ (e : Entry). e.event)) (filter-append (λ (e : Entry). e.session == session) g h)
    ∙ map-append (λ (e : Entry). e.event) (filter (λ (e : Entry). e.session == session) g) (filter (λ (e : Entry). e.session == session) h)

length_zero : {A : Type 0} (l : List A) → length l ≡ 0 → l ≡ []
length_zero [] none = refl
length_zero (x ∷ l) none = absurd (omega arith)

calls_none : (session : ℕ) (h : List Entry) → count_of session h ≡ 0 → calls session h ≡ []
calls_none session h none =
    ap (map (λ (e : Entry). e.event)) (length_zero (filter (λ (e : Entry). e.session == session) h) (length-filter (λ (e : Entry). e.session == session) h ∙ none))

length-calls : (session : ℕ) (h : List Entry) → length (calls session h) ≡ count_of session h
length-calls session h = length-map (filter (λ (e : Entry). e.session == session) h) (λ (e : Entry). e.event) ∙ length-filter (λ (e : Entry). e.session == session) h

calls_one : (e : Entry) → calls e.session (e ∷ []) ≡ e.event ∷ []
calls_one e = ap (λ (b : Bool). map (λ (x : Entry). x.event) (cond b (e ∷ []) [])) (eq-eqb e.session e.session refl)

-- if the last entry that was seen has the next number of its session, it is the one call that the session made since its own list was seen
pub calls_grow : (h seen : List Entry) (e : Entry) (own : List Event)
    → calls e.session h ≡ own → StartsWith seen h → IsLegal seen → last_of seen ≡ Some e → e.number ≡ length own
    → calls e.session seen ≡ own ++ e.event ∷ []
calls_grow h seen e own mine begins legal last number =
    ⊎_elim
    (λ (none : begins.0 ≡ []).
    let same : seen ≡ h = begins.1 ∙ ap (λ r. h ++ r) none ∙ append-nil h in
    ⊎_elim
    (λ (empty : seen ≡ []). absurd (let x : None ≡ Some e = sym (ap last_of empty) ∙ last in cc))
    (λ (t : (front : List Entry) × (x : Entry) × (seen ≡ front ++ x ∷ [])).
    let x : t.1 ≡ e = (let y : Some t.1 ≡ Some e = sym (last_of-snoc t.0 t.1) ∙ sym (ap last_of t.2) ∙ last in cc) in
    let whole : seen ≡ t.0 ++ e ∷ [] = t.2 ∙ ap (λ y. t.0 ++ y ∷ []) x in
    let before = (legal t.0 e [] whole).1 in
    let all : count_of e.session seen ≡ count_of e.session t.0 + 1 = ap (count_of e.session) whole ∙ count-append (λ (y : Entry). y.session == e.session) t.0 (e ∷ []) ∙ ap (λ n. count_of e.session t.0 + n) (one e) in
    let long : length own ≡ count_of e.session seen = ap length (sym mine) ∙ length-calls e.session h ∙ ap (count_of e.session) (sym same) in
    absurd (omega (arith, before, all, long, number)))
    (last_split seen))
    (λ (t : (front : List Entry) × (x : Entry) × (begins.0 ≡ front ++ x ∷ [])).
    let whole' : seen ≡ (h ++ t.0) ++ t.1 ∷ [] = begins.1 ∙ ap (λ r. h ++ r) t.2 ∙ sym (append_assoc h t.0 (t.1 ∷ [])) in
    let x : t.1 ≡ e = (let y : Some t.1 ≡ Some e = sym (last_of-snoc (h ++ t.0) t.1) ∙ sym (ap last_of whole') ∙ last in cc) in
    let whole : seen ≡ (h ++ t.0) ++ e ∷ [] = whole' ∙ ap (λ y. (h ++ t.0) ++ y ∷ []) x in
    let before = (legal (h ++ t.0) e [] whole).1 in
    let parts = count-append (λ (y : Entry). y.session == e.session) h t.0 in
    let long : length own ≡ count_of e.session h = ap length (sym mine) ∙ length-calls e.session h in
    let nothing : calls e.session t.0 ≡ [] = calls_none e.session t.0 (omega (arith, before, parts, long, number)) in
    ap (calls e.session) whole ∙ calls-append e.session (h ++ t.0) (e ∷ []) ∙ ap (λ l. l ++ calls e.session (e ∷ [])) (calls-append e.session h t.0 ∙ ap (λ l. calls e.session h ++ l) nothing ∙ append-nil (calls e.session h) ∙ mine)
    ∙ ap (λ l. own ++ l) (calls_one e))
    (last_split begins.0)
  where
    one : (e : Entry) → count_of e.session (e ∷ []) ≡ 1
    one e = ap (λ (b : Bool). 0 + cond b 1 0) (eq-eqb e.session e.session refl)
