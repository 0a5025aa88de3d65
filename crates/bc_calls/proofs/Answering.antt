-- What an entry does to the answers of names.
use Rattle.std.proofs.Common.{◌≡◌, ◌⊎◌, ◌&&◌, ◌||◌, Bool, true, false, true≢false, List, [], ◌∷◌, ◌++◌, cond, refl, ap, sym, subst, ◌∙◌, inl, inr, ⊎_elim, append_assoc, Option, Some, None}
use Rattle.std.specs.Prelude.{IsSome, MatchOption, is_some}
use Rattle.std.specs.List.{list_any}
use Rattle.std.specs.Option.{option_or}
use Rattle.std.proofs.lemmas.List.Folds.{list_any-append}
use Rattle.bc_names.specs.Names.{NameParts, is_within, is_same_name}
use Rattle.bc_names.proofs.Equality.{name}
use Rattle.bc_names.proofs.Within.{within_self}
use Rattle.bc_syntax.specs.declared.syntax.Body.{Body}
use Rattle.bc_prov.specs.declared.outcome.Outcome.{Outcome}
use Rattle.bc_prov.specs.State.{State, Bodies, at_name}
use Rattle.bc_prov.specs.Outcome.{IsOutcomeIn, OutcomeRows}
use Rattle.bc_outcomes.specs.Laws.{HaveSamePart}
use Rattle.bc_outcomes.proofs.Local.{outcome_same}
use Rattle.bc_memo.proofs.Places.{by_bool}
use Rattle.bc_memo.proofs.Marking.{other_name}
use Rattle.bc_calls.specs.declared.call.Event.{Event}
use Rattle.bc_calls.specs.declared.call.Event.TheVariants.{Types, Put, Remove, Ask, All as EveryRoot}
use Rattle.bc_calls.specs.declared.call.Entry.{Entry}
use Rattle.bc_calls.specs.Calls.{next, after, stores, takes, with_body, IsListing, IsReply, MayComeNext}
use Rattle.bc_calls.specs.Answers.{clears, found, asks, IsNameAnswered, IsAnswer}
use Rattle.bc_calls.proofs.Histories.{snoc_split, after-snoc}

-- a write outside n's part leaves the bodies in it
spared : (s : Bool) (bodies : Bodies) (n m : NameParts) (v : Option Body) → (s && is_within n m) ≡ false → (k : NameParts) → is_within n k ≡ true → bodies k ≡ (cond s (with_body bodies m v) bodies) k
spared false bodies n m v out k within = refl
spared true bodies n m v out k within =
    sym (ap (λ (b : Bool). cond b v (bodies k)) (other_name m k (λ (same : m ≡ k). absurd (true≢false (sym within ∙ ap (is_within n) (sym same) ∙ out)))))

same_next : (s : State) (n : NameParts) (e : Event) → clears n e ≡ false → HaveSamePart n s (next s e)
same_next s n (Types t) keeps = absurd (true≢false keeps)
same_next s n (Put m b r) keeps = record { types = refl; bodies = spared (stores r) s.bodies n m (Some b) keeps }
same_next s n (Remove m r) keeps = record { types = refl; bodies = spared (takes r) s.bodies n m None keeps }
same_next s n (Ask m o) keeps = record { types = refl; bodies = λ k within. refl }
same_next s n (EveryRoot rows) keeps = record { types = refl; bodies = λ k within. refl }

-- an entry that does not make n's answer void leaves n's part
pub same_part : (h : List Entry) (e : Entry) (n : NameParts) → clears n e.event ≡ false → HaveSamePart n (after h) (after (h ++ e ∷ []))
same_part h e n keeps = subst (HaveSamePart n (after h)) (sym (after-snoc h e)) (same_next (after h) n e.event keeps)

-- an event that answers for n is an ask of it, or an ask for all that lists it, with its outcome, and does not make its answer void
abbrev Finding : State → NameParts → Event → Type 0
Finding s n e =
    ((found n e ≡ None) × (asks n e ≡ false))
    ⊎ ((o : Outcome) × (found n e ≡ Some o) × (asks n e ≡ true) × IsOutcomeIn s n o × (clears n e ≡ false))

-- the outcome that is listed for n, if there is one
listing : (s : State) (n : NameParts) (rows : OutcomeRows) → IsListing s rows → (a : Option Outcome) → at_name rows n ≡ a → Finding s n (EveryRoot rows)
listing s n rows right None e = inl (e, ap (λ (a : Option Outcome). is_some a) e)
listing s n rows right (Some o) e = inr (o, e, ap (λ (a : Option Outcome). is_some a) e, (right.listed n o e).2, refl)

finding : (s : State) (n : NameParts) (e : Event) → IsReply s e → Finding s n e
finding s n (Types t) right = inl (refl, refl)
finding s n (Put m b r) right = inl (refl, refl)
finding s n (Remove m r) right = inl (refl, refl)
finding s n (Ask m o) right =
    by_bool (is_same_name m n)
    (λ e. inr (o, ap (λ (b : Bool). cond b (Some o) None) e, e, subst (λ (k : NameParts). IsOutcomeIn s k o) ((name m n).0 e) right, refl))
    (λ e. inl (ap (λ (b : Bool). cond b (Some o) None) e, e))
finding s n (EveryRoot rows) right = listing s n rows right (at_name rows n) refl

no_ask : (n : NameParts) (e : Event) → clears n e ≡ true → asks n e ≡ false
no_ask n (Types t) voids = refl
no_ask n (Put m b r) voids = refl
no_ask n (Remove m r) voids = refl
no_ask n (Ask m o) voids = absurd (true≢false (sym voids))
no_ask n (EveryRoot rows) voids = absurd (true≢false (sym voids))

held_along : (a b : Option Body) → a ≡ b → IsSome a → IsSome b
held_along a b e = subst (λ (o : Option Body). IsSome o) e

first_false : (a b : Bool) → (a || b) ≡ false → a ≡ false
first_false true b f = f
first_false false b f = refl

second_true : (a b : Bool) → b ≡ true → (a || (b || false)) ≡ true
second_true true b is = refl
second_true false b is = ap (λ x. x || false) is

abbrev voids_of : NameParts → Entry → Bool
voids_of n e = clears n e.event

-- a name whose answer an entry makes void is not answered
unanswered_void : (h : List Entry) (e : Entry) (n : NameParts) → clears n e.event ≡ true → ¬ IsNameAnswered (h ++ e ∷ []) n
unanswered_void h e n voids a =
    ⊎_elim
    (λ (t : (a.1.0 ≡ h) × (a.1.1 ≡ e) × (a.1.2 ≡ [])). true≢false (sym a.1.4 ∙ ap (λ (x : Entry). asks n x.event) t.1 ∙ no_ask n e.event voids))
    (λ (t : (front : List Entry) × (a.1.2 ≡ front ++ e ∷ []) × (h ≡ a.1.0 ++ a.1.1 ∷ front)).
    true≢false (sym (second_true (list_any (voids_of n) t.0) (clears n e.event) voids) ∙ sym (list_any-append (voids_of n) t.0 (e ∷ [])) ∙ ap (list_any (voids_of n)) (sym t.1) ∙ a.1.5))
    (snoc_split h e a.1.0 a.1.1 a.1.2 a.1.3)

-- a name that holds no body is not answered
pub unanswered_absent : (h : List Entry) (n : NameParts) → (after h).bodies n ≡ None → ¬ IsNameAnswered h n
unanswered_absent h n none a = absurd (true≢false (sym (held_along ((after h).bodies n) None none a.0)))

answered_on : (h : List Entry) (e : Entry) (n : NameParts) → clears n e.event ≡ false → (after h).bodies n ≡ (after (h ++ e ∷ [])).bodies n → IsNameAnswered h n → IsNameAnswered (h ++ e ∷ []) n
answered_on h e n keeps same a = (
  held_along _ _ same a.0,
  (
    a.1.0,
    a.1.1,
    a.1.2 ++ e ∷ [],
    ap (λ l. l ++ e ∷ []) a.1.3 ∙ append_assoc a.1.0 (a.1.1 ∷ a.1.2) (e ∷ []),
    a.1.4,
    list_any-append (voids_of n) a.1.2 (e ∷ []) ∙ ap (λ b. b || (clears n e.event || false)) a.1.5 ∙ ap (λ b. b || false) keeps,
  ),
)

answered_back : (h : List Entry) (e : Entry) (n : NameParts) → asks n e.event ≡ false → (after h).bodies n ≡ (after (h ++ e ∷ [])).bodies n → IsNameAnswered (h ++ e ∷ []) n → IsNameAnswered h n
answered_back h e n other same a = (
  held_along _ _ (sym same) a.0,
  ⊎_elim
      (λ (t : (a.1.0 ≡ h) × (a.1.1 ≡ e) × (a.1.2 ≡ [])). absurd (true≢false (sym a.1.4 ∙ ap (λ (x : Entry). asks n x.event) t.1 ∙ other)))
      (λ (t : (front : List Entry) × (a.1.2 ≡ front ++ e ∷ []) × (h ≡ a.1.0 ++ a.1.1 ∷ front)). (a.1.0, a.1.1, t.0, t.2, a.1.4, first_false (list_any (voids_of n) t.0) (list_any (voids_of n) (e ∷ [])) (sym (list_any-append (voids_of n) t.0 (e ∷ [])) ∙ ap (list_any (voids_of n)) (sym t.1) ∙ a.1.5)))
      (snoc_split h e a.1.0 a.1.1 a.1.2 a.1.3),
)

answer_map : {A : Type 0} (o : Option A) (none none' : Type 0) (some some' : A → Type 0) → (none → none') → ((a : A) → some a → some' a) → MatchOption o none some → MatchOption o none' some'
answer_map None none none' some some' f g m = f m
answer_map (Some a) none none' some some' f g m = g a m

-- the answer of a name after an event that writes neither declarations nor the name nor one below it
abbrev pub answer_after : NameParts → Event → Option Outcome → Option Outcome
answer_after n e before = cond (clears n e) None (option_or (found n e) before)

-- the answer of a name that still holds a body, after one more entry
pub answer_more : (h : List Entry) (e : Entry) (n : NameParts) (a : Option Outcome) → MayComeNext h e → IsSome ((after (h ++ e ∷ [])).bodies n) → IsAnswer h n a → IsAnswer (h ++ e ∷ []) n (answer_after n e.event a)
answer_more h e n a fits held was = by_bool (clears n e.event) void kept
  where
    Now : Option Outcome → Type 0
    Now = IsAnswer (h ++ e ∷ []) n

    void : clears n e.event ≡ true → Now (answer_after n e.event a)
    void is = subst Now (sym (ap (λ (b : Bool). cond b None (option_or (found n e.event) a)) is)) (unanswered_void h e n is)

    kept : clears n e.event ≡ false → Now (answer_after n e.event a)
    kept is =
        let part = same_part h e n is in
        let same = part.bodies n (within_self n) in
        subst Now (sym (ap (λ (b : Bool). cond b None (option_or (found n e.event) a)) is))
        (⊎_elim
        (λ (t : (found n e.event ≡ None) × (asks n e.event ≡ false)).
        subst Now (sym (ap (λ (o : Option Outcome). option_or o a) t.0))
        (answer_map a (¬ IsNameAnswered h n) (¬ IsNameAnswered (h ++ e ∷ []) n) (λ o. IsNameAnswered h n × IsOutcomeIn (after h) n o) (λ o. IsNameAnswered (h ++ e ∷ []) n × IsOutcomeIn (after (h ++ e ∷ [])) n o)
        (λ none now. none (answered_back h e n t.1 same now))
        (λ o some. (answered_on h e n is same some.0, outcome_same (after h) (after (h ++ e ∷ [])) n o part some.1))
        was))
        (λ (t : (o : Outcome) × (found n e.event ≡ Some o) × (asks n e.event ≡ true) × IsOutcomeIn (after h) n o × (clears n e.event ≡ false)).
        subst Now (sym (ap (λ (o : Option Outcome). option_or o a) t.1))
        ((held, (h, e, [], refl, t.2, refl)), outcome_same (after h) (after (h ++ e ∷ [])) n t.0 part t.3))
        (finding (after h) n e.event fits.0))

-- a name whose answer an entry makes void has none, whatever it had
pub answer_void : (h : List Entry) (e : Entry) (n : NameParts) (a : Option Outcome) → clears n e.event ≡ true → IsAnswer (h ++ e ∷ []) n (answer_after n e.event a)
answer_void h e n a is =
    subst (IsAnswer (h ++ e ∷ []) n) (sym (ap (λ (b : Bool). cond b None (option_or (found n e.event) a)) is))
    (unanswered_void h e n is)
