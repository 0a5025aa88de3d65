-- The next entry changes what a history leaves into what the longer history leaves.
use Rattle.std.proofs.Common.{◌≡◌, ◌⊎◌, ℕ, ◌&&◌, Bool, true, false, List, [], ◌∷◌, ◌++◌, cond, refl, ap, sym, subst, ◌∙◌, ⊎_elim, Option, Some, None}
use Rattle.std.specs.Prelude.{IsSome}
use Rattle.std.specs.Option.{option_map, option_or}
use Rattle.std.specs.List.Sorted.{IsStrictlySortedBy}
use Rattle.bc_names.specs.Names.{NameParts, is_same_name, is_within}
use Rattle.bc_syntax.specs.declared.syntax.Declaration.{Declaration}
use Rattle.bc_syntax.specs.declared.syntax.Body.{Body}
use Rattle.bc_prov.specs.declared.outcome.Outcome.{Outcome}
use Rattle.bc_prov.specs.State.{State, Bodies, at_name}
use Rattle.bc_memo.specs.declared.place.Place.{Place}
use Rattle.bc_memo.specs.declared.change.Change.{Change}
use Rattle.bc_memo.specs.declared.change.Change.TheVariants as changes
use Rattle.bc_memo.specs.Places.{Places, ShelfView, AreOrdered, MayChange, changed, mark, placed, voids, brought, next_answer, written, unit_of, answer_of}
use Rattle.bc_memo.specs.Places as memo
use Rattle.bc_memo.proofs.Places.{at_name-map, at_name-put, at_name-take, ordered-changed, placing}
use Rattle.bc_calls.specs.declared.call.PutReply.TheVariants.{Added, Replaced, Full, WrongKind}
use Rattle.bc_calls.specs.declared.call.RemoveReply.TheVariants.{Removed, Absent}
use Rattle.bc_calls.specs.declared.call.Event.{Event}
use Rattle.bc_calls.specs.declared.call.Event.TheVariants.{Types, Put, Remove, Ask, All as EveryRoot}
use Rattle.bc_calls.specs.declared.call.Entry.{Entry}
use Rattle.bc_calls.specs.Calls.{IsReply, after, next_types, next_bodies, stores, takes, with_body, MayComeNext}
use Rattle.bc_calls.specs.Changes.{change_of, writes}
use Rattle.bc_calls.specs.Answers.{clears, found, IsAnswer, IsShelfOf}
use Rattle.bc_calls.proofs.Histories.{after-snoc}
use Rattle.bc_calls.proofs.Answering.{unanswered_absent, answer_more, answer_void, answer_after}

-- ---- an event and what it changes

put_voids : (s : Bool) (n m : NameParts) (b : Body) → voids (cond s (changes.Put m b) changes.Nothing) n ≡ (s && is_within n m)
put_voids true n m b = refl
put_voids false n m b = refl

remove_voids : (s : Bool) (n m : NameParts) → voids (cond s (changes.Remove m) changes.Nothing) n ≡ (s && is_within n m)
remove_voids true n m = refl
remove_voids false n m = refl

-- the change of an event makes void the answers that the event makes void
pub same_voids : (n : NameParts) (e : Event) → voids (change_of e) n ≡ clears n e
same_voids n (Types t) = refl
same_voids n (Put m b r) = put_voids (stores r) n m b
same_voids n (Remove m r) = remove_voids (takes r) n m
same_voids n (Ask m o) = refl
same_voids n (EveryRoot rows) = refl

put_brings : (s : Bool) (n m : NameParts) (b : Body) → brought (cond s (changes.Put m b) changes.Nothing) n ≡ None
put_brings true n m b = refl
put_brings false n m b = refl

remove_brings : (s : Bool) (n m : NameParts) → brought (cond s (changes.Remove m) changes.Nothing) n ≡ None
remove_brings true n m = refl
remove_brings false n m = refl

-- and brings the answers that the event gives
pub same_brought : (n : NameParts) (e : Event) → brought (change_of e) n ≡ found n e
same_brought n (Types t) = refl
same_brought n (Put m b r) = put_brings (stores r) n m b
same_brought n (Remove m r) = remove_brings (takes r) n m
same_brought n (Ask m o) = refl
same_brought n (EveryRoot rows) = refl

same_answer : (n : NameParts) (e : Event) (a : Option Outcome) → next_answer (change_of e) n a ≡ answer_after n e a
same_answer n e a = λ i. cond (same_voids n e i) None (option_or (same_brought n e i) a)

put_types : (s : Bool) (held : List Declaration) (m : NameParts) (b : Body) → memo.next_types held (cond s (changes.Put m b) changes.Nothing) ≡ held
put_types true held m b = refl
put_types false held m b = refl

remove_types : (s : Bool) (held : List Declaration) (m : NameParts) → memo.next_types held (cond s (changes.Remove m) changes.Nothing) ≡ held
remove_types true held m = refl
remove_types false held m = refl

types-changed : (held : List Declaration) (e : Event) → memo.next_types held (change_of e) ≡ next_types held e
types-changed held (Types t) = refl
types-changed held (Put m b r) = put_types (stores r) held m b
types-changed held (Remove m r) = remove_types (takes r) held m
types-changed held (Ask m o) = refl
types-changed held (EveryRoot rows) = refl

-- ---- the bodies

pub unit-marked : (c : Change) (n : NameParts) (o : Option Place) → unit_of (option_map (mark c n) o) ≡ unit_of o
unit-marked c n None = refl
unit-marked c n (Some p) = refl

put_body : (s : Bool) (ps : Places) (bodies : Bodies) (m : NameParts) (b : Body) (revision : ℕ) (n : NameParts) → unit_of (at_name ps n) ≡ bodies n
    → unit_of (at_name (placed ps (cond s (changes.Put m b) changes.Nothing) revision) n) ≡ (cond s (with_body bodies m (Some b)) bodies) n
put_body false ps bodies m b revision n were = were
put_body true ps bodies m b revision n were = ap unit_of (at_name-put m (written b revision) n ps) ∙ choose (is_same_name m n)
  where
    choose : (x : Bool) → unit_of (cond x (Some (written b revision)) (at_name ps n)) ≡ cond x (Some b) (bodies n)
    choose true = refl
    choose false = were

take_body : (s : Bool) (ps : Places) (bodies : Bodies) (m : NameParts) (revision : ℕ) (n : NameParts) → AreOrdered ps → unit_of (at_name ps n) ≡ bodies n
    → unit_of (at_name (placed ps (cond s (changes.Remove m) changes.Nothing) revision) n) ≡ (cond s (with_body bodies m None) bodies) n
take_body false ps bodies m revision n ordered were = were
take_body true ps bodies m revision n ordered were = ap unit_of (at_name-take m n ps ordered) ∙ choose (is_same_name m n)
  where
    choose : (x : Bool) → unit_of (cond x None (at_name ps n)) ≡ cond x None (bodies n)
    choose true = refl
    choose false = were

body-placed : (ps : Places) (bodies : Bodies) (e : Event) (revision : ℕ) (n : NameParts) → AreOrdered ps → unit_of (at_name ps n) ≡ bodies n → unit_of (at_name (placed ps (change_of e) revision) n) ≡ next_bodies bodies e n
body-placed ps bodies (Types t) revision n o were = were
body-placed ps bodies (Put m b r) revision n o were = put_body (stores r) ps bodies m b revision n were
body-placed ps bodies (Remove m r) revision n o were = take_body (takes r) ps bodies m revision n o were
body-placed ps bodies (Ask m o') revision n o were = were
body-placed ps bodies (EveryRoot rows) revision n o were = were

-- ---- the answers

-- the answer of a place that stays
kept_answer : (h : List Entry) (e : Entry) (n : NameParts) (o : Option Place) → MayComeNext h e → unit_of o ≡ (after (h ++ e ∷ [])).bodies n → IsAnswer h n (answer_of o) → IsAnswer (h ++ e ∷ []) n (answer_of (option_map (mark (change_of e.event) n) o))
kept_answer h e n None fits body was = unanswered_absent (h ++ e ∷ []) n (sym body)
kept_answer h e n (Some p) fits body was = subst (IsAnswer (h ++ e ∷ []) n) (sym (same_answer n e.event p.answer)) (answer_more h e n p.answer fits (subst (λ (x : Option Body). IsSome x) body refl) was)

pub shelf_none : (s : ShelfView) → s.types ≡ [] → s.places ≡ [] → IsShelfOf s []
unfolding IsStrictlySortedBy
shelf_none s types places = record {
  types = types;
  ordered = subst (λ (ps : Places). AreOrdered ps) (sym places) tt;
  bodies = λ n. ap (λ (ps : Places). unit_of (at_name ps n)) places;
  answers = λ n. subst (λ (ps : Places). IsAnswer [] n (answer_of (at_name ps n))) (sym places) (unanswered_absent [] n refl);
}

pub shelf_snoc : (t : ShelfView) (h : List Entry) (x : Entry) (revision : ℕ) → IsShelfOf t h → MayComeNext h x → IsShelfOf (changed t (change_of x.event) revision) (h ++ x ∷ [])
shelf_snoc t h x revision of fits = record {
  types = types-changed t.types e ∙ ap (λ d. next_types d e) of.types ∙ ap (λ (s : State). s.types) (sym (after-snoc h x));
  ordered = ordered-changed t c revision of.ordered;
  bodies = λ n. ap unit_of (at_name-map (mark c) n qs) ∙ unit-marked c n (at_name qs n) ∙ body n;
  answers = λ n. subst (λ (o : Option Place). IsAnswer (h ++ x ∷ []) n (answer_of o)) (sym (at_name-map (mark c) n qs)) (answer n);
}
  where
    e : Event
    e = x.event

    c : Change
    c = change_of x.event

    qs : Places
    qs = placed t.places (change_of x.event) revision

    body : (n : NameParts) → unit_of (at_name qs n) ≡ (after (h ++ x ∷ [])).bodies n
    body n = body-placed t.places (after h).bodies e revision n of.ordered (of.bodies n) ∙ ap (λ (s : State). s.bodies n) (sym (after-snoc h x))

    answer : (n : NameParts) → IsAnswer (h ++ x ∷ []) n (answer_of (option_map (mark c n) (at_name qs n)))
    answer n = ⊎_elim
        (λ (same : at_name qs n ≡ at_name t.places n).
        subst (λ (o : Option Place). IsAnswer (h ++ x ∷ []) n (answer_of (option_map (mark c n) o))) (sym same)
        (kept_answer h x n (at_name t.places n) fits (ap unit_of (sym same) ∙ body n) (of.answers n)))
        (λ (other : (at_name qs n ≡ None) ⊎ ((p : Place) × (at_name qs n ≡ Some p) × (voids c n ≡ true) × (p.revision ≡ revision))).
        ⊎_elim
        (λ (gone : at_name qs n ≡ None).
        subst (λ (o : Option Place). IsAnswer (h ++ x ∷ []) n (answer_of (option_map (mark c n) o))) (sym gone)
        (unanswered_absent (h ++ x ∷ []) n (sym (body n) ∙ ap unit_of gone)))
        (λ (new : (p : Place) × (at_name qs n ≡ Some p) × (voids c n ≡ true) × (p.revision ≡ revision)).
        subst (λ (o : Option Place). IsAnswer (h ++ x ∷ []) n (answer_of (option_map (mark c n) o))) (sym new.1)
        (subst (IsAnswer (h ++ x ∷ []) n) (sym (same_answer n e new.0.answer)) (answer_void h x n new.0.answer (sym (same_voids n e) ∙ new.2))))
        other)
        (placing t.places n c revision of.ordered)

-- an event that makes a name's answer void is an accepted write
pub clears_writes : (n : NameParts) (e : Event) → clears n e ≡ true → writes e ≡ true
clears_writes n (Types t) is = refl
clears_writes n (Put m b r) is = first_true (stores r) (is_within n m) is
  where
    first_true : (a b : Bool) → (a && b) ≡ true → a ≡ true
    first_true true b f = refl
    first_true false b f = f
clears_writes n (Remove m r) is = first_true (takes r) (is_within n m) is
  where
    first_true : (a b : Bool) → (a && b) ≡ true → a ≡ true
    first_true true b f = refl
    first_true false b f = f
clears_writes n (Ask m o) is = absurd (cc)
clears_writes n (EveryRoot rows) is = absurd (cc)

-- a body that an event puts suits its name
pub may_change : (s : State) (e : Event) → IsReply s e → MayChange (change_of e)
may_change s (Types t) right = tt
may_change s (Put m b Added) right = right.0
may_change s (Put m b Replaced) right = right.0
may_change s (Put m b Full) right = tt
may_change s (Put m b WrongKind) right = tt
may_change s (Remove m Removed) right = tt
may_change s (Remove m Absent) right = tt
may_change s (Ask m o) right = tt
may_change s (EveryRoot rows) right = tt
