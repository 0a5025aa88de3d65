-- The steps of a change do to places what the definitions say.
use Rattle.std.proofs.Common.{◌≡◌, ℕ, zero, suc, ◌+◌, ◌<◌, ◌≤◌, ◌&&◌, ◌||◌, Bool, true, false, true≢false, [], ◌∷◌, ◌++◌, length, get_or, set, take, cond, refl, ap, sym, subst, ◌∙◌, arith, Option, Some, None}
use Rattle.std.specs.Prelude.{map, nat_lt}
use Rattle.std.specs.Option.{option_map, option_or}
use Rattle.std.specs.List.{AllByRecursion}
use Rattle.std.specs.List.Sorted.{IsStrictlySortedBy}
use Rattle.std.specs.Map.{keys_of, remove_entry}
use Rattle.std.specs.BTreeMap.{insert_entry, is_at}
use Rattle.std.specs.Cmp.{both_ways}
use Rattle.std.specs.declared.cmp.Ordering.TheVariants.{Less, Equal, Greater}
use Rattle.std.proofs.lemmas.Bool.{le-ltb, lt-ltb, ltb-false, ltb-true}
use Rattle.std.proofs.lemmas.List.{length-take-le, length-take}
use Rattle.bc_syntax.specs.declared.syntax.Body.{Body}
use Rattle.bc_names.specs.Names.{NameParts, name_order, is_same_name, is_within}
use Rattle.bc_names.proofs.Equality.{name, exact_names}
use Rattle.bc_names.proofs.Within.{beginning, beginning_within, both, first_of, second_of, within_beginning, within_self}
use Rattle.bc_prov.specs.State.{Suits, at_name}
use Rattle.bc_prov.specs.Outcome.{OutcomeRows}
use Rattle.bc_prov.specs.declared.outcome.Outcome.{Outcome}
use Rattle.bc_memo.specs.declared.place.Place.{Place}
use Rattle.bc_memo.specs.declared.change.Change.{Change}
use Rattle.bc_memo.specs.declared.change.Change.TheVariants.{Put, Remove, Answer, Answers, Nothing}
use Rattle.bc_memo.specs.Places.{Places, ShelfView, AreKept, AreOrdered, IsAbove, IsBelow, IsFoundAt, IsGapAt, answer_of, with_answer_at, changed, cleared, mark, marked, unanswered, with_answer, written}
use Rattle.bc_memo.proofs.Places.{at_found, at_head, at_missed, at_name-map, at_name-take, at_tail, by_bool, by_ordering, greater_apart, less_apart, ordered-map, ordered-put, ordered-take, put_here, put_step, same_back}

-- ---- the invariant of places

pub kept_none : AreKept []
unfolding IsStrictlySortedBy
kept_none = record { ordered = tt; suited = tt }

abbrev AreSuited : Places → Type 0
AreSuited ps = AllByRecursion (λ (p : NameParts × Place). Suits p.1.unit p.0) ps

suited-put : (n : NameParts) (p : Place) (ps : Places) → Suits p.unit n → AreSuited ps → AreSuited (insert_entry name_order ps n p)
suited-put n p [] suits all = (suits, tt)
suited-put n p (q ∷ ps) suits all = by_ordering (name_order n q.0)
    (λ r. subst AreSuited (sym (put_step n p q ps Less r)) (suits, all))
    (λ r. subst AreSuited (sym (put_step n p q ps Equal r)) (subst (λ (m : NameParts). Suits p.unit m) (exact_names n q.0 r) suits, all.1))
    (λ r. subst AreSuited (sym (put_step n p q ps Greater r)) (all.0, suited-put n p ps suits all.1))

suited-take : (test : NameParts → Bool) (ps : Places) → AreSuited ps → AreSuited (remove_entry test ps)
suited-take test [] all = tt
suited-take test (q ∷ ps) all = by_bool (test q.0)
    (λ is. subst (λ (b : Bool). AreSuited (cond b ps (q ∷ remove_entry test ps))) (sym is) all.1)
    (λ is. subst (λ (b : Bool). AreSuited (cond b ps (q ∷ remove_entry test ps))) (sym is) (all.0, suited-take test ps all.1))

suited-map : (f : NameParts → Place → Place) (ps : Places) → ((n : NameParts) (p : Place) → (f n p).unit ≡ p.unit) → AreSuited ps → AreSuited (map (λ (p : NameParts × Place). (p.0, f p.0 p.1)) ps)
suited-map f [] same all = tt
suited-map f (q ∷ ps) same all = (subst (λ (u : Body). Suits u q.0) (sym (same q.0 q.1)) all.0, suited-map f ps same all.1)

pub kept-put : (n : NameParts) (p : Place) (ps : Places) → Suits p.unit n → AreKept ps → AreKept (insert_entry name_order ps n p)
kept-put n p ps suits kept = record { ordered = ordered-put n p ps kept.ordered; suited = suited-put n p ps suits kept.suited }

pub kept-take : (test : NameParts → Bool) (ps : Places) → AreKept ps → AreKept (remove_entry test ps)
kept-take test ps kept = record { ordered = ordered-take test ps kept.ordered; suited = suited-take test ps kept.suited }

pub kept-map : (f : NameParts → Place → Place) (ps : Places) → ((n : NameParts) (p : Place) → (f n p).unit ≡ p.unit) → AreKept ps → AreKept (map (λ (p : NameParts × Place). (p.0, f p.0 p.1)) ps)
kept-map f ps same kept = record { ordered = ordered-map f ps kept.ordered; suited = suited-map f ps same kept.suited }

same_unit : (b : Bool) (p : Place) (a : Option Outcome) → (cond b (with_answer p a) p).unit ≡ p.unit
same_unit true p a = refl
same_unit false p a = refl

pub kept-with_answer_at : (n : NameParts) (a : Option Outcome) (ps : Places) → AreKept ps → AreKept (with_answer_at n a ps)
kept-with_answer_at n a ps kept = kept-map (λ (m : NameParts) (p : Place). cond (is_same_name n m) (with_answer p a) p) ps (λ m p. same_unit (is_same_name n m) p a) kept

pub kept-marked : (c : Change) (ps : Places) → AreKept ps → AreKept (marked c ps)
kept-marked c ps kept = kept-map (mark c) ps (λ m p. refl) kept

pub kept-cleared : (n : NameParts) (ps : Places) → AreKept ps → AreKept (cleared n ps)
kept-cleared n ps kept = kept-map (λ (m : NameParts) (p : Place). cond (is_within m n) (with_answer p None) p) ps (λ m p. same_unit (is_within m n) p None) kept

pub kept-unanswered : (ps : Places) → AreKept ps → AreKept (unanswered ps)
kept-unanswered ps kept = kept-map (λ (m : NameParts) (p : Place). with_answer p None) ps (λ m p. refl) kept

-- ---- the answer at one name

pub other_name : (n m : NameParts) → (n ≡ m → ⊥) → is_same_name n m ≡ false
other_name n m apart = by_bool (is_same_name n m) (λ is. absurd (apart ((name n m).0 is))) (λ is. is)

abbrev answer_row : NameParts → Option Outcome → NameParts × Place → NameParts × Place
answer_row n a p = (p.0, cond (is_same_name n p.0) (with_answer p.1 a) p.1)

row_apart : (n : NameParts) (a : Option Outcome) (p : NameParts × Place) → (n ≡ p.0 → ⊥) → answer_row n a p ≡ p
row_apart n a p apart = ap (λ (b : Bool). (p.0, cond b (with_answer p.1 a) p.1)) (other_name n p.0 apart)

-- a name without a place
pub answered_missed : (ps : Places) (n : NameParts) (a : Option Outcome) (i : ℕ) → IsAbove ps n i → IsBelow ps n i → ps ≡ with_answer_at n a ps
answered_missed [] n a i above below = refl
answered_missed (p ∷ ps) n a zero above below = λ j. sym (row_apart n a p (less_apart n p.0 (below 0 p (omega arith) (omega arith)))) j ∷ answered_missed ps n a zero (λ k d less. absurd (omega arith)) (λ k d from less. below (suc k) d (omega arith) (omega arith)) j
answered_missed (p ∷ ps) n a (suc i) above below = λ j. sym (row_apart n a p (greater_apart n p.0 (above 0 p (omega arith)))) j ∷ answered_missed ps n a i (λ k d less. above (suc k) d (omega arith)) (λ k d from less. below (suc k) d (omega arith) (omega arith)) j

all_apart : (ps : Places) (n : NameParts) (a : Option Outcome) → AllByRecursion (λ y. name_order n y ≡ Less) (keys_of ps) → ps ≡ with_answer_at n a ps
all_apart [] n a all = refl
all_apart (p ∷ ps) n a all = λ j. sym (row_apart n a p (less_apart n p.0 all.0)) j ∷ all_apart ps n a all.1 j

-- a name with a place
pub answered_found : (ps : Places) (n : NameParts) (a : Option Outcome) (i : ℕ) (x : NameParts × Place) → AreOrdered ps → i < length ps → IsAbove ps n i → ((d : NameParts × Place) → (get_or ps i d).0 ≡ n)
    → set ps i ((get_or ps i x).0, with_answer (get_or ps i x).1 a) ≡ with_answer_at n a ps
unfolding IsStrictlySortedBy
answered_found [] n a i x ordered within above at = absurd (omega arith)
answered_found (p ∷ ps) n a zero x ordered within above at =
    λ j. (p.0, ap (λ (b : Bool). cond b (with_answer p.1 a) p.1) (sym ((name n p.0).1 (sym (at p)))) j) ∷ all_apart ps n a (subst (λ (m : NameParts). AllByRecursion (λ y. name_order m y ≡ Less) (keys_of ps)) (at p) ordered.0) j
answered_found (p ∷ ps) n a (suc i) x ordered within above at =
    λ j. sym (row_apart n a p (greater_apart n p.0 (above 0 p (omega arith)))) j ∷ answered_found ps n a i x ordered.1 (omega arith) (λ k d less. above (suc k) d (omega arith)) (λ d. at d) j

-- ---- the answers of the names above a name

-- the name begins with another, up to a `/`, which has fewer segments than this
abbrev pub clears_below : NameParts → ℕ → NameParts → Bool
clears_below n depth m = is_within m n && nat_lt (length m.segments) depth

-- the places without the answers of those names
abbrev pub cleared_below : NameParts → ℕ → Places → Places
cleared_below n depth ps = map (λ (p : NameParts × Place). (p.0, cond (clears_below n depth p.0) (with_answer p.1 None) p.1)) ps

either_left : (a b : Bool) → a ≡ true → (a || b) ≡ true
either_left a b p = ap (λ x. x || b) p

either_right : (a b : Bool) → b ≡ true → (a || b) ≡ true
either_right true b p = refl
either_right false b p = p

either_case : {P : Type 0} (a b : Bool) → (a || b) ≡ true → (a ≡ true → P) → (b ≡ true → P) → P
either_case true b e f g = f refl
either_case false b e f g = g e

-- a name has no more segments than one that begins with it
no_deeper : (n m : NameParts) → is_within m n ≡ true → length m.segments ≤ length n.segments
no_deeper n m within =
    let long : length m.segments ≡ length (take (length m.segments) n.segments) = ap (λ (x : NameParts). length x.segments) (within_beginning m n within) in
    let few = length-take (length m.segments) n.segments in
    omega (arith, long, few)

-- the beginning with this many segments, and those with fewer
one_more : (n m : NameParts) (depth : ℕ) → depth ≤ length n.segments → (is_same_name (beginning n depth) m || clears_below n depth m) ≡ clears_below n (depth + 1) m
one_more n m depth few = both_ways _ _
    (λ is. either_case (is_same_name (beginning n depth) m) (clears_below n depth m) is
    (λ same.
    let at : beginning n depth ≡ m = (name (beginning n depth) m).0 same in
    let long : length m.segments ≡ depth = sym (ap (λ (x : NameParts). length x.segments) at) ∙ length-take-le depth n.segments few in
    both _ _ (subst (λ (x : NameParts). is_within x n ≡ true) at (beginning_within n depth)) (lt-ltb (length m.segments) (depth + 1) (omega (arith, long))))
    (λ less.
    let low = ltb-true (length m.segments) depth (second_of (is_within m n) _ less) in
    both _ _ (first_of (is_within m n) _ less) (lt-ltb (length m.segments) (depth + 1) (omega (arith, low)))))
    (λ is.
    let within = first_of (is_within m n) _ is in
    let low = ltb-true (length m.segments) (depth + 1) (second_of (is_within m n) _ is) in
    by_bool (nat_lt (length m.segments) depth)
    (λ less. either_right (is_same_name (beginning n depth) m) _ (both _ _ within less))
    (λ more.
    let long : length m.segments ≡ depth = (let high = ltb-false (length m.segments) depth more in omega (arith, low, high)) in
    either_left _ _ ((name (beginning n depth) m).1 (ap (beginning n) (sym long) ∙ sym (within_beginning m n within)))))

abbrev bare : Bool → NameParts × Place → NameParts × Place
bare b p = (p.0, cond b (with_answer p.1 None) p.1)

twice : (p : NameParts × Place) (s b c : Bool) → (s || b) ≡ c → bare s (bare b p) ≡ bare c p
twice p true true c is = ap (λ (x : Bool). bare x p) is
twice p true false c is = ap (λ (x : Bool). bare x p) is
twice p false true c is = ap (λ (x : Bool). bare x p) is
twice p false false c is = ap (λ (x : Bool). bare x p) is

pub cleared_more : (n : NameParts) (depth : ℕ) (ps : Places) → depth ≤ length n.segments → with_answer_at (beginning n depth) None (cleared_below n depth ps) ≡ cleared_below n (depth + 1) ps
cleared_more n depth [] few = refl
cleared_more n depth (p ∷ ps) few = λ i. twice p (is_same_name (beginning n depth) p.0) (clears_below n depth p.0) (clears_below n (depth + 1) p.0) (one_more n p.0 depth few) i ∷ cleared_more n depth ps few i

pub cleared_none : (n : NameParts) (ps : Places) → ps ≡ cleared_below n 0 ps
cleared_none n [] = refl
cleared_none n (p ∷ ps) = λ i. (p.0, cond (sym (never (is_within p.0 n)) i) (with_answer p.1 None) p.1) ∷ cleared_none n ps i
  where
    never : (b : Bool) → (b && nat_lt (length p.0.segments) 0) ≡ false
    never true = le-ltb (length p.0.segments) 0 (omega arith)
    never false = refl

cleared_whole : (n : NameParts) (ps : Places) → cleared_below n (length n.segments + 1) ps ≡ cleared n ps
cleared_whole n [] = refl
cleared_whole n (p ∷ ps) = λ i. (p.0, cond (all (is_within p.0 n) refl i) (with_answer p.1 None) p.1) ∷ cleared_whole n ps i
  where
    all : (b : Bool) → is_within p.0 n ≡ b → (b && nat_lt (length p.0.segments) (length n.segments + 1)) ≡ b
    all true is = lt-ltb _ _ (let few = no_deeper n p.0 is in omega (arith, few))
    all false is = refl

-- the last step, at the name itself
cleared_all : (n : NameParts) (ps : Places) → with_answer_at n None (cleared_below n (length n.segments) ps) ≡ cleared n ps
cleared_all n ps =
    ap (λ (m : NameParts). with_answer_at m None (cleared_below n (length n.segments) ps)) (within_beginning n n (within_self n))
    ∙ cleared_more n (length n.segments) ps (omega arith)
    ∙ cleared_whole n ps

pub ordered-cleared : (n : NameParts) (depth : ℕ) (ps : Places) → AreOrdered ps → AreOrdered (cleared_below n depth ps)
ordered-cleared n depth ps ordered = ordered-map (λ (m : NameParts) (p : Place). cond (clears_below n depth m) (with_answer p None) p) ps ordered

still_bare : (b : Bool) (place : Option Place) → answer_of place ≡ None → answer_of (option_map (λ (p : Place). cond b (with_answer p None) p) place) ≡ None
still_bare b None bare = refl
still_bare true (Some p) bare = refl
still_bare false (Some p) bare = bare

-- removing the answer of a name that has none changes nothing
answered_bare : (ps : Places) (n : NameParts) → AreOrdered ps → answer_of (at_name ps n) ≡ None → with_answer_at n None ps ≡ ps
unfolding IsStrictlySortedBy
answered_bare [] n ordered bare = refl
answered_bare (p ∷ ps) n ordered bare = by_bool (is_same_name n p.0)
    (λ same.
    let at : n ≡ p.0 = (name n p.0).0 same in
    let none : p.1.answer ≡ None = sym (ap answer_of (at_head n p.0 p.1 ps at)) ∙ bare in
    λ i. (p.0, (ap (λ (b : Bool). cond b (with_answer p.1 None) p.1) same ∙ ap (with_answer p.1) (sym none)) i) ∷ sym (all_apart ps n None (subst (λ (m : NameParts). AllByRecursion (λ y. name_order m y ≡ Less) (keys_of ps)) (sym at) ordered.0)) i)
    (λ other.
    let apart : n ≡ p.0 → ⊥ = λ at. true≢false (sym ((name n p.0).1 at) ∙ other) in
    λ i. row_apart n None p apart i ∷ answered_bare ps n ordered.1 (sym (ap answer_of (at_tail n p.0 p.1 ps apart)) ∙ bare) i)

-- after the beginnings, a name without an answer is done
pub cleared_bare : (n : NameParts) (ps : Places) → AreOrdered ps → answer_of (at_name ps n) ≡ None → cleared_below n (length n.segments) ps ≡ cleared n ps
cleared_bare n ps ordered bare =
    let depth = length n.segments in
    let few = cleared_below n depth ps in
    let none : answer_of (at_name few n) ≡ None = ap answer_of (at_name-map (λ (m : NameParts) (p : Place). cond (clears_below n depth m) (with_answer p None) p) n ps) ∙ still_bare (clears_below n depth n) (at_name ps n) bare in
    sym (answered_bare few n (ordered-cleared n depth ps ordered) none) ∙ cleared_all n ps

pub bare_put : (n : NameParts) (u : Body) (revision : ℕ) (ps : Places) → answer_of (at_name (insert_entry name_order ps n (written u revision)) n) ≡ None
bare_put n u revision ps = ap answer_of (put_here n (written u revision) n ps refl)

pub bare_take : (n : NameParts) (ps : Places) → AreOrdered ps → answer_of (at_name (remove_entry (is_at (name_order n)) ps) n) ≡ None
bare_take n ps ordered = ap answer_of (at_name-take n n ps ordered ∙ ap (λ (b : Bool). cond b None (at_name ps n)) ((name n n).1 refl))

-- ---- the steps of a change make what the definitions say

without : (b : Bool) (p : Place) → cond b (with_answer p None) p ≡ with_answer p (cond b None p.answer)
without true p = refl
without false p = refl

pub marked_put : (n : NameParts) (u : Body) (ps : Places) → cleared n ps ≡ marked (Put n u) ps
marked_put n u [] = refl
marked_put n u (p ∷ ps) = λ i. (p.0, without (is_within p.0 n) p.1 i) ∷ marked_put n u ps i

pub marked_remove : (n : NameParts) (ps : Places) → cleared n ps ≡ marked (Remove n) ps
marked_remove n [] = refl
marked_remove n (p ∷ ps) = λ i. (p.0, without (is_within p.0 n) p.1 i) ∷ marked_remove n ps i

given : (b : Bool) (p : Place) (o : Outcome) → cond b (with_answer p (Some o)) p ≡ with_answer p (option_or (cond b (Some o) None) p.answer)
given true p o = refl
given false p o = refl

pub marked_answer : (n : NameParts) (o : Outcome) (ps : Places) → with_answer_at n (Some o) ps ≡ marked (Answer n o) ps
marked_answer n o [] = refl
marked_answer n o (p ∷ ps) = λ i. (p.0, given (is_same_name n p.0) p.1 o i) ∷ marked_answer n o ps i

-- giving the last of many answers first, and then the others, has the same result
last_answer : (rows : OutcomeRows) (r : NameParts × Outcome) (n : NameParts) (p : Place) → with_answer p (option_or (at_name (rows ++ r ∷ []) n) p.answer) ≡ mark (Answers rows) n (cond (is_same_name r.0 n) (with_answer p (Some r.1)) p)
last_answer [] r n p = ap (λ (b : Bool). with_answer p (option_or (cond b (Some r.1) None) p.answer)) (same_back r.0 n) ∙ sym (given (is_same_name r.0 n) p r.1)
last_answer (q ∷ rows) r n p = by_bool (is_at (name_order n) q.0)
    (λ is.
    ap (λ (b : Bool). with_answer p (option_or (cond b (Some q.1) (at_name (rows ++ r ∷ []) n)) p.answer)) is
    ∙ sym (over (is_same_name r.0 n))
    ∙ sym (ap (λ (b : Bool). with_answer (first r.1) (option_or (cond b (Some q.1) (at_name rows n)) (first r.1).answer)) is))
    (λ is.
    ap (λ (b : Bool). with_answer p (option_or (cond b (Some q.1) (at_name (rows ++ r ∷ []) n)) p.answer)) is
    ∙ last_answer rows r n p
    ∙ sym (ap (λ (b : Bool). with_answer (first r.1) (option_or (cond b (Some q.1) (at_name rows n)) (first r.1).answer)) is))
  where
    first : Outcome → Place
    first o = cond (is_same_name r.0 n) (with_answer p (Some o)) p

    over : (b : Bool) → with_answer (cond b (with_answer p (Some r.1)) p) (Some q.1) ≡ with_answer p (Some q.1)
    over true = refl
    over false = refl

pub marked_last : (rows : OutcomeRows) (r : NameParts × Outcome) (ps : Places) → marked (Answers (rows ++ r ∷ [])) ps ≡ marked (Answers rows) (with_answer_at r.0 (Some r.1) ps)
marked_last rows r [] = refl
marked_last rows r (p ∷ ps) = λ i. (p.0, last_answer rows r p.0 p.1 i) ∷ marked_last rows r ps i

pub marked_none : (ps : Places) → ps ≡ marked (Answers []) ps
marked_none [] = refl
marked_none (p ∷ ps) = λ i. p ∷ marked_none ps i

pub ordered-with_answer_at : (n : NameParts) (a : Option Outcome) (ps : Places) → AreOrdered ps → AreOrdered (with_answer_at n a ps)
ordered-with_answer_at n a ps ordered = ordered-map (λ (m : NameParts) (p : Place). cond (is_same_name n m) (with_answer p a) p) ps ordered

pub marked_nothing : (ps : Places) → ps ≡ marked Nothing ps
marked_nothing [] = refl
marked_nothing (p ∷ ps) = λ i. p ∷ marked_nothing ps i

pub changed_nothing : (s : ShelfView) (revision : ℕ) → s ≡ changed s Nothing revision
changed_nothing s revision = λ i. record { types = s.types; types_revision = s.types_revision; places = marked_nothing s.places i }

-- ---- a name's answer, set after a search

pub answer_found : (ps : Places) (n : NameParts) (i : ℕ) (d : NameParts × Place) → IsFoundAt ps n i → answer_of (at_name ps n) ≡ (get_or ps i d).1.answer
answer_found ps n i d f = ap answer_of (at_found ps n i d f.within f.above (f.at d))

pub answer_missed : (ps : Places) (n : NameParts) (i : ℕ) → IsGapAt ps n i → answer_of (at_name ps n) ≡ None
answer_missed ps n i f = ap answer_of (at_missed ps n i f.above f.below)
