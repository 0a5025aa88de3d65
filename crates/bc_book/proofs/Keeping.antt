-- What is kept stays right when an entry is added, and when an outcome is remembered.
use Rattle.std.proofs.Common.{◌≡◌, ℕ, zero, suc, ◌+◌, ◌<◌, ◌≤◌, ◌^◌, Bool, true, false, true≢false, List, [], ◌∷◌, ◌++◌, length, get_or, set, cond, refl, ap, sym, subst, ◌∙◌, arith, length-append, Option, Some, None}
use Rattle.std.specs.Prelude.{IsSome, is_some, IfSome}
use Rattle.std.specs.Option.{option_map}
use Rattle.std.specs.List.{Contains}
use Rattle.std.specs.Map.{keys_of}
use Rattle.std.specs.BTreeMap.{is_at, insert_entry}
use Rattle.std.proofs.lemmas.List.{length-map, length-set}
use Rattle.std.proofs.lemmas.Map.Keys.{IsDistinct-from_sorted}
use Rattle.std.proofs.lemmas.Map.Made.{AllPairs-from_IsDistinct}
use Rattle.bc_names.specs.Names.{NameParts, name_order, is_same_name}
use Rattle.bc_names.proofs.Equality.{name}
use Rattle.bc_prov.specs.declared.outcome.Outcome.{Outcome}
use Rattle.bc_prov.specs.State.{at_name}
use Rattle.bc_prov.specs.Outcome.{IsOutcomeIn}
use Rattle.bc_prov.specs.Snapshots.{SnapshotView, names_used}
use Rattle.bc_memo.specs.declared.place.Place.{Place}
use Rattle.bc_memo.specs.declared.change.Change.{Change}
use Rattle.bc_memo.specs.declared.change.Change.TheVariants as changes
use Rattle.bc_memo.specs.declared.memo.Remembered.{Remembered}
use Rattle.bc_memo.specs.Places.{Places, ShelfView, AreOrdered, unit_of, written, placed, mark, changed, units_in}
use Rattle.bc_memo.specs.Memos.{IsRowOf, Stands}
use Rattle.bc_memo.proofs.Places.{by_bool, same_name, no_order, ordered-put, ordered-take, at_name-map, at_name-put, at_name-take, length-put_le, length-put_held, length-take_le}
use Rattle.bc_calls.specs.declared.call.PutReply.TheVariants.{Added, Replaced, Full, WrongKind}
use Rattle.bc_calls.specs.declared.call.RemoveReply.TheVariants.{Removed, Absent}
use Rattle.bc_calls.specs.declared.call.Event.{Event}
use Rattle.bc_calls.specs.declared.call.Event.TheVariants.{Types, Put, Remove, Ask, All as EveryRoot}
use Rattle.bc_calls.specs.declared.call.Entry.{Entry}
use Rattle.bc_calls.specs.declared.call.TheConstants.{MOST_BODIES}
use Rattle.bc_book.specs.declared.ledger.TheConstants.{MOST_SESSIONS}
use Rattle.bc_calls.specs.Calls.{after, HoldsCount, IsReply, MayComeNext}
use Rattle.bc_calls.specs.Changes.{change_of, writes_of}
use Rattle.bc_calls.specs.Answers.{IsShelfOf}
use Rattle.bc_book.specs.Memory.{IsRight, ArePast}
use Rattle.bc_book.specs.Ledgers.{HasPlace, IsLedger, IsRow, bodies_of, kept_rows}
use Rattle.bc_calls.proofs.Histories.{legal_none, legal_snoc}
use Rattle.bc_book.proofs.Counting.{counts_more}
use Rattle.bc_calls.proofs.Changing.{shelf_none, shelf_snoc}
use Rattle.bc_calls.proofs.Parts.{copied_part}
use Rattle.bc_book.proofs.Remembering.{past_none, past_more, right_more, right_new, right_now, stands_new}

-- ---- how many bodies are stored

none_if : {A : Type 0} (o : Option A) → is_some o ≡ false → o ≡ None
none_if None is = refl
none_if (Some a) is = absurd (true≢false is)

pub some_unit : (o : Option Place) → is_some (unit_of o) ≡ is_some o
some_unit None = refl
some_unit (Some p) = refl

pub absent_none : (s : ShelfView) (n : NameParts) → is_some (at_name s.places n) ≡ false → bodies_of s n ≡ None
absent_none s n absent = ap unit_of (none_if (at_name s.places n) absent)

-- a name is found exactly if it is among the names
pub named : {V : Type 0} (es : List (NameParts × V)) (n : NameParts) → is_some (at_name es n) ≡ true → Contains (keys_of es) n
named [] n some = absurd (true≢false (sym some))
named (e ∷ es) n some = by_bool (is_at (name_order n) e.0)
    (λ is. (0, omega arith, sym ((same_name n e.0).0 is)))
    (λ is.
    let t = named es n (sym (ap (λ (b : Bool). is_some (cond b (Some e.1) (at_name es n))) is) ∙ some) in
    let within = t.1 in
    (suc t.0, omega (arith, within), t.2))

pub held_at : {V : Type 0} (es : List (NameParts × V)) (n : NameParts) (k : ℕ) → k < length (keys_of es) → get_or (keys_of es) k n ≡ n → is_some (at_name es n) ≡ true
held_at [] n k within at = absurd (omega (arith, within))
held_at (e ∷ es) n zero within at = ap (λ (b : Bool). is_some (cond b (Some e.1) (at_name es n))) ((same_name n e.0).1 (sym at))
held_at (e ∷ es) n (suc k) within at = by_bool (is_at (name_order n) e.0)
    (λ is. ap (λ (b : Bool). is_some (cond b (Some e.1) (at_name es n))) is)
    (λ is. ap (λ (b : Bool). is_some (cond b (Some e.1) (at_name es n))) is ∙ held_at es n k (omega (arith, within)) at)

pub counted : (s : ShelfView) → AreOrdered s.places → HoldsCount (bodies_of s) (length s.places)
counted s ordered = (
  keys_of s.places,
  AllPairs-from_IsDistinct same_name (keys_of s.places) (IsDistinct-from_sorted name_order (keys_of s.places) ordered),
  λ n. (
    λ some. named s.places n (sym (some_unit (at_name s.places n)) ∙ some),
    λ t. some_unit (at_name s.places n) ∙ held_at s.places n t.0 t.1 t.2,
  ),
  length-map s.places (λ e. e.0),
)

-- the stored bodies are those that the history leaves
pub same_bodies : (s : ShelfView) (h : List Entry) → IsShelfOf s h → bodies_of s ≡ (after h).bodies
same_bodies s h of = λ i n. of.bodies n i

-- ---- how many places an entry leaves

few_placed : (s : ShelfView) (h : List Entry) (e : Event) (revision : ℕ) → IsShelfOf s h → IsReply (after h) e → length s.places ≤ MOST_BODIES → HasPlace (length s.places) e → length (placed s.places (change_of e) revision) ≤ MOST_BODIES
few_placed s h (Put m b Added) revision of right few place =
    let l = length-put_le s.places m (written b revision) in
    let less = place refl in
    omega (arith, l, less)
few_placed s h (Put m b Replaced) revision of right few place =
    let l = length-put_held s.places m (written b revision) of.ordered (sym (some_unit (at_name s.places m)) ∙ ap is_some (of.bodies m) ∙ right.1) in
    omega (arith, l, few)
few_placed s h (Put m b Full) revision of right few place = few
few_placed s h (Put m b WrongKind) revision of right few place = few
few_placed s h (Remove m Removed) revision of right few place = let l = length-take_le s.places (is_at (name_order m)) in omega (arith, l, few)
few_placed s h (Remove m Absent) revision of right few place = few
few_placed s h (Types t) revision of right few place = few
few_placed s h (Ask m o) revision of right few place = few
few_placed s h (EveryRoot l) revision of right few place = few

-- ---- what is remembered after a change

some_marked : (c : Change) (n : NameParts) (o : Option Place) → IsSome o → IsSome (option_map (mark c n) o)
some_marked c n None some = absurd (true≢false (sym some))
some_marked c n (Some p) some = refl

kept_row : (c : Change) (rows : List (NameParts × Remembered)) (n : NameParts) (r : Remembered) → AreOrdered rows → at_name (kept_rows c rows) n ≡ Some r → at_name rows n ≡ Some r
kept_row (changes.Types t) rows n r ordered at = at
kept_row (changes.Put m u) rows n r ordered at = at
kept_row (changes.Remove m) rows n r ordered at = by_bool (is_same_name m n)
    (λ same. absurd (let none : None ≡ Some r = sym (at_name-take m n rows ordered ∙ ap (λ (b : Bool). cond b None (at_name rows n)) same) ∙ at in cc))
    (λ apart. sym (at_name-take m n rows ordered ∙ ap (λ (b : Bool). cond b None (at_name rows n)) apart) ∙ at)
kept_row (changes.Answer m o) rows n r ordered at = at
kept_row (changes.Answers l) rows n r ordered at = at
kept_row changes.Nothing rows n r ordered at = at

held_placed : (c : Change) (revision : ℕ) (ps : Places) (rows : List (NameParts × Remembered)) (n : NameParts) (r : Remembered) → AreOrdered ps → AreOrdered rows → at_name (kept_rows c rows) n ≡ Some r → IsSome (at_name ps n) → IsSome (at_name (placed ps c revision) n)
held_placed (changes.Types t) revision ps rows n r ordered sorted at some = some
held_placed (changes.Put m u) revision ps rows n r ordered sorted at some = by_bool (is_same_name m n)
    (λ same. ap is_some (at_name-put m (written u revision) n ps ∙ ap (λ (b : Bool). cond b (Some (written u revision)) (at_name ps n)) same))
    (λ apart. ap is_some (at_name-put m (written u revision) n ps ∙ ap (λ (b : Bool). cond b (Some (written u revision)) (at_name ps n)) apart) ∙ some)
held_placed (changes.Remove m) revision ps rows n r ordered sorted at some = by_bool (is_same_name m n)
    (λ same. absurd (let none : None ≡ Some r = sym (at_name-take m n rows sorted ∙ ap (λ (b : Bool). cond b None (at_name rows n)) same) ∙ at in cc))
    (λ apart. ap is_some (at_name-take m n ps ordered ∙ ap (λ (b : Bool). cond b None (at_name ps n)) apart) ∙ some)
held_placed (changes.Answer m o) revision ps rows n r ordered sorted at some = some
held_placed (changes.Answers l) revision ps rows n r ordered sorted at some = some
held_placed changes.Nothing revision ps rows n r ordered sorted at some = some

held_more : (s : ShelfView) (c : Change) (revision : ℕ) (rows : List (NameParts × Remembered)) (n : NameParts) (r : Remembered) → AreOrdered s.places → AreOrdered rows → at_name (kept_rows c rows) n ≡ Some r → IsSome (at_name s.places n) → IsSome (at_name (changed s c revision).places n)
held_more s c revision rows n r ordered sorted at some =
    subst (λ (o : Option Place). IsSome o) (sym (at_name-map (mark c) n (placed s.places c revision)))
    (some_marked c n (at_name (placed s.places c revision) n) (held_placed c revision s.places rows n r ordered sorted at some))

sorted_left : (c : Change) (rows : List (NameParts × Remembered)) → AreOrdered rows → AreOrdered (kept_rows c rows)
sorted_left (changes.Types t) rows sorted = sorted
sorted_left (changes.Put m u) rows sorted = sorted
sorted_left (changes.Remove m) rows sorted = ordered-take (is_at (name_order m)) rows sorted
sorted_left (changes.Answer m o) rows sorted = sorted
sorted_left (changes.Answers l) rows sorted = sorted
sorted_left changes.Nothing rows sorted = sorted

-- ---- what is kept

pub kept_none : (capacity : ℕ) (counts : List ℕ) (s : ShelfView) → capacity < 2 ^ 32 → length counts ≡ MOST_SESSIONS → ((k : ℕ) → k < MOST_SESSIONS → get_or counts k 0 ≡ 0) → s.types ≡ [] → s.types_revision ≡ 0 → s.places ≡ []
    → IsLedger capacity [] counts 0 s []
kept_none capacity counts s bounded sized zeros types revision places = record {
  legal = legal_none;
  bounded = bounded;
  short = omega arith;
  counted = zeros;
  sized = sized;
  written = refl;
  shelf_of = shelf_none s types places;
  few = (let none = ap (λ (ps : Places). length ps) places in omega (arith, none));
  past = past_none s revision places;
  sorted = no_order Remembered;
  held = λ n r at. absurd (cc);
  right = λ n r at. absurd (cc);
}

-- one more entry
pub kept_snoc : (capacity : ℕ) (h : List Entry) (counts : List ℕ) (writes writes' : ℕ) (s s' : ShelfView) (rows rows' : List (NameParts × Remembered)) (e : Entry)
    → IsLedger capacity h counts writes s rows → length h < capacity → MayComeNext h e → e.session < MOST_SESSIONS → HasPlace (length s.places) e.event → writes' ≡ writes_of (h ++ e ∷ []) → s' ≡ changed s (change_of e.event) writes'
    → rows' ≡ kept_rows (change_of e.event) rows
    → IsLedger capacity (h ++ e ∷ []) (set counts e.session (e.number + 1)) writes' s' rows'
kept_snoc capacity h counts writes writes' s s' rows rows' e kept below fits session place count is left =
    subst (λ (x : ℕ × (ShelfView × List (NameParts × Remembered))). IsLedger capacity (h ++ e ∷ []) (set counts e.session (e.number + 1)) x.0 x.1.0 x.1.1)
    (λ i. (sym count i, (sym (is ∙ ap (changed s (change_of e.event)) count) i, sym left i))) (record {
      legal = legal_snoc h e kept.legal fits;
      bounded = kept.bounded;
      short = (let longer = length-append h (e ∷ []) in omega (arith, longer, below));
      counted = counts_more counts h e (e.number + 1) (let sized = kept.sized in omega (arith, sized, session)) (ap (λ n. n + 1) (fits.1 ∙ sym (kept.counted e.session session))) kept.counted;
      sized = length-set counts e.session (e.number + 1) ∙ kept.sized;
      written = refl;
      shelf_of = shelf_snoc s h e (writes_of (h ++ e ∷ [])) kept.shelf_of fits;
      few = (
          let l = length-map {B = NameParts × Place} (placed s.places (change_of e.event) (writes_of (h ++ e ∷ []))) (λ (q : NameParts × Place). (q.0, mark (change_of e.event) q.0 q.1)) in
          let few = few_placed s h e.event (writes_of (h ++ e ∷ [])) kept.shelf_of fits.0 kept.few place in
          omega (arith, l, few));
      past = past_more s h e kept.shelf_of.ordered kept.past;
      sorted = sorted_left (change_of e.event) rows kept.sorted;
      held = λ n r at. held_more s (change_of e.event) (writes_of (h ++ e ∷ [])) rows n r kept.shelf_of.ordered kept.sorted at (kept.held n r (kept_row (change_of e.event) rows n r kept.sorted at));
      right = λ n r at. right_more s h n r e kept.shelf_of fits (kept.right n r (kept_row (change_of e.event) rows n r kept.sorted at));
    })

-- one more outcome that is remembered
pub kept_remembered : (capacity : ℕ) (h : List Entry) (counts : List ℕ) (writes : ℕ) (s : ShelfView) (rows rows' : List (NameParts × Remembered)) (n : NameParts) (r : Remembered)
    → IsLedger capacity h counts writes s rows → IsRow s h n r → rows' ≡ insert_entry name_order rows n r → IsLedger capacity h counts writes s rows'
kept_remembered capacity h counts writes s rows rows' n r kept row is = record {
  legal = kept.legal;
  bounded = kept.bounded;
  short = kept.short;
  counted = kept.counted;
  sized = kept.sized;
  written = kept.written;
  shelf_of = kept.shelf_of;
  few = kept.few;
  past = kept.past;
  sorted = subst (λ (l : List (NameParts × Remembered)). AreOrdered l) (sym is) (ordered-put n r rows kept.sorted);
  held = λ m q at. by_bool (is_same_name n m)
      (λ same. subst (λ (k : NameParts). IsSome (at_name s.places k)) ((name n m).0 same) row.held)
      (λ apart. kept.held m q (other m q apart at));
  right = λ m q at. by_bool (is_same_name n m)
      (λ same.
      let one : Some r ≡ Some q = sym (ap (λ (b : Bool). cond b (Some r) (at_name rows m)) same) ∙ sym (at_name-put n r m rows) ∙ sym (ap (λ (l : List (NameParts × Remembered)). at_name l m) is) ∙ at in
      let found : r ≡ q = cc in
      subst (λ (p : NameParts × Remembered). IsRight s h p.0 p.1) (λ i. ((name n m).0 same i, found i)) row.right)
      (λ apart. kept.right m q (other m q apart at));
}
  where
    other : (m : NameParts) (q : Remembered) → is_same_name n m ≡ false → at_name rows' m ≡ Some q → at_name rows m ≡ Some q
    other m q apart at = sym (ap (λ (b : Bool). cond b (Some r) (at_name rows m)) apart) ∙ sym (at_name-put n r m rows) ∙ sym (ap (λ (l : List (NameParts × Remembered)). at_name l m) is) ∙ at

-- what is remembered and still valid is the outcome now
pub answer_right : (h : List Entry) (s : ShelfView) (rows : List (NameParts × Remembered)) (n : NameParts) (r : Remembered) (o : Outcome)
    → ((m : NameParts) (q : Remembered) → at_name rows m ≡ Some q → IsRight s h m q) → at_name rows n ≡ Some r → Stands s r → o ≡ r.outcome → IsOutcomeIn (after h) n o
answer_right h s rows n r o right at stands is = subst (IsOutcomeIn (after h) n) (sym is) (right_now s h n r (right n r at) stands)

pub some_map : {A : Type 0} (o : Option A) (P Q : A → Type 0) → ((a : A) → P a → Q a) → IfSome o P → IfSome o Q
some_map None P Q f h = tt
some_map (Some a) P Q f h = f a h

-- an outcome that is recorded with the revisions of all that it depends on may be remembered
pub row_of : (s : ShelfView) (h : List Entry) (v : SnapshotView) (n : NameParts) (names : List NameParts) (r : Remembered) (o : Outcome)
    → IsShelfOf s h → ArePast s h → IsSome (at_name s.places n) → v.types ≡ s.types → v.root ≡ n → v.units ≡ units_in n s.places → names ≡ names_used v.root v.units → IsRowOf s names o r → IsOutcomeIn (after h) n o
    → IsRow s h n r
row_of s h v n names r o of past held types root units all row is = record {
  held = held;
  right = right_new s h v n names r of past (copied_part s h n v of types root units) all row.types row.used (subst (IsOutcomeIn (after h) n) (sym row.outcome) is);
  stands = stands_new s names o r row;
}
