-- What is remembered already.
use Rattle.std.proofs.Common.{◌≡◌, ℕ, Bool, List, [], ◌∷◌, cond, refl, ap, sym, subst, ◌∙◌, Option, Some, None}
use Rattle.std.specs.Prelude.{IsSome}
use Rattle.std.specs.Option.{ForSome, option_map, option_or}
use Rattle.std.specs.List.{AllByRecursion}
use Rattle.bc_names.specs.Names.{NameParts}
use Rattle.bc_prov.specs.declared.outcome.Outcome.{Outcome}
use Rattle.bc_prov.specs.State.{at_name}
use Rattle.bc_prov.specs.Outcome.{IsOutcomeIn}
use Rattle.bc_outcomes.proofs.Unique.{one_outcome}
use Rattle.bc_memo.specs.declared.place.Place.{Place}
use Rattle.bc_memo.specs.declared.change.Change.{Change}
use Rattle.bc_memo.specs.declared.change.Change.TheVariants as changes
use Rattle.bc_memo.specs.declared.memo.Remembered.{Remembered}
use Rattle.bc_memo.specs.Places.{Places, ShelfView, changed, mark, next_types_revision, placed, revision_at, revision_of}
use Rattle.bc_memo.specs.Memos.{IsRemembered, Recorded, Stands}
use Rattle.bc_memo.proofs.Marking.{other_name}
use Rattle.bc_memo.proofs.Places.{at_name-map, at_name-put, put_here}
use Rattle.bc_calls.specs.declared.call.Entry.{Entry}
use Rattle.bc_calls.specs.declared.call.Event.TheVariants.{Ask}
use Rattle.bc_calls.specs.Calls.{after}
use Rattle.bc_calls.specs.Changes.{change_of, writes_after, writes_of}
use Rattle.bc_book.specs.Ledgers.{Appends, BookView, IsRow, KeepsOthers, LedgerView, Recalls, Remembers, SameButAnswers, kept_rows, remembering, row_list}

-- a part that carried nothing carries what is passed in
pub carried_as : (a before made : Option Outcome) → before ≡ None → made ≡ option_or a before → made ≡ a
carried_as None before made none is = is ∙ none
carried_as (Some o) before made none is = is

-- what is remembered already is the outcome
pub recalls_none : (s : ShelfView) (h : List Entry) (rows : List (NameParts × Remembered)) (n : NameParts) (o x : Outcome) → IsRemembered s rows n (Some x) → IsOutcomeIn (after h) n x → IsOutcomeIn (after h) n o → Recalls s rows n o None
recalls_none s h rows n o x remembered here outcome = λ held. subst (λ (y : Outcome). IsRemembered s rows n (Some y)) (one_outcome (after h) n x o here outcome) remembered

-- ---- an answer is no write

-- a change that brings only answers: it leaves the places without their answers, and the revision of the declarations
abbrev pub BringsAnswers : Change → Type 0
BringsAnswers c = ((ps : Places) (revision : ℕ) → placed ps c revision ≡ ps) × ((before revision : ℕ) → next_types_revision before c revision ≡ before)

marked_revision : (c : Change) (m : NameParts) (p : Option Place) → revision_of (option_map (mark c m) p) ≡ revision_of p
marked_revision c m None = refl
marked_revision c m (Some p) = refl

-- it gives no name another revision
same_revision : (s : ShelfView) (c : Change) (revision : ℕ) (m : NameParts) → BringsAnswers c → revision_at (changed s c revision) m ≡ revision_at s m
same_revision s c revision m brings =
    ap revision_of (at_name-map (mark c) m (placed s.places c revision))
    ∙ marked_revision c m (at_name (placed s.places c revision) m)
    ∙ ap (λ (ps : Places). revision_of (at_name ps m)) (brings.0 s.places revision)

same_recorded : (s : ShelfView) (c : Change) (revision : ℕ) (used : Recorded) → BringsAnswers c → AllByRecursion (λ (u : NameParts × Option ℕ). revision_at s u.0 ≡ u.1) used
    → AllByRecursion (λ (u : NameParts × Option ℕ). revision_at (changed s c revision) u.0 ≡ u.1) used
same_recorded s c revision [] brings all = tt
same_recorded s c revision (u ∷ us) brings all = (same_revision s c revision u.0 brings ∙ all.0, same_recorded s c revision us brings all.1)

-- what was valid is still valid after it
stands_answered : (s : ShelfView) (c : Change) (revision : ℕ) (r : Remembered) → BringsAnswers c → Stands s r → Stands (changed s c revision) r
stands_answered s c revision r brings stands = record { types = brings.1 s.types_revision revision ∙ stands.types; names = same_recorded s c revision r.used.items brings stands.names }

-- and what was remembered still is
pub remembered_answered : (s : ShelfView) (c : Change) (revision : ℕ) (rows : List (NameParts × Remembered)) (n : NameParts) (o : Outcome) → BringsAnswers c → IsRemembered s rows n (Some o) → IsRemembered (changed s c revision) rows n (Some o)
remembered_answered s c revision rows n o brings was = (was.0, was.1, stands_answered s c revision was.0 brings was.2, was.3)

pub answer_brings : (n : NameParts) (o : Outcome) → BringsAnswers (changes.Answer n o)
answer_brings n o = (λ ps v. refl, λ t v. refl)

pub answers_bring : (listing : List (NameParts × Outcome)) → BringsAnswers (changes.Answers listing)
answers_bring listing = (λ ps v. refl, λ t v. refl)

held_answered : (n : NameParts) (o : Outcome) (m : NameParts) (p : Option Place) → IsSome (option_map (mark (changes.Answer n o) m) p) → IsSome p
held_answered n o m None some = some
held_answered n o m (Some p) some = refl

-- the outcome of a name that holds a body is remembered after an ask of it
pub recalled : (s : ShelfView) (h : List Entry) (rows : List (NameParts × Remembered)) (n : NameParts) (o : Outcome) (revision : ℕ) (row : Option (NameParts × Remembered))
    → Recalls s rows n o row → ForSome row (λ r. IsRow s h r.0 r.1) → IsSome (at_name (changed s (changes.Answer n o) revision).places n)
    → IsRemembered (changed s (changes.Answer n o) revision) (remembering (row_list row) rows) n (Some o)
recalled s h rows n o revision None recalls is held =
    let there = recalls (held_answered n o n (at_name s.places n) (subst (λ (p : Option Place). IsSome p) (at_name-map (mark (changes.Answer n o)) n s.places) held)) in
    (there.0, there.1, stands_answered s (changes.Answer n o) revision there.0 (answer_brings n o) there.2, there.3)
recalled s h rows n o revision (Some r) recalls is held =
    (r.1, put_here r.0 r.1 n rows (sym recalls.0), stands_answered s (changes.Answer n o) revision r.1 (answer_brings n o) (is r refl).stands, sym recalls.1)

-- an ask that is entered leaves its outcome remembered
pub recalled_by : (session : ℕ) (k n : NameParts) (o mine : Outcome) (old new : BookView) (row : Option (NameParts × Remembered))
    → Appends session (Ask k o) old new → new.answers ≡ kept_rows (change_of (Ask k o)) (remembering (row_list row) old.answers) → k ≡ n → mine ≡ o
    → Recalls old.shelf old.answers k o row → ForSome row (λ r. (r.0 ≡ k) × IsRow old.shelf old.entries r.0 r.1) → Remembers n mine new
recalled_by session k n o mine old new row step answers named same recalls is =
    let revision = writes_after (writes_of old.entries) (Ask k o) in
    λ held. subst (λ (x : (NameParts × Outcome) × ShelfView × List (NameParts × Remembered)). IsRemembered x.1 x.2 x.0.0 (Some x.0.1))
    (λ i. ((named i, sym same i), sym step.shelf i, sym answers i))
    (recalled old.shelf old.entries old.answers k o revision row recalls (λ r at. (is r at).1)
    (subst (λ (x : ShelfView × NameParts). IsSome (at_name x.0.places x.1)) (λ i. (step.shelf i, sym named i)) held))

-- a row of one name leaves what is remembered for another
others_kept : (n other : NameParts) (rows : List (NameParts × Remembered)) (row : Option (NameParts × Remembered)) → ForSome row (λ r. r.0 ≡ n) → (other ≡ n → ⊥)
    → at_name (remembering (row_list row) rows) other ≡ at_name rows other
others_kept n other rows None is apart = refl
others_kept n other rows (Some r) is apart =
    at_name-put r.0 r.1 other rows
    ∙ ap (λ (b : Bool). cond b (Some r.1) (at_name rows other)) (other_name r.0 other (λ (same : r.0 ≡ other). apart (sym same ∙ is r refl)))

-- an ask that is entered leaves what is remembered for other names
pub others_kept_by : (k n : NameParts) (o : Outcome) (old new : BookView) (row : Option (NameParts × Remembered))
    → new.answers ≡ kept_rows (change_of (Ask k o)) (remembering (row_list row) old.answers) → k ≡ n
    → ForSome row (λ r. (r.0 ≡ k) × IsRow old.shelf old.entries r.0 r.1) → KeepsOthers n old new
others_kept_by k n o old new row answers named is other apart =
    ap (λ (rows : List (NameParts × Remembered)). at_name rows other) answers
    ∙ others_kept n other old.answers row (λ r at. (is r at).0 ∙ named) apart

-- ---- ledgers that are the same, except for what is remembered

pub same_itself : (l : LedgerView) → SameButAnswers l l
same_itself l = record { capacity = refl; entries = refl; shelf = refl; pieces = refl; room = refl; places = refl; ready = refl }

pub same_again : (one mid other : LedgerView) → SameButAnswers one mid → SameButAnswers mid other → SameButAnswers one other
same_again one mid other first second = record {
  capacity = second.capacity ∙ first.capacity;
  entries = second.entries ∙ first.entries;
  shelf = second.shelf ∙ first.shelf;
  pieces = second.pieces ∙ first.pieces;
  room = second.room ∙ first.room;
  places = second.places ∙ first.places;
  ready = second.ready ∙ first.ready;
}
