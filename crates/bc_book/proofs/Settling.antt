-- What an ask, and an ask for all, leave of what is remembered.
use Rattle.std.proofs.Common.{◌≡◌, ℕ, true≢false, List, refl, ap, sym, subst, ◌∙◌, Option, Some, None}
use Rattle.std.specs.Prelude.{is_some}
use Rattle.std.specs.Option.{ForSome}
use Rattle.bc_names.specs.Names.{NameParts}
use Rattle.bc_prov.specs.declared.outcome.Outcome.{Outcome}
use Rattle.bc_prov.specs.State.{at_name}
use Rattle.bc_memo.specs.declared.memo.Remembered.{Remembered}
use Rattle.bc_memo.specs.declared.change.Change.TheVariants as changes
use Rattle.bc_memo.specs.Places.{ShelfView}
use Rattle.bc_calls.specs.declared.call.Entry.{Entry}
use Rattle.bc_calls.specs.declared.call.Event.{Event}
use Rattle.bc_calls.specs.declared.call.Event.TheVariants as events
use Rattle.bc_calls.specs.Answers.{asks}
use Rattle.bc_calls.specs.Changes.{change_of, writes_after, writes_of}
use Rattle.bc_book.specs.Ledgers.{Appends, AreRows, BookView, IsFoundAll, IsRow, KeepsUnasked, Recalls, Remembers, RemembersEach, kept_rows, remembering, row_list}
use Rattle.bc_book.proofs.Recalling.{answers_bring, recalled_by, remembered_answered}
use Rattle.bc_book.proofs.Listing.{all_map, unlisted_kept}

-- a row that may be remembered, as a list
pub rows_of_row : (s : ShelfView) (h : List Entry) (n : NameParts) (row : Option (NameParts × Remembered)) → ForSome row (λ r. (r.0 ≡ n) × IsRow s h r.0 r.1) → AreRows s h (row_list row)
rows_of_row s h n None is = tt
rows_of_row s h n (Some r) is = ((is r refl).1, tt)

-- ---- an ask of a name

pub settled_step : (session : ℕ) (k n : NameParts) (o : Outcome) (told : Event) (old new : BookView) (row : Option (NameParts × Remembered))
    → told ≡ events.Ask k o → Appends session (events.Ask k o) old new
    → new.answers ≡ kept_rows (change_of (events.Ask k o)) (remembering (row_list row) old.answers) → k ≡ n
    → Recalls old.shelf old.answers k o row → ForSome row (λ q. (q.0 ≡ k) × IsRow old.shelf old.entries q.0 q.1)
    → (told ≡ events.Ask n o) × Appends session told old new × Remembers n o new
settled_step session k n o told old new row is step answers named recalls rows = (
  is ∙ ap (λ (m : NameParts). events.Ask m o) named,
  subst (λ (e : Event). Appends session e old new) (sym is) step,
  recalled_by session k n o o old new row step answers named refl recalls rows,
)

no_row : (s : ShelfView) (h : List Entry) (n : NameParts) (rows : List (NameParts × Remembered)) (row : Option (NameParts × Remembered)) → ForSome row (λ q. (q.0 ≡ n) × IsRow s h q.0 q.1) → at_name s.places n ≡ None
    → remembering (row_list row) rows ≡ rows
no_row s h n rows None is absent = refl
no_row s h n rows (Some r) is absent =
    let row = is r refl in
    absurd (true≢false (sym row.1.held ∙ ap (λ (k : NameParts). is_some (at_name s.places k)) row.0 ∙ ap is_some absent))

-- the outcome of an absent name is remembered nowhere
pub settled_absent : (k n : NameParts) (o : Outcome) (old new : BookView) (row : Option (NameParts × Remembered))
    → new.answers ≡ kept_rows (change_of (events.Ask k o)) (remembering (row_list row) old.answers) → k ≡ n
    → ForSome row (λ q. (q.0 ≡ k) × IsRow old.shelf old.entries q.0 q.1) → at_name old.shelf.places n ≡ None → new.answers ≡ old.answers
settled_absent k n o old new row answers named is absent = answers ∙ no_row old.shelf old.entries k old.answers row is (ap (at_name old.shelf.places) named ∙ absent)

-- ---- an ask for all

pub settled_all : (session : ℕ) (listing : List (NameParts × Outcome)) (told : Event) (old new : BookView) (rows : List (NameParts × Remembered))
    → told ≡ events.All listing → Appends session (events.All listing) old new
    → new.answers ≡ kept_rows (change_of (events.All listing)) (remembering rows old.answers) → IsFoundAll old.shelf old.entries old.answers listing rows
    → (told ≡ events.All listing) × Appends session told old new × RemembersEach new.shelf new.answers listing
settled_all session listing told old new rows is step answers found = (
  is,
  subst (λ (e : Event). Appends session e old new) (sym is) step,
  subst (λ (x : ShelfView × List (NameParts × Remembered)). RemembersEach x.0 x.1 listing) (λ i. (sym step.shelf i, sym answers i))
      (all_map _ _ listing (λ x was. remembered_answered old.shelf (changes.Answers listing) (writes_after (writes_of old.entries) (events.All listing)) (remembering rows old.answers) x.0 x.1 (answers_bring listing) was) found.remembered),
)

pub settled_unasked : (listing : List (NameParts × Outcome)) (told : Event) (old new : BookView) (rows : List (NameParts × Remembered))
    → told ≡ events.All listing → new.answers ≡ kept_rows (change_of (events.All listing)) (remembering rows old.answers) → IsFoundAll old.shelf old.entries old.answers listing rows
    → KeepsUnasked told old new
settled_unasked listing told old new rows is answers found = λ n unasked.
    ap (λ (all : List (NameParts × Remembered)). at_name all n) answers
    ∙ unlisted_kept listing rows old.answers n found.named (sym (ap (asks n) is) ∙ unasked)
