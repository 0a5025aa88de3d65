-- Each step keeps the rule of the published table.
use Rattle.std.proofs.Common.{◌≡◌, ◌≢◌, ℕ, zero, suc, List, [], ◌∷◌, ◌++◌, refl, sym, ap, ◌∙◌, subst, ⊎_elim, Some}
use Rattle.std.proofs.lemmas.List.{append-nil}
use mathlib.Core.Option.{some, some-injective, some-ne-none}
use lib.ListN.{get_elem?}
use Rattle.crossbeam_utils.specs.Register.{Admits, Turns, TurnsAt}
use Rattle.atomic_table.proofs.Lists.{at_set, at_snoc}
use Rattle.bc_memo.specs.Places.{AreFitting, changed}
use Rattle.bc_calls.specs.declared.call.Entry.{Entry}
use Rattle.std.specs.Prelude.{MatchResult, Result, Ok, Err, is_ok, fold}
use Rattle.std.proofs.Common.{true, false, true≢false}
use Rattle.bc_calls.specs.Calls.{MayComeNext, StartsWith, last_of}
use Rattle.bc_calls.specs.Changes.{change_of}
use Rattle.bc_versions.specs.Tables.{TableView, UpdateView, empty_table, updated, IsTableOf}
use Rattle.bc_versions.specs.Rules.{IsPublished, Looks, Adds, IsDue, entries_of}
use Rattle.bc_calls.proofs.Histories.{legal_none, legal_snoc}
use Rattle.bc_calls.proofs.Beginnings.{starts_more, same_end, last_of-snoc}
use Rattle.bc_versions.proofs.Tables.{table_none, table_snoc}

pub opens : IsPublished empty_table ([] ∷ [])
opens = ([], legal_none, table_none, one)
  where
    one : (seat : ℕ) (seen : List Entry) → get_elem? ([] ∷ []) seat ≡ some seen → StartsWith [] seen
    one zero seen at = ([], some-injective [] seen at ∙ sym (append-nil seen))
    one (suc seat) seen at = absurd (some-ne-none seen (sym at))

pub admits : Admits IsPublished []
admits table views h = (h.0, h.1, h.2, λ seat seen at. ⊎_elim (h.3 seat seen) (λ (new : [] ≡ seen). subst (StartsWith h.0) new (h.0, refl)) (at_snoc views [] seen seat at))

pub looks : (seat : ℕ) (seen : List Entry) → Turns IsPublished seat seen (λ x. x) Looks
looks seat seen table views h at = (
  h.0,
  (
    h.0,
    h.1,
    h.2,
    λ j other there. ⊎_elim (λ (t : (j ≡ seat) × (h.0 ≡ other)). ([], t.1 ∙ sym (append-nil other))) (λ (t : (j ≢ seat) × (get_elem? views j ≡ some other)). h.3 j other t.1)
        (at_set views seat j h.0 other there),
  ),
  (h.3 seat seen at, h.1, h.2),
)

-- whoever has seen the table's last entry has seen all that was published
pub all_seen : (table : TableView) (views : List (List Entry)) (seat : ℕ) (seen : List Entry) (rule : IsPublished table views)
    → get_elem? views seat ≡ some seen → table.last ≡ last_of seen → rule.0 ≡ seen
all_seen table views seat seen rule at ends = same_end rule.0 seen rule.1 (rule.3 seat seen at) (sym ends ∙ rule.2.last)

-- the writer has seen all that was published, as its last entry shows; so the next entry comes after that
pub adds : (seat : ℕ) (seen : List Entry) (table next : TableView) (u : UpdateView)
    → table.last ≡ last_of seen → next ≡ updated table u → MayComeNext seen u.entry → AreFitting (changed table.shelf (change_of u.entry.event) u.revision) u.pieces
    → TurnsAt IsPublished seat seen table next Adds
adds seat seen table next u ends is may fits views h at =
    let e = u.entry in
    let whole : h.0 ≡ seen = all_seen table views seat seen h at ends in
    let may' : MayComeNext h.0 e = subst (λ (l : List Entry). MayComeNext l e) (sym whole) may in (
      seen ++ e ∷ [],
      (
        h.0 ++ e ∷ [],
        legal_snoc h.0 e h.1 may',
        subst (λ (t : TableView). IsTableOf t (h.0 ++ e ∷ [])) (sym is) (table_snoc table h.0 u h.2 may' fits),
        λ j other there. ⊎_elim
            (λ (t : (j ≡ seat) × (seen ++ e ∷ [] ≡ other)). ([], ap (λ l. l ++ e ∷ []) whole ∙ t.1 ∙ sym (append-nil other)))
            (λ (t : (j ≢ seat) × (get_elem? views j ≡ some other)). starts_more h.0 other (e ∷ []) (h.3 j other t.1))
            (at_set views seat j (seen ++ e ∷ []) other there),
      ),
      (e, ap (λ (t : TableView). t.last) is, refl),
    )

-- publishing what is due keeps the rule
pub due_adds : (seat : ℕ) (seen : List Entry) (table next : TableView) (us : List UpdateView)
    → table.last ≡ last_of seen → next ≡ fold updated table us → IsDue seen table us → TurnsAt IsPublished seat seen table next Adds
due_adds seat seen table next [] ends is due = absurd due
due_adds seat seen table next (u ∷ []) ends is due = adds seat seen table next u ends is due.0 due.1
due_adds seat seen table next (u ∷ v ∷ more) ends is due = absurd due

-- and then the writer has seen what it had, and what was due
pub due_seen : (seen : List Entry) (table next : TableView) (us : List UpdateView) (now : List Entry)
    → IsDue seen table us → next ≡ fold updated table us → Adds seen table next now → (now ≡ seen ++ entries_of us) × (next.last ≡ last_of now)
due_seen seen table next [] now due is added = absurd due
due_seen seen table next (u ∷ []) now due is added =
    let same : added.0 ≡ u.entry = (let e : Some added.0 ≡ Some u.entry = sym added.1 ∙ ap (λ (t : TableView). t.last) is in cc) in
    (added.2 ∙ ap (λ x. seen ++ x ∷ []) same, added.1 ∙ sym (last_of-snoc seen added.0) ∙ ap last_of (sym added.2))
due_seen seen table next (u ∷ v ∷ more) now due is added = absurd due

due_along : (seen seen' : List Entry) (table table' : TableView) (us us' : List UpdateView) → seen' ≡ seen → table' ≡ table → us' ≡ us → IsDue seen table us → IsDue seen' table' us'
due_along seen seen' table table' us us' a b c due = subst (λ (p : List Entry × TableView × List UpdateView). IsDue p.0 p.1 p.2) (λ i. (sym a i, sym b i, sym c i)) due

-- both hold for a writer that is still as it was
pub due_again : (seat : ℕ) (seen seen' : List Entry) (table table' next : TableView) (us us' : List UpdateView)
    → seen' ≡ seen → table' ≡ table → us' ≡ us → table.last ≡ last_of seen → IsDue seen table us
    → next ≡ fold updated table' us' → TurnsAt IsPublished seat seen' table' next Adds
due_again seat seen seen' table table' next us us' a b c ends due is =
    due_adds seat seen' table' next us' (ap (λ (t : TableView). t.last) b ∙ ends ∙ ap last_of (sym a)) is (due_along seen seen' table table' us us' a b c due)

pub seen_again : (seen seen' : List Entry) (table table' next : TableView) (us us' : List UpdateView) (now : List Entry)
    → seen' ≡ seen → table' ≡ table → us' ≡ us → IsDue seen table us → next ≡ fold updated table' us' → Adds seen' table' next now
    → (now ≡ seen ++ entries_of us) × (next.last ≡ last_of now)
seen_again seen seen' table table' next us us' now a b c due is added =
    let d = due_seen seen' table' next us' now (due_along seen seen' table table' us us' a b c due) is added in
    (d.0 ∙ ap (λ (p : List Entry × List UpdateView). p.0 ++ entries_of p.1) (λ i. (a i, c i)), d.1)

-- and then the table shows what it did, with what was due
pub fold_again : (table table' next : TableView) (us us' : List UpdateView) → table' ≡ table → us' ≡ us → next ≡ fold updated table' us' → next ≡ fold updated table us
fold_again table table' next us us' b c is = is ∙ ap (λ (p : TableView × List UpdateView). fold updated p.0 p.1) (λ i. (b i, c i))

pub on_ok : {X E : Type 0} (r : Result X E) (P Q : Type 0) → is_ok r ≡ true → MatchResult r (λ _. P) (λ _. Q) → P
on_ok (Ok x) P Q is m = m
on_ok (Err e) P Q is m = absurd (true≢false (sym is))

pub on_err : {X E : Type 0} (r : Result X E) (P Q : Type 0) → is_ok r ≡ false → MatchResult r (λ _. P) (λ _. Q) → Q
on_err (Ok x) P Q is m = absurd (true≢false is)
on_err (Err e) P Q is m = m
