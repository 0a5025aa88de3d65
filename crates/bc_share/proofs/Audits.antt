-- A session's own list, compared with the entries that a loop has seen.
use Rattle.std.proofs.Common.{◌≡◌, ◌≢◌, ℕ, suc, ◌+◌, ◌<◌, ◌≤◌, ◌==◌, Bool, cond, false, true≢false, eq-eqb, ne_eqb, List, [], ◌∷◌, ◌++◌, length, take, drop, get_or, append_assoc, sym, ap, ◌∙◌}
use Rattle.std.specs.Prelude.{map, filter}
use Rattle.std.specs.Bool.{Decides}
use Rattle.std.proofs.Math.Seq.{split_at}
use Rattle.std.proofs.lemmas.Bool.Decides.{Decides-like, Decides-eqb, Decides-at}
use Rattle.std.proofs.lemmas.List.{append-nil, append_cancel_left, nil_from_length, take_more, take_all}
use Rattle.bc_calls.specs.declared.call.Event.{Event}
use Rattle.bc_calls.specs.declared.call.Entry.{Entry}
use Rattle.bc_calls.specs.Calls.{calls}
use Rattle.bc_calls.proofs.Beginnings.{calls-append}

one_call : (number : ℕ) (e : Entry) (rest : List Entry) → e.session ≡ number → calls number (e ∷ rest) ≡ e.event ∷ calls number rest
one_call number e rest mine = ap (λ (b : Bool). map (λ (x : Entry). x.event) (cond b (e ∷ filter (λ (x : Entry). x.session == number) rest) (filter (λ (x : Entry). x.session == number) rest))) (eq-eqb e.session number mine)

no_call : (number : ℕ) (e : Entry) → e.session ≢ number → calls number (e ∷ []) ≡ []
no_call number e other = ap (λ (b : Bool). map (λ (x : Entry). x.event) (cond b (e ∷ []) [])) (ne_eqb e.session number other)

-- one more entry e of the history, which is the session's or not
pub own_more : (own rest tail : List Event) (number : ℕ) (entries : List Entry) (i : ℕ) (e : Entry)
    → own ≡ calls number (take i entries) ++ rest → i < length entries → e ≡ get_or entries i e → e.session ≡ number → rest ≡ e.event ∷ tail
    → own ≡ calls number (take (i + 1) entries) ++ tail
own_more own rest tail number entries i e is small there mine starts =
    is ∙ ap (λ l. calls number (take i entries) ++ l) starts ∙ sym (append_assoc (calls number (take i entries)) (e.event ∷ []) tail)
    ∙ ap (λ l. l ++ tail) (ap (λ l. calls number (take i entries) ++ l) (sym (one_call number e [] mine)) ∙ sym (calls-append number (take i entries) (e ∷ [])) ∙ ap (λ x. calls number (take i entries ++ x ∷ [])) there ∙ ap (calls number) (sym (take_more entries i e small)))

pub own_other : (own rest : List Event) (number : ℕ) (entries : List Entry) (i : ℕ) (e : Entry)
    → own ≡ calls number (take i entries) ++ rest → i < length entries → e ≡ get_or entries i e → e.session ≢ number
    → own ≡ calls number (take (i + 1) entries) ++ rest
own_other own rest number entries i e is small there other =
    is ∙ ap (λ l. l ++ rest) (sym (append-nil (calls number (take i entries))) ∙ ap (λ l. calls number (take i entries) ++ l) (sym (no_call number e other)) ∙ sym (calls-append number (take i entries) (e ∷ [])) ∙ ap (λ x. calls number (take i entries ++ x ∷ [])) there ∙ ap (calls number) (sym (take_more entries i e small)))

-- the session's next entry is not the next one of its own list
pub own_apart : (own rest : List Event) (number : ℕ) (entries : List Entry) (i : ℕ) (e : Entry)
    → own ≡ calls number (take i entries) ++ rest → i < length entries → e ≡ get_or entries i e → e.session ≡ number
    → ((tail : List Event) → rest ≢ e.event ∷ tail) → Decides false (own ≡ calls number entries)
own_apart own rest number entries i e is small there mine never =
    let later = drop (suc i) entries in (
      (λ no'. absurd (true≢false (sym no'))),
      λ all.
          let whole : calls number entries ≡ calls number (take i entries) ++ (e.event ∷ calls number later) =
          ap (calls number) (split_at entries i e small ∙ ap (λ x. take i entries ++ x ∷ later) (sym there)) ∙ calls-append number (take i entries) (e ∷ later) ∙ ap (λ l. calls number (take i entries) ++ l) (one_call number e later mine) in
          absurd (never (calls number later) (append_cancel_left (calls number (take i entries)) rest (e.event ∷ calls number later) (sym is ∙ all ∙ whole))),
    )

-- after the last entry
pub own_all : (own rest : List Event) (number : ℕ) (entries : List Entry) (i : ℕ) (r : Bool)
    → own ≡ calls number (take i entries) ++ rest → length entries ≤ i → r ≡ (length rest == 0) → Decides r (own ≡ calls number entries)
own_all own rest number entries i r is done result =
    let seen : calls number (take i entries) ≡ calls number entries = ap (calls number) (take_all i entries done) in
    Decides-like r
    (λ none. is ∙ ap (λ l. calls number (take i entries) ++ l) (nil_from_length rest none) ∙ append-nil (calls number (take i entries)) ∙ seen)
    (λ all. ap length (append_cancel_left (calls number (take i entries)) rest [] (sym is ∙ all ∙ sym seen ∙ sym (append-nil (calls number (take i entries))))))
    (Decides-at r (length rest == 0) result (Decides-eqb (length rest) 0))
