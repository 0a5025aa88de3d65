-- How many entries each session has after one more entry.
use Rattle.std.proofs.Common.{◌≡◌, ℕ, ◌+◌, ◌<◌, true, false, cond, List, [], ◌∷◌, ◌++◌, length, set, get_or, inl, inr, refl, sym, ap, ◌∙◌, subst, arith}
use Rattle.std.specs.Prelude.{◌==◌}
use Rattle.std.proofs.lemmas.Bool.{cases_eq, eq-eqb, ne_eqb}
use Rattle.std.proofs.lemmas.List.{get_or-set_same, get_or-set_other}
use Rattle.std.proofs.lemmas.List.Sums.{sum_by-append}
use Rattle.bc_calls.specs.declared.call.Entry.{Entry}
use Rattle.bc_book.specs.declared.ledger.TheConstants.{MOST_SESSIONS}
use Rattle.bc_calls.specs.Calls.{count_of}

-- how many entries of a session the last one is
abbrev last_of : ℕ → Entry → ℕ
last_of session e = cond (e.session == session) 1 0

one_more : (session : ℕ) (h : List Entry) (e : Entry) → count_of session (h ++ e ∷ []) ≡ count_of session h + last_of session e
one_more session h e =
    let split : count_of session (h ++ e ∷ []) ≡ count_of session h + (0 + last_of session e) = sum_by-append (last_of session) h (e ∷ []) in
    omega (arith, split)

own_more : (session : ℕ) (h : List Entry) (e : Entry) → (e.session == session) ≡ true → count_of session (h ++ e ∷ []) ≡ count_of session h + 1
own_more session h e own = one_more session h e ∙ ap (λ b. count_of session h + cond b 1 0) own

other_same : (session : ℕ) (h : List Entry) (e : Entry) → (e.session == session) ≡ false → count_of session (h ++ e ∷ []) ≡ count_of session h
other_same session h e other =
    let more : count_of session (h ++ e ∷ []) ≡ count_of session h + 0 = one_more session h e ∙ ap (λ b. count_of session h + cond b 1 0) other in
    omega (arith, more)

pub counts_more : (counts : List ℕ) (h : List Entry) (e : Entry) (n : ℕ) → e.session < length counts → n ≡ get_or counts e.session 0 + 1 → ((s : ℕ) → s < MOST_SESSIONS → get_or counts s 0 ≡ count_of s h) →
    (s : ℕ) → s < MOST_SESSIONS → get_or (set counts e.session n) s 0 ≡ count_of s (h ++ e ∷ [])
counts_more counts h e n within next are s below = elim (cases_eq s e.session) [
  | inl same ↦
      let own : get_or (set counts e.session n) e.session 0 ≡ count_of e.session (h ++ e ∷ []) =
      get_or-set_same counts e.session n 0 within ∙ next ∙ ap (λ k. k + 1) (are e.session (omega (arith, same, below))) ∙ sym (own_more e.session h e (eq-eqb e.session e.session refl)) in
      subst (λ k. get_or (set counts e.session n) k 0 ≡ count_of k (h ++ e ∷ [])) (sym same) own
  | inr apart ↦ get_or-set_other counts e.session s n 0 apart ∙ are s below ∙ sym (other_same s h e (ne_eqb e.session s (λ is. absurd (apart (sym is)))))
]
