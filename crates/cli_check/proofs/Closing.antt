-- A database that is closed with its one session.
use Rattle.std.proofs.Common.{◌≡◌, ℕ, ◌<◌, List, [], ◌∷◌, ◌++◌, get_or, refl, sym, ap, ◌∙◌, subst, arith}
use Rattle.bc_share.specs.Sessions.{SessionView, new_session}
use Rattle.bc_share.specs.Closings.{AreSessionsOf}
use Rattle.cli_file.specs.Still.{IsStill}
use Rattle.cli_file.proofs.Closing.{are_sessions}
use Rattle.cli_check.proofs.Shorter.{the_last}

-- the one new session of a database, taken out of its list and put back after its calls
pub one_session : (opened left handed : List SessionView) (s t : SessionView) → opened ≡ new_session 0 0 ∷ [] → opened ≡ left ++ s ∷ [] → handed ≡ left ++ t ∷ [] → IsStill s t → AreSessionsOf 0 1 handed
one_session opened left handed s t new popped pushed still =
    let last : (left ≡ []) × (s ≡ new_session 0 0) = the_last _ _ _ (sym new ∙ popped) in
    let one : handed ≡ t ∷ [] = pushed ∙ ap (λ (ss : List SessionView). ss ++ t ∷ []) last.0 in
    let tag : t.tag ≡ 0 = still.0 ∙ ap (λ (x : SessionView). x.tag) last.1 in
    let number : t.number ≡ 0 = still.1 ∙ ap (λ (x : SessionView). x.number) last.1 in
    subst (AreSessionsOf 0 1) (sym one) (are_sessions 0 1 (t ∷ []) refl (first t tag number))
  where
    first : (t : SessionView) → t.tag ≡ 0 → t.number ≡ 0 → (k : ℕ) (d : SessionView) → k < 1 → ((get_or (t ∷ []) k d).tag ≡ 0) × ((get_or (t ∷ []) k d).number ≡ k)
    first t tag number k d below =
        let zero_is : 0 ≡ k = omega (arith, below) in
        subst (λ (n : ℕ). ((get_or (t ∷ []) n d).tag ≡ 0) × ((get_or (t ∷ []) n d).number ≡ n)) zero_is (tag, number)
