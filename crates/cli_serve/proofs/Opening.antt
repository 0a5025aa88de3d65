-- Sessions of a new database are new.
use Rattle.std.proofs.Common.{◌≡◌, ℕ, zero, suc, [], ◌∷◌, length, length-append, refl, ◌∙◌, arith}
use Rattle.std.specs.Prelude.{All}
use Rattle.std.proofs.lemmas.List.Elements.{All-nil, All-push}
use Rattle.bc_share.specs.Sessions.{SessionView, new_session, new_sessions}

-- the session is new
abbrev pub IsNew : SessionView → Type 0
IsNew s = s ≡ new_session 0 s.number

pub are_new : (n : ℕ) → All IsNew (new_sessions 0 n)
are_new zero = All-nil IsNew
are_new (suc n) = All-push IsNew (new_sessions 0 n) (new_session 0 n) (are_new n) refl

pub length-new : (n : ℕ) → length (new_sessions 0 n) ≡ n
length-new zero = refl
length-new (suc n) = length-append (new_sessions 0 n) (new_session 0 n ∷ []) ∙ (let few = length-new n in omega (arith, few))
