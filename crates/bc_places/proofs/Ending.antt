-- The tokens of a text come to an end.
use Rattle.std.proofs.Common.{◌≡◌, ℕ, zero, suc, ◌+◌, ◌-◌, ◌<◌, Bool, true, false, List, [], ◌∷◌, length, refl, sym, subst, inl, inr, arith}
use Rattle.std.specs.Prelude.{◌⊎◌}
use Rattle.std.proofs.lemmas.Bool.{cases_Bool}
use Rattle.bc_tokens.specs.Token.{Tokens, tokens, lexeme, is_blank}
use Rattle.bc_tokens.specs.Parser.{first, after, is_end}
use Rattle.bc_tokens.proofs.Cuts.{blank_goes, token_begins}
use Rattle.bc_places.specs.Walk.{opens_points, note, noted}

-- some token is the end
abbrev pub Ends : Tokens → Type 0
Ends [] = ⊥
Ends (t ∷ ts) = (is_end t.token ≡ true) ⊎ Ends ts

pub ends : (inside at : ℕ) (bytes : List ℕ) → Ends (tokens inside at bytes)
unfolding tokens
ends zero at [] = inl refl
ends (suc inside) at [] = inl refl
ends (suc inside) at (b ∷ bytes) = ends inside (at + 1) bytes
ends zero at (b ∷ bytes) =
    let n = (lexeme (b ∷ bytes)).1 - 1 in
    elim (cases_Bool (is_blank b)) [
      | inl white ↦ subst Ends (sym (blank_goes at b bytes white)) (ends 0 (at + 1) bytes)
      | inr ink ↦ subst Ends (sym (token_begins at b bytes ink)) (inr (ends n (at + 1) bytes))
    ]

pub goes_on : (ts : Tokens) → Ends ts → is_end (first ts).token ≡ false → Ends (after ts)
goes_on [] e more = e
goes_on (t ∷ ts) (inl here) more = absurd cc
goes_on (t ∷ ts) (inr later) more = later

pub gets_shorter : (ts : Tokens) → Ends ts → length (after ts) < length ts
gets_shorter [] e = absurd e
gets_shorter (t ∷ ts) e = omega arith

pub one_turn : (opened : Bool) (found : List ℕ) (ts : Tokens) → Ends ts → is_end (first ts).token ≡ false → noted opened found ts ≡ noted (opens_points (first ts).token) (note opened (first ts) found) (after ts)
one_turn opened found [] e more = absurd e
one_turn opened found (t ∷ ts) e more = rw more refl

pub last_turn : (opened : Bool) (found : List ℕ) (ts : Tokens) → is_end (first ts).token ≡ true → noted opened found ts ≡ found
last_turn opened found [] stop = refl
last_turn opened found (t ∷ ts) stop = rw stop refl
