-- Texts that agree up to and including the byte after a token both have that token and those before it.
use Rattle.std.proofs.Common.{◌≡◌, ℕ, zero, suc, ◌+◌, ◌-◌, ◌<◌, ◌≤◌, Bool, true, false, cond, List, [], ◌∷◌, ◌++◌, length, take, drop, refl, sym, ap, ◌∙◌, subst, inl, inr, arith}
use Rattle.std.specs.Prelude.{◌⊎◌, slice_index, nat_le, ◌&&◌, ◌==◌}
use Rattle.std.proofs.lemmas.Bool.{cases_Bool}
use Rattle.std.proofs.lemmas.List.Sums.{take_while-cons}
use Rattle.bc_syntax.specs.declared.symbol.Symbol.TheVariants.{Arrow}
use Rattle.bc_syntax.specs.Bytes.{is_run_byte, run}
use Rattle.bc_syntax.specs.Symbol.{sign_of}
use Rattle.bc_syntax.specs.Token.{Token, Fixed, NotAscii, End}
use Rattle.bc_tokens.specs.Token.{Placed, placed, Tokens, is_blank, run_token, region_token, variable_token, sign_token, lexeme, tokens}
use Rattle.bc_text_laws.specs.Laws.{reach}
use Rattle.bc_tokens.proofs.Cuts.{blank_goes, token_begins}

-- ---- agreement

-- the first bytes are the same
abbrev pub Agree : ℕ → List ℕ → List ℕ → Type 0
Agree zero bytes other = Unit {0}
Agree (suc n) [] [] = Unit {0}
Agree (suc n) [] (c ∷ other) = ⊥
Agree (suc n) (b ∷ bytes) [] = ⊥
Agree (suc n) (b ∷ bytes) (c ∷ other) = (b ≡ c) × Agree n bytes other

pub agree_from_take : (n : ℕ) (bytes other : List ℕ) → take n other ≡ take n bytes → Agree n bytes other
agree_from_take zero bytes other e = tt
agree_from_take (suc n) [] [] e = tt
agree_from_take (suc n) [] (c ∷ other) e = absurd cc
agree_from_take (suc n) (b ∷ bytes) [] e = absurd cc
agree_from_take (suc n) (b ∷ bytes) (c ∷ other) e = let head : b ≡ c = cc in let tail : take n other ≡ take n bytes = cc in (head, agree_from_take n bytes other tail)

fewer : (m n : ℕ) (bytes other : List ℕ) → m ≤ n → Agree n bytes other → Agree m bytes other
fewer zero n bytes other le a = tt
fewer (suc m) zero bytes other le a = absurd (omega arith)
fewer (suc m) (suc n) [] [] le a = tt
fewer (suc m) (suc n) [] (c ∷ other) le a = absurd a
fewer (suc m) (suc n) (b ∷ bytes) [] le a = absurd a
fewer (suc m) (suc n) (b ∷ bytes) (c ∷ other) le a = let less : m ≤ n = omega arith in (a.0, fewer m n bytes other less a.1)

all_of_them : (n : ℕ) (bytes other : List ℕ) → length bytes < n → Agree n bytes other → other ≡ bytes
all_of_them zero bytes other more a = absurd (omega arith)
all_of_them (suc n) [] [] more a = refl
all_of_them (suc n) [] (c ∷ other) more a = absurd a
all_of_them (suc n) (b ∷ bytes) [] more a = absurd a
all_of_them (suc n) (b ∷ bytes) (c ∷ other) more a =
    let less : length bytes < n = omega arith in
    ap (λ k. k ∷ other) (sym a.0) ∙ ap (λ (l : List ℕ). b ∷ l) (all_of_them n bytes other less a.1)

nothing_agrees : (n : ℕ) → Agree n [] []
nothing_agrees zero = tt
nothing_agrees (suc n) = tt

behind : (k n m : ℕ) (bytes other : List ℕ) → m ≡ k + n → Agree m bytes other → Agree n (drop k bytes) (drop k other)
behind zero n m bytes other e a = let one : m ≡ n = omega arith in subst (λ k. Agree k bytes other) one a
behind (suc k) n zero bytes other e a = absurd (omega arith)
behind (suc k) n (suc m) [] [] e a = nothing_agrees n
behind (suc k) n (suc m) [] (c ∷ other) e a = absurd a
behind (suc k) n (suc m) (b ∷ bytes) [] e a = absurd a
behind (suc k) n (suc m) (b ∷ bytes) (c ∷ other) e a = let one : m ≡ k + n = omega arith in behind k n m bytes other one a.1

-- the other text begins with the same byte
next : (n m b : ℕ) (bytes other : List ℕ) → m ≡ suc n → Agree m (b ∷ bytes) other → (rest : List ℕ) × (other ≡ b ∷ rest) × Agree n bytes rest
next n zero b bytes other e a = absurd (omega arith)
next n (suc m) b bytes [] e a = absurd a
next n (suc m) b bytes (c ∷ other) e a = let one : m ≡ n = omega arith in (other, ap (λ k. k ∷ other) (sym a.0), subst (λ k. Agree k bytes other) one a.1)

-- ---- tokens at the front

run_agrees : (bytes other : List ℕ) → Agree (suc (length (run bytes))) bytes other → run other ≡ run bytes
run_agrees [] [] a = refl
run_agrees [] (c ∷ other) a = absurd a
run_agrees (b ∷ bytes) [] a = absurd a
run_agrees (b ∷ bytes) (c ∷ other) a =
    elim (cases_Bool (is_run_byte b)) [
      | inl goes ↦
          let one : run (b ∷ bytes) ≡ b ∷ run bytes = take_while-cons is_run_byte b bytes ∙ ap (λ t. cond t (b ∷ run bytes) []) goes in
          let two : run (b ∷ other) ≡ b ∷ run other = take_while-cons is_run_byte b other ∙ ap (λ t. cond t (b ∷ run other) []) goes in
          let more : Agree (suc (length (run bytes))) bytes other = subst (λ (l : List ℕ). Agree (length l) bytes other) one a.1 in
          ap (λ k. run (k ∷ other)) (sym a.0) ∙ two ∙ ap (λ (l : List ℕ). b ∷ l) (run_agrees bytes other more) ∙ sym one
      | inr stops ↦
          let one : run (b ∷ bytes) ≡ [] = take_while-cons is_run_byte b bytes ∙ ap (λ t. cond t (b ∷ run bytes) []) stops in
          let two : run (b ∷ other) ≡ [] = take_while-cons is_run_byte b other ∙ ap (λ t. cond t (b ∷ run other) []) stops in
          ap (λ k. run (k ∷ other)) (sym a.0) ∙ two ∙ sym one
    ]

firsts : (bytes other : List ℕ) → Agree 2 bytes other → (slice_index other 0 ≡ slice_index bytes 0) × (slice_index other 1 ≡ slice_index bytes 1)
firsts [] [] a = (refl, refl)
firsts [] (c ∷ other) a = absurd a
firsts (b ∷ bytes) [] a = absurd a
firsts (b ∷ []) (c ∷ []) a = (sym a.0, refl)
firsts (b ∷ []) (c ∷ d ∷ other) a = absurd a.1
firsts (b ∷ x ∷ bytes) (c ∷ []) a = absurd a.1
firsts (b ∷ x ∷ bytes) (c ∷ d ∷ other) a = (sym a.0, sym a.1.0)

abbrev Lexeme : Type 0
Lexeme = Token × ℕ

abbrev ran : List ℕ → Lexeme
ran r = (run_token r, length r)

abbrev variable : List ℕ → Lexeme
variable r = (variable_token r, 2 + length r)

abbrev named : List ℕ → Lexeme
named r = (region_token r, 1 + length r)

abbrev signed : ℕ → ℕ → Lexeme
signed a b = cond (a == 45 && b == 62) (Fixed Arrow, 2) (cond (nat_le 128 a) (NotAscii, 1) (sign_token (sign_of a), 1))

abbrev pick : Bool → Bool → Bool → Lexeme → Lexeme → Lexeme → Lexeme → Lexeme
pick p q r x y z w = cond p x (cond q y (cond r z w))

-- the token at the front, by the first two bytes and the runs
abbrev picked : ℕ → ℕ → List ℕ → List ℕ → List ℕ → Lexeme
picked a b r0 r1 r2 = pick (is_run_byte a) (a == 39 && b == 63) (a == 39) (ran r0) (variable r2) (named r1) (signed a b)

lexeme_is : (bytes : List ℕ) → lexeme bytes ≡ picked (slice_index bytes 0) (slice_index bytes 1) (run bytes) (run (drop 1 bytes)) (run (drop 2 bytes))
unfolding lexeme
lexeme_is bytes = refl

pick_same : (p q r : Bool) (x y z x2 y2 z2 w : Lexeme) → (pick p q r x y z w ≡ x → x2 ≡ x) → (pick p q r x y z w ≡ y → y2 ≡ y) → (pick p q r x y z w ≡ z → z2 ≡ z) → pick p q r x2 y2 z2 w ≡ pick p q r x y z w
pick_same true q r x y z x2 y2 z2 w one two three = one refl
pick_same false true r x y z x2 y2 z2 w one two three = two refl
pick_same false false true x y z x2 y2 z2 w one two three = three refl
pick_same false false false x y z x2 y2 z2 w one two three = refl

-- a token has a byte
abbrev HasByte : Lexeme → Type 0
HasByte l = 1 ≤ l.1

cond_has : (p : Bool) (x y : Lexeme) → (p ≡ true → HasByte x) → HasByte y → HasByte (cond p x y)
cond_has true x y one two = one refl
cond_has false x y one two = two

run_has : (bytes : List ℕ) → is_run_byte (slice_index bytes 0) ≡ true → 1 ≤ length (run bytes)
run_has [] h = absurd cc
run_has (b ∷ bytes) h = let one : run (b ∷ bytes) ≡ b ∷ run bytes = take_while-cons is_run_byte b bytes ∙ ap (λ t. cond t (b ∷ run bytes) []) h in omega (arith, ap length one)

lexeme_has : (bytes : List ℕ) → HasByte (lexeme bytes)
lexeme_has bytes =
    let a = slice_index bytes 0 in
    let b = slice_index bytes 1 in
    let r1 = run (drop 1 bytes) in
    let r2 = run (drop 2 bytes) in
    let foreign = cond_has (nat_le 128 a) (NotAscii, 1) (sign_token (sign_of a), 1) (λ _. omega arith) (omega arith) in
    let sign = cond_has (a == 45 && b == 62) (Fixed Arrow, 2) _ (λ _. omega arith) foreign in
    let name = cond_has (a == 39) (named r1) (signed a b) (λ _. omega arith) sign in
    let second = cond_has (a == 39 && b == 63) (variable r2) _ (λ _. omega arith) name in
    subst HasByte (sym (lexeme_is bytes)) (cond_has (is_run_byte a) (ran (run bytes)) _ (run_has bytes) second)

-- the token at the front depends on its bytes and the one after it
lexeme_agrees : (bytes other : List ℕ) → Agree ((lexeme bytes).1 + 1) bytes other → lexeme other ≡ lexeme bytes
lexeme_agrees bytes other agree =
    let some : 2 ≤ (lexeme bytes).1 + 1 = omega (arith, lexeme_has bytes) in
    let two = firsts bytes other (fewer 2 ((lexeme bytes).1 + 1) bytes other some agree) in
    let a = slice_index bytes 0 in
    let b = slice_index bytes 1 in
    let r0 = run bytes in
    let r1 = run (drop 1 bytes) in
    let r2 = run (drop 2 bytes) in
    let is = lexeme_is bytes in
    let at_most : (n : ℕ) → (lexeme bytes).1 ≡ n → Agree (n + 1) bytes other = λ n e. subst (λ k. Agree (k + 1) bytes other) e agree in
    let in_run : picked a b r0 r1 r2 ≡ ran r0 → ran (run other) ≡ ran r0 = λ e.
    ap ran (run_agrees bytes other (behind 0 (suc (length r0)) (length r0 + 1) bytes other (omega arith) (at_most (length r0) (ap (λ (l : Lexeme). l.1) (is ∙ e))))) in
    let in_variable : picked a b r0 r1 r2 ≡ variable r2 → variable (run (drop 2 other)) ≡ variable r2 = λ e.
    ap variable (run_agrees (drop 2 bytes) (drop 2 other) (behind 2 (suc (length r2)) (2 + length r2 + 1) bytes other (omega arith) (at_most (2 + length r2) (ap (λ (l : Lexeme). l.1) (is ∙ e))))) in
    let in_name : picked a b r0 r1 r2 ≡ named r1 → named (run (drop 1 other)) ≡ named r1 = λ e.
    ap named (run_agrees (drop 1 bytes) (drop 1 other) (behind 1 (suc (length r1)) (1 + length r1 + 1) bytes other (omega arith) (at_most (1 + length r1) (ap (λ (l : Lexeme). l.1) (is ∙ e))))) in
    lexeme_is other
    ∙ ap (λ k. picked k (slice_index other 1) (run other) (run (drop 1 other)) (run (drop 2 other))) two.0
    ∙ ap (λ k. picked a k (run other) (run (drop 1 other)) (run (drop 2 other))) two.1
    ∙ pick_same (is_run_byte a) (a == 39 && b == 63) (a == 39) (ran r0) (variable r2) (named r1) (ran (run other)) (variable (run (drop 2 other))) (named (run (drop 1 other))) (signed a b) in_run in_variable in_name
    ∙ sym is

-- ---- tokens of texts

none_left : (read : Tokens) (t : Placed) (back : Tokens) → [] ≡ read ++ t ∷ back → ⊥
none_left [] t back e = absurd cc
none_left (r ∷ read) t back e = absurd cc

-- the token begins after the rest of the one before, or at the end
abbrev IsAhead : (inside at : ℕ) → List ℕ → Placed → Type 0
IsAhead inside at bytes t = (at + inside ≤ t.at) ⊎ (t.at ≡ at + length bytes)

end_ahead : (inside at : ℕ) (read : Tokens) (t : Placed) (back : Tokens) → placed End at ∷ [] ≡ read ++ t ∷ back → IsAhead inside at [] t
end_ahead inside at [] t back e = let one : placed End at ≡ t = cc in let place : at ≡ t.at = ap (λ (u : Placed). u.at) one in inr (omega (arith, place))
end_ahead inside at (r ∷ read) t back e = let rest : [] ≡ read ++ t ∷ back = cc in absurd (none_left read t back rest)

one_further : (inside at b : ℕ) (bytes : List ℕ) (t : Placed) (start : ℕ) → start ≤ suc inside → IsAhead inside (at + 1) bytes t → IsAhead start at (b ∷ bytes) t
one_further inside at b bytes t start le (inl h) = inl (omega (arith, h, le))
one_further inside at b bytes t start le (inr h) = inr (omega (arith, h))

begun : (at b : ℕ) (bytes : List ℕ) (read : Tokens) (t : Placed) (back : Tokens)
    → ((more : Tokens) → tokens ((lexeme (b ∷ bytes)).1 - 1) (at + 1) bytes ≡ more ++ t ∷ back → IsAhead ((lexeme (b ∷ bytes)).1 - 1) (at + 1) bytes t)
    → placed (lexeme (b ∷ bytes)).0 at ∷ tokens ((lexeme (b ∷ bytes)).1 - 1) (at + 1) bytes ≡ read ++ t ∷ back → IsAhead 0 at (b ∷ bytes) t
begun at b bytes [] t back again e = let one : placed (lexeme (b ∷ bytes)).0 at ≡ t = cc in let place : at ≡ t.at = ap (λ (u : Placed). u.at) one in inl (omega (arith, place))
begun at b bytes (r ∷ read) t back again e =
    let rest : tokens ((lexeme (b ∷ bytes)).1 - 1) (at + 1) bytes ≡ read ++ t ∷ back = cc in
    one_further ((lexeme (b ∷ bytes)).1 - 1) at b bytes t 0 (omega arith) (again read rest)

ahead : (inside at : ℕ) (bytes : List ℕ) (read : Tokens) (t : Placed) (back : Tokens) → tokens inside at bytes ≡ read ++ t ∷ back → IsAhead inside at bytes t
unfolding tokens
ahead zero at [] read t back e = end_ahead zero at read t back e
ahead (suc inside) at [] read t back e = end_ahead (suc inside) at read t back e
ahead (suc inside) at (b ∷ bytes) read t back e = one_further inside at b bytes t (suc inside) (omega arith) (ahead inside (at + 1) bytes read t back e)
ahead zero at (b ∷ bytes) read t back e =
    elim (cases_Bool (is_blank b)) [
      | inl white ↦ one_further 0 at b bytes t 0 (omega arith) (ahead 0 (at + 1) bytes read t back (sym (blank_goes at b bytes white) ∙ e))
      | inr ink ↦ begun at b bytes read t back (λ more h. ahead ((lexeme (b ∷ bytes)).1 - 1) (at + 1) bytes more t back h) (sym (token_begins at b bytes ink) ∙ e)
    ]

not_here : (inside at : ℕ) (bytes : List ℕ) (t : Placed) → IsAhead inside (at + 1) bytes t → t.at ≡ at + 0 → ⊥
not_here inside at bytes t (inl h) place = omega (arith, h, place)
not_here inside at bytes t (inr h) place = omega (arith, h, place)

-- the tokens of a text begin with these and this one
abbrev Seen : (inside at : ℕ) → List ℕ → Tokens → Placed → Type 0
Seen inside at other read t = (rest : Tokens) × (tokens inside at other ≡ read ++ t ∷ rest)

-- the token begins here
here : (at b : ℕ) (bytes other : List ℕ) (read : Tokens) (t : Placed) (back : Tokens) → is_blank b ≡ false
    → placed (lexeme (b ∷ bytes)).0 at ∷ tokens ((lexeme (b ∷ bytes)).1 - 1) (at + 1) bytes ≡ read ++ t ∷ back → t.at ≡ at + 0 → Agree (reach (b ∷ bytes) 0) (b ∷ bytes) other → Seen 0 at other read t
here at b bytes other [] t back ink e place a =
    let head : placed (lexeme (b ∷ bytes)).0 at ≡ t = cc in
    let size = (lexeme (b ∷ bytes)).1 in
    let n = next (0 + size) (reach (b ∷ bytes) 0) b bytes other (omega arith) a in
    let all : Agree (size + 1) (b ∷ bytes) other = fewer (size + 1) (reach (b ∷ bytes) 0) (b ∷ bytes) other (omega arith) a in
    let one : lexeme (b ∷ n.0) ≡ lexeme (b ∷ bytes) = ap lexeme (sym n.1) ∙ lexeme_agrees (b ∷ bytes) other all in
    let later = tokens ((lexeme (b ∷ n.0)).1 - 1) (at + 1) n.0 in
    (later, ap (tokens 0 at) n.1 ∙ token_begins at b n.0 ink ∙ ap (λ (u : Placed). u ∷ later) (ap (λ (x : Lexeme). placed x.0 at) one ∙ head))
here at b bytes other (r ∷ read) t back ink e place a =
    let rest : tokens ((lexeme (b ∷ bytes)).1 - 1) (at + 1) bytes ≡ read ++ t ∷ back = cc in
    absurd (not_here ((lexeme (b ∷ bytes)).1 - 1) at bytes t (ahead ((lexeme (b ∷ bytes)).1 - 1) (at + 1) bytes read t back rest) place)

-- the token begins after the one that begins here
further : (at k b : ℕ) (bytes other : List ℕ) (read : Tokens) (t : Placed) (back : Tokens) → is_blank b ≡ false
    → placed (lexeme (b ∷ bytes)).0 at ∷ tokens ((lexeme (b ∷ bytes)).1 - 1) (at + 1) bytes ≡ read ++ t ∷ back → t.at ≡ at + suc k → Agree (reach (b ∷ bytes) (suc k)) (b ∷ bytes) other
    → ((rest : List ℕ) (more : Tokens) → tokens ((lexeme (b ∷ bytes)).1 - 1) (at + 1) bytes ≡ more ++ t ∷ back → Agree (reach bytes k) bytes rest → Seen ((lexeme (b ∷ bytes)).1 - 1) (at + 1) rest more t)
    → Seen 0 at other read t
further at k b bytes other [] t back ink e place a again =
    let head : placed (lexeme (b ∷ bytes)).0 at ≡ t = cc in
    let at_is : at ≡ t.at = ap (λ (u : Placed). u.at) head in
    absurd (omega (arith, at_is, place))
further at k b bytes other (r ∷ read) t back ink e place a again =
    let size = (lexeme (b ∷ bytes)).1 in
    let head : placed (lexeme (b ∷ bytes)).0 at ≡ r = cc in
    let rest_is : tokens (size - 1) (at + 1) bytes ≡ read ++ t ∷ back = cc in
    elim (ahead (size - 1) (at + 1) bytes read t back rest_is) [
      | inl h ↦
          let n = next (reach bytes k) (reach (b ∷ bytes) (suc k)) b bytes other (omega arith) a in
          let all : Agree (size + 1) (b ∷ bytes) other = fewer (size + 1) (reach (b ∷ bytes) (suc k)) (b ∷ bytes) other (omega (arith, h, place)) a in
          let one : lexeme (b ∷ n.0) ≡ lexeme (b ∷ bytes) = ap lexeme (sym n.1) ∙ lexeme_agrees (b ∷ bytes) other all in
          let m = again n.0 read rest_is n.2 in (
            m.0,
            ap (tokens 0 at) n.1
                ∙ token_begins at b n.0 ink
                ∙ ap (λ (x : Lexeme). placed x.0 at ∷ tokens (x.1 - 1) (at + 1) n.0) one
                ∙ ap (λ (ts : Tokens). placed (lexeme (b ∷ bytes)).0 at ∷ ts) m.1
                ∙ ap (λ (u : Placed). u ∷ (read ++ t ∷ m.0)) head,
          )
      | inr h ↦
          let whole : other ≡ b ∷ bytes = all_of_them (reach (b ∷ bytes) (suc k)) (b ∷ bytes) other (omega (arith, h, place)) a in
          (back, ap (tokens 0 at) whole ∙ token_begins at b bytes ink ∙ e)
    ]

no_bytes : (inside at k : ℕ) (other : List ℕ) (read : Tokens) (t : Placed) (back : Tokens) → tokens inside at [] ≡ read ++ t ∷ back → Agree (reach [] k) [] other → Seen inside at other read t
no_bytes inside at k other read t back e a =
    let none : other ≡ [] = all_of_them (reach [] k) [] other (omega arith) a in
    (back, ap (tokens inside at) none ∙ e)

-- If texts agree up to and including the byte after a token, both have that token and those before it.
pub tokens_agree : (inside at k : ℕ) (bytes other : List ℕ) (read : Tokens) (t : Placed) (back : Tokens) → tokens inside at bytes ≡ read ++ t ∷ back → t.at ≡ at + k → Agree (reach bytes k) bytes other → Seen inside at other read t
unfolding tokens
tokens_agree zero at k [] other read t back e place a = no_bytes zero at k other read t back e a
tokens_agree (suc inside) at k [] other read t back e place a = no_bytes (suc inside) at k other read t back e a
tokens_agree (suc inside) at zero (b ∷ bytes) other read t back e place a = absurd (not_here inside at bytes t (ahead inside (at + 1) bytes read t back e) place)
tokens_agree (suc inside) at (suc k) (b ∷ bytes) other read t back e place a =
    let n = next (reach bytes k) (reach (b ∷ bytes) (suc k)) b bytes other (omega arith) a in
    let m = tokens_agree inside (at + 1) k bytes n.0 read t back e (omega (arith, place)) n.2 in
    (m.0, ap (tokens (suc inside) at) n.1 ∙ m.1)
tokens_agree zero at zero (b ∷ bytes) other read t back e place a =
    elim (cases_Bool (is_blank b)) [
      | inl white ↦ absurd (not_here 0 at bytes t (ahead 0 (at + 1) bytes read t back (sym (blank_goes at b bytes white) ∙ e)) place)
      | inr ink ↦ here at b bytes other read t back ink (sym (token_begins at b bytes ink) ∙ e) place a
    ]
tokens_agree zero at (suc k) (b ∷ bytes) other read t back e place a =
    let place2 : t.at ≡ (at + 1) + k = omega (arith, place) in
    elim (cases_Bool (is_blank b)) [
      | inl white ↦
          let n = next (reach bytes k) (reach (b ∷ bytes) (suc k)) b bytes other (omega arith) a in
          let m = tokens_agree 0 (at + 1) k bytes n.0 read t back (sym (blank_goes at b bytes white) ∙ e) place2 n.2 in
          (m.0, ap (tokens 0 at) n.1 ∙ blank_goes at b n.0 white ∙ m.1)
      | inr ink ↦
          further at k b bytes other read t back ink (sym (token_begins at b bytes ink) ∙ e) place a
          (λ rest more h. tokens_agree ((lexeme (b ∷ bytes)).1 - 1) (at + 1) k bytes rest more t back h place2)
    ]
