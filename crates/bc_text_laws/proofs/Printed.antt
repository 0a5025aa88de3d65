-- The printed text of tokens is cut into these tokens again.
use Rattle.std.proofs.Common.{◌≡◌, ℕ, suc, ◌+◌, ◌-◌, ◌≤◌, true, List, [], ◌∷◌, ◌++◌, length, drop, map, refl, sym, ap, ◌∙◌, subst, inl, inr, arith, append_assoc}
use Rattle.std.specs.Prelude.{codes}
use Rattle.std.specs.List.{AllByRecursion}
use Rattle.std.proofs.lemmas.Bool.{cases_Bool}
use Rattle.std.proofs.lemmas.List.{length-append}
use Rattle.bc_syntax.specs.Symbol.{text, sign_of}
use Rattle.bc_syntax.specs.Token.{Token, Stray, End}
use Rattle.bc_tokens.specs.Token.{Placed, placed, Tokens, tokens, is_blank, lexeme}
use Rattle.bc_print.specs.Printing.{token_text, spaced, printed}
use Rattle.bc_tokens.proofs.Cuts.{inside, blank_goes, token_begins}
use Rattle.bc_text_laws.proofs.Lexemes.{IsWhole, blank_is, token_lexeme}

abbrev pub AllWhole : List Token → Type 0
AllWhole found = AllByRecursion IsWhole found

abbrev tokens_in : Tokens → List Token
tokens_in ts = map (λ (t : Placed). t.token) ts

-- ---- one token

blank_stray : (b : ℕ) (rest : List ℕ) → is_blank b ≡ true → (lexeme (b ∷ rest)).0 ≡ Stray
unfolding lexeme sign_of text
blank_stray b rest blank =
    elim (blank_is b blank) [
      | inl space ↦ subst (λ (c : ℕ). (lexeme (c ∷ rest)).0 ≡ Stray) (sym space) refl
      | inr line ↦ subst (λ (c : ℕ). (lexeme (c ∷ rest)).0 ≡ Stray) (sym line) refl
    ]

no_stray : (t : Token) (b : ℕ) (rest : List ℕ) (len : ℕ) → IsWhole t → is_blank b ≡ true → lexeme (b ∷ rest) ≡ (t, len) → ⊥
no_stray t b rest len whole blank cut =
    let is : t ≡ Stray = sym (ap (λ (p : Token × ℕ). p.0) cut) ∙ blank_stray b rest blank in
    subst IsWhole is whole

drop_front : (xs ys : List ℕ) → drop (length xs) (xs ++ ys) ≡ ys
drop_front [] ys = refl
drop_front (x ∷ xs) ys = drop_front xs ys

less : (k : ℕ) → suc k - 1 ≡ k
less k = omega arith

cut : (xs : List ℕ) (t : Token) (w : ℕ) (rest : List ℕ) (at : ℕ) → IsWhole t → is_blank w ≡ true → lexeme (xs ++ w ∷ rest) ≡ (t, length xs)
    → tokens 0 at (xs ++ w ∷ rest) ≡ placed t at ∷ tokens 0 ((at + 1) + (length xs - 1)) (w ∷ rest)
cut [] t w rest at whole blank is = absurd (no_stray t w rest 0 whole blank is)
cut (b ∷ xs) t w rest at whole blank is =
    elim (cases_Bool (is_blank b)) [
      | inl white ↦ absurd (no_stray t b (xs ++ w ∷ rest) (suc (length xs)) whole white is)
      | inr ink ↦
          let bytes = xs ++ w ∷ rest in
          let token_is : (lexeme (b ∷ bytes)).0 ≡ t = ap (λ (p : Token × ℕ). p.0) is in
          let len_is : (lexeme (b ∷ bytes)).1 - 1 ≡ length xs = ap (λ (p : Token × ℕ). p.1 - 1) is ∙ less (length xs) in
          let within : length xs ≤ length bytes = omega (arith, length-append xs (w ∷ rest)) in
          let rest_is : tokens ((lexeme (b ∷ bytes)).1 - 1) (at + 1) bytes ≡ tokens 0 ((at + 1) + (suc (length xs) - 1)) (w ∷ rest) =
          ap (λ k. tokens k (at + 1) bytes) len_is ∙ inside (length xs) (at + 1) bytes within ∙ ap (λ (l : List ℕ). tokens 0 ((at + 1) + length xs) l) (drop_front xs (w ∷ rest)) ∙ ap (λ k. tokens 0 ((at + 1) + k) (w ∷ rest)) (sym (less (length xs))) in
          token_begins at b bytes ink ∙ ap (λ (u : Token). placed u at ∷ tokens ((lexeme (b ∷ bytes)).1 - 1) (at + 1) bytes) token_is ∙ ap (λ (l : Tokens). placed t at ∷ l) rest_is
    ]

-- ---- all tokens

-- a blank follows each token
follows : (ts : List Token) → (w : ℕ) × (rest : List ℕ) × (spaced ts ++ codes "\n" ≡ w ∷ rest) × (is_blank w ≡ true)
unfolding spaced
follows [] = (10, [], refl, refl)
follows (t ∷ ts) = (32, (token_text t ++ spaced ts) ++ codes "\n", refl, refl)

one_and_more : (t : Token) (ts : List Token) (at : ℕ) → IsWhole t → ((next : ℕ) → tokens_in (tokens 0 next (spaced ts ++ codes "\n")) ≡ ts ++ End ∷ [])
    → tokens_in (tokens 0 at (token_text t ++ (spaced ts ++ codes "\n"))) ≡ t ∷ (ts ++ End ∷ [])
one_and_more t ts at whole others =
    let f = follows ts in
    let e = cut (token_text t) t f.0 f.1 at whole f.3 (token_lexeme t f.0 f.1 whole f.3) in
    let next = (at + 1) + (length (token_text t) - 1) in
    ap (λ (l : List ℕ). tokens_in (tokens 0 at (token_text t ++ l))) f.2
    ∙ ap tokens_in e
    ∙ ap (λ (l : List ℕ). t ∷ tokens_in (tokens 0 next l)) (sym f.2)
    ∙ ap (λ (l : List Token). t ∷ l) (others next)

nothing : (at : ℕ) → tokens_in (tokens 0 at (spaced [] ++ codes "\n")) ≡ End ∷ []
unfolding spaced tokens
nothing at = refl

spaced_first : (t : Token) (ts : List Token) (at : ℕ) → tokens_in (tokens 0 at (spaced (t ∷ ts) ++ codes "\n")) ≡ tokens_in (tokens 0 (at + 1) (token_text t ++ (spaced ts ++ codes "\n")))
unfolding spaced
spaced_first t ts at =
    ap tokens_in (blank_goes at 32 ((token_text t ++ spaced ts) ++ codes "\n") refl) ∙ ap (λ (l : List ℕ). tokens_in (tokens 0 (at + 1) l)) (append_assoc (token_text t) (spaced ts) (codes "\n"))

spaced_tokens : (ts : List Token) (at : ℕ) → AllWhole ts → tokens_in (tokens 0 at (spaced ts ++ codes "\n")) ≡ ts ++ End ∷ []
spaced_tokens [] at whole = nothing at
spaced_tokens (t ∷ ts) at whole = spaced_first t ts at ∙ one_and_more t ts (at + 1) whole.0 (λ next. spaced_tokens ts next whole.1)

-- The text of tokens is cut into them again.
pub printed_tokens : (ts : List Token) → AllWhole ts → tokens_in (tokens 0 0 (printed ts)) ≡ ts ++ End ∷ []
unfolding spaced
printed_tokens [] whole = nothing 0
printed_tokens (t ∷ ts) whole = ap (λ (l : List ℕ). tokens_in (tokens 0 0 l)) (append_assoc (token_text t) (spaced ts) (codes "\n")) ∙ one_and_more t ts 0 whole.0 (λ next. spaced_tokens ts next whole.1)
