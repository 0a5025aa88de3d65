-- How the tokens of a text go on.
use Rattle.std.proofs.Common.{◌≡◌, ◌≢◌, ℕ, zero, suc, ◌+◌, ◌-◌, ◌<◌, ◌≤◌, Bool, true, false, cond, List, [], ◌∷◌, length, drop, get_or, refl, sym, ap, ◌∙◌, subst, arith, inl, inr, add-zero}
use Rattle.std.proofs.lemmas.Bool.{cases_Bool}
use Rattle.std.proofs.lemmas.List.{get_or-drop, length-drop}
use Rattle.std.proofs.lemmas.List.Sums.{prefix_len_stops}
use Rattle.std.specs.List.{prefix_len}
use Rattle.bc_tokens.specs.declared.token.Kind.{Kind}
use Rattle.bc_tokens.specs.declared.token.Kind.TheVariants as kinds
use Rattle.bc_syntax.specs.Token.{Token, End}
use Rattle.bc_tokens.specs.Token.{Tokens, placed, shown, is_blank, lexeme, tokens}
use Rattle.bc_tokens.specs.Cursor.{following}
use Rattle.bc_tokens.specs.Parser.{first, after}

-- the bytes of a token that has begun are skipped
pub inside : (n at : ℕ) (bytes : List ℕ) → n ≤ length bytes → tokens n at bytes ≡ tokens 0 (at + n) (drop n bytes)
unfolding tokens
inside zero at bytes le = let e : at ≡ at + 0 = omega arith in ap (λ k. tokens 0 k bytes) e
inside (suc n) at [] le = absurd (omega arith)
inside (suc n) at (b ∷ bytes) le =
    let e : (at + 1) + n ≡ at + suc n = omega arith in
    let le2 : n ≤ length bytes = omega arith in
    inside n (at + 1) bytes le2 ∙ ap (λ k. tokens 0 k (drop n bytes)) e

pub blank_goes : (at b : ℕ) (bytes : List ℕ) → is_blank b ≡ true → tokens 0 at (b ∷ bytes) ≡ tokens 0 (at + 1) bytes
unfolding tokens
blank_goes at b bytes h = ap (λ t. cond t (tokens 0 (at + 1) bytes) (placed (lexeme (b ∷ bytes)).0 at ∷ tokens ((lexeme (b ∷ bytes)).1 - 1) (at + 1) bytes)) h

pub token_begins : (at b : ℕ) (bytes : List ℕ) → is_blank b ≡ false → tokens 0 at (b ∷ bytes) ≡ placed (lexeme (b ∷ bytes)).0 at ∷ tokens ((lexeme (b ∷ bytes)).1 - 1) (at + 1) bytes
unfolding tokens
token_begins at b bytes h = ap (λ t. cond t (tokens 0 (at + 1) bytes) (placed (lexeme (b ∷ bytes)).0 at ∷ tokens ((lexeme (b ∷ bytes)).1 - 1) (at + 1) bytes)) h

-- blanks are skipped
pub skips : (at : ℕ) (text : List ℕ) → tokens 0 (at + prefix_len is_blank text) (drop (prefix_len is_blank text) text) ≡ tokens 0 at text
skips at [] = let e : at + 0 ≡ at = omega arith in ap (λ k. tokens 0 k []) e
skips at (b ∷ text) =
    elim (cases_Bool (is_blank b)) [
      | inl white ↦
          let P : Bool → Type 0 = λ t. tokens 0 (at + cond t (1 + prefix_len is_blank text) 0) (drop (cond t (1 + prefix_len is_blank text) 0) (b ∷ text)) ≡ tokens 0 at (b ∷ text) in
          let n : 1 + prefix_len is_blank text ≡ suc (prefix_len is_blank text) = omega arith in
          let e : at + (1 + prefix_len is_blank text) ≡ (at + 1) + prefix_len is_blank text = omega arith in
          subst P (sym white) (ap (λ k. tokens 0 (at + (1 + prefix_len is_blank text)) (drop k (b ∷ text))) n ∙ ap (λ k. tokens 0 k (drop (prefix_len is_blank text) text)) e ∙ skips (at + 1) text ∙ sym (blank_goes at b text white))
      | inr ink ↦
          let P : Bool → Type 0 = λ t. tokens 0 (at + cond t (1 + prefix_len is_blank text) 0) (drop (cond t (1 + prefix_len is_blank text) 0) (b ∷ text)) ≡ tokens 0 at (b ∷ text) in
          let e : at + 0 ≡ at = omega arith in
          subst P (sym ink) (ap (λ k. tokens 0 k (b ∷ text)) e)
    ]

-- after the blanks comes no blank
pub not_blank : (text : List ℕ) → 0 < length (drop (prefix_len is_blank text) text) → is_blank (get_or (drop (prefix_len is_blank text) text) 0 0) ≡ false
not_blank text some =
    let n = prefix_len is_blank text in
    let below : prefix_len is_blank text < length text = omega (arith, length-drop (prefix_len is_blank text) text) in
    let here : get_or (drop (prefix_len is_blank text) text) 0 0 ≡ get_or text (prefix_len is_blank text) 0 = get_or-drop (prefix_len is_blank text) text 0 0 ∙ ap (λ k. get_or text k 0) (add-zero (prefix_len is_blank text)) in
    ap is_blank here ∙ prefix_len_stops is_blank text 0 below

following_is : (kind : Kind) (end : ℕ) (rest : List ℕ) → kind ≢ kinds.End → following kind end rest ≡ tokens 0 end rest
following_is kinds.End end rest h = absurd (h refl)
following_is (kinds.Fixed symbol) end rest h = refl
following_is (kinds.Numbered numbering) end rest h = refl
following_is kinds.Word end rest h = refl
following_is kinds.Region end rest h = refl
following_is kinds.NotAscii end rest h = refl
following_is kinds.Stray end rest h = refl

-- after a token that is not the end
pub goes_on : (kind : Kind) (text : List ℕ) (end : ℕ) (rest : List ℕ) → shown kind text ≢ End → tokens 0 end rest ≡ following kind end rest
goes_on kind text end rest h = sym (following_is kind end rest (λ e. h (ap (λ k. shown k text) e)))

-- after the first of the tokens
pub goes_past : (ts : Tokens) (kind : Kind) (text : List ℕ) (at end : ℕ) (rest : List ℕ) → ts ≡ placed (shown kind text) at ∷ following kind end rest
    → (first ts).token ≢ End → tokens 0 end rest ≡ after ts
goes_past ts kind text at end rest e h = goes_on kind text end rest (λ k. h (ap (λ (t : Tokens). (first t).token) e ∙ k)) ∙ ap after (sym e)

-- the token at the front of a text, and what follows it
pub begins : (at : ℕ) (text : List ℕ) (kind : Kind) (digits : List ℕ) (len : ℕ) → is_blank (get_or text 0 0) ≡ false → 0 < length text
    → (shown kind digits, len) ≡ lexeme text → 0 < len → len ≤ length text → kind ≢ kinds.End
    → placed (shown kind digits) at ∷ following kind (at + len) (drop len text) ≡ tokens 0 at text
begins at [] kind digits len blank some cut more within not_end = absurd (omega arith)
begins at (b ∷ bytes) kind digits zero blank some cut more within not_end = absurd (omega arith)
begins at (b ∷ bytes) kind digits (suc n) blank some cut more within not_end =
    let le : n ≤ length bytes = omega arith in
    let e : (at + 1) + n ≡ at + suc n = omega arith in
    let m : suc n - 1 ≡ n = omega arith in
    let token-is : (lexeme (b ∷ bytes)).0 ≡ shown kind digits = sym (ap (λ (p : Token × ℕ). p.0) cut) in
    let len-is : (lexeme (b ∷ bytes)).1 - 1 ≡ n = ap (λ (p : Token × ℕ). p.1 - 1) (sym cut) ∙ m in
    let rest-is : tokens ((lexeme (b ∷ bytes)).1 - 1) (at + 1) bytes ≡ following kind (at + suc n) (drop n bytes) =
    ap (λ k. tokens k (at + 1) bytes) len-is ∙ inside n (at + 1) bytes le ∙ ap (λ k. tokens 0 k (drop n bytes)) e ∙ sym (following_is kind (at + suc n) (drop n bytes) not_end) in
    sym (token_begins at b bytes blank ∙ ap (λ (t : Token). placed t at ∷ tokens ((lexeme (b ∷ bytes)).1 - 1) (at + 1) bytes) token-is ∙ ap (λ (r : Tokens). placed (shown kind digits) at ∷ r) rest-is)

empty : (rest : List ℕ) → length rest ≡ 0 → rest ≡ []
empty [] e = refl
empty (b ∷ rest) e = absurd (omega arith)

-- nothing but blanks
pub ends : (at n : ℕ) (text rest : List ℕ) → n ≡ prefix_len is_blank text → rest ≡ drop n text → length rest ≡ 0 → placed End (at + n) ∷ [] ≡ tokens 0 at text
unfolding tokens
ends at n text rest count rest-is none =
    let nothing : drop (prefix_len is_blank text) text ≡ [] = ap (λ k. drop k text) (sym count) ∙ sym rest-is ∙ empty rest none in
    let place : tokens 0 (at + n) [] ≡ tokens 0 (at + prefix_len is_blank text) (drop (prefix_len is_blank text) text) =
    ap (λ k. tokens 0 (at + k) []) count ∙ ap (λ (l : List ℕ). tokens 0 (at + prefix_len is_blank text) l) (sym nothing) in
    place ∙ skips at text

-- after the blanks a token begins, or nothing is left
pub begins_here : (n : ℕ) (text rest : List ℕ) → n ≡ prefix_len is_blank text → rest ≡ drop n text → 0 < length rest → is_blank (get_or rest 0 0) ≡ false
begins_here n text rest count rest-is some =
    let whole : rest ≡ drop (prefix_len is_blank text) text = rest-is ∙ ap (λ k. drop k text) count in
    let some2 : 0 < length (drop (prefix_len is_blank text) text) = subst (λ (l : List ℕ). 0 < length l) whole some in
    ap (λ (l : List ℕ). is_blank (get_or l 0 0)) whole ∙ not_blank text some2

-- the tokens after the blanks are those of the text
pub cuts : (at n : ℕ) (text rest : List ℕ) → n ≡ prefix_len is_blank text → rest ≡ drop n text → tokens 0 (at + n) rest ≡ tokens 0 at text
cuts at n text rest count rest-is =
    ap (λ (l : List ℕ). tokens 0 (at + n) l) (rest-is ∙ ap (λ k. drop k text) count)
    ∙ ap (λ k. tokens 0 (at + k) (drop (prefix_len is_blank text) text)) count
    ∙ skips at text
