-- The end is the last token of a text, and no other.
use Rattle.std.proofs.Common.{◌≡◌, ◌≢◌, ℕ, zero, suc, ◌+◌, ◌-◌, Bool, true, false, cond, List, [], ◌∷◌, ◌++◌, length, drop, map, Option, Some, None, refl, sym, ap, ◌∙◌, subst, inl, inr}
use Rattle.std.specs.Prelude.{slice_index, nat_le, ◌&&◌, ◌==◌}
use Rattle.std.specs.Char.{is_ascii_alphabetic}
use Rattle.bc_syntax.specs.declared.symbol.Symbol.TheVariants.{Arrow}
use Rattle.bc_syntax.specs.declared.numbering.Numbering.TheVariants as n
use Rattle.std.proofs.lemmas.Bool.{cases_Bool}
use Rattle.bc_syntax.specs.declared.symbol.Symbol.{Symbol}
use Rattle.bc_syntax.specs.declared.numbering.Numbering.{Numbering}
use Rattle.bc_syntax.specs.Symbol.{keyword_of, sign_of}
use Rattle.bc_syntax.specs.Bytes.{is_run_byte, run}
use Rattle.bc_syntax.specs.Token.{Token, Fixed, Numbered, Region, NotAscii, Stray, End}
use Rattle.bc_tokens.specs.Token.{Placed, placed, Tokens, tokens, lexeme, is_blank, run_token, region_token, variable_token, sign_token, word, value}
use Rattle.bc_syntax.specs.Words.{is_number, is_label}
use Rattle.bc_text.proofs.Begins.{Begins}
use Rattle.bc_tokens.proofs.Cuts.{blank_goes, token_begins}

either : (b : Bool) (x y : Token) → x ≢ End → y ≢ End → cond b x y ≢ End
either true x y p q = p
either false x y p q = q

either_pair : (b : Bool) (x y : Token × ℕ) → x.0 ≢ End → y.0 ≢ End → (cond b x y).0 ≢ End
either_pair true x y p q = p
either_pair false x y p q = q

word_goes : (name : List ℕ) (found : Option Symbol) → word name found ≢ End
word_goes name (Some symbol) = λ e. cc
word_goes name None = λ e. cc

sign_goes : (found : Option Symbol) → sign_token found ≢ End
sign_goes (Some symbol) = λ e. cc
sign_goes None = λ e. cc

numbered_goes : (k : Numbering) (m : ℕ) → Numbered k m ≢ End
numbered_goes k m = λ e. cc

region_is : (name : List ℕ) → Region name ≢ End
region_is name = λ e. cc

fixed_goes : (symbol : Symbol) → Fixed symbol ≢ End
fixed_goes symbol = λ e. cc

stray_goes : Stray ≢ End
stray_goes = λ e. cc

not_ascii_goes : NotAscii ≢ End
not_ascii_goes = λ e. cc

run_goes : (r : List ℕ) → run_token r ≢ End
unfolding run_token is_label
run_goes r =
    let a = slice_index r 0 == 95 && is_number (drop 1 r) in
    let b = slice_index r 0 == 98 && slice_index r 1 == 98 && is_number (drop 2 r) in
    let c = is_ascii_alphabetic (slice_index r 0) in
    let d = word r (keyword_of r) in
    let number = Numbered n.Number (value r) in
    let here = Numbered n.Local (value (drop 1 r)) in
    let label = Numbered n.Label (value (drop 2 r)) in
    either (is_number r) number (cond a here (cond b label (cond c d Stray))) (numbered_goes n.Number (value r))
    (either a here (cond b label (cond c d Stray)) (numbered_goes n.Local (value (drop 1 r))) (either b label (cond c d Stray) (numbered_goes n.Label (value (drop 2 r))) (either c d Stray (word_goes r (keyword_of r)) stray_goes)))

region_goes : (name : List ℕ) → region_token name ≢ End
unfolding region_token
region_goes name = either _ _ _ (region_is name) stray_goes

variable_goes : (digits : List ℕ) → variable_token digits ≢ End
unfolding variable_token
variable_goes digits = either _ _ _ (numbered_goes _ _) stray_goes

lexeme_goes : (bytes : List ℕ) → (lexeme bytes).0 ≢ End
unfolding lexeme
lexeme_goes bytes =
    let first = slice_index bytes 0 in
    let second = slice_index bytes 1 in
    let ran : Token × ℕ = (run_token (run bytes), length (run bytes)) in
    let variable : Token × ℕ = (variable_token (run (drop 2 bytes)), 2 + length (run (drop 2 bytes))) in
    let named : Token × ℕ = (region_token (run (drop 1 bytes)), 1 + length (run (drop 1 bytes))) in
    let arrow : Token × ℕ = (Fixed Arrow, 2) in
    let foreign : Token × ℕ = (NotAscii, 1) in
    let sign : Token × ℕ = (sign_token (sign_of first), 1) in
    let r4 = cond (nat_le 128 first) foreign sign in
    let r3 = cond (first == 45 && second == 62) arrow r4 in
    let r2 = cond (first == 39) named r3 in
    let r1 = cond (first == 39 && second == 63) variable r2 in
    either_pair (is_run_byte first) ran r1 (run_goes (run bytes))
    (either_pair (first == 39 && second == 63) variable r2 (variable_goes (run (drop 2 bytes)))
    (either_pair (first == 39) named r3 (region_goes (run (drop 1 bytes)))
    (either_pair (first == 45 && second == 62) arrow r4 (fixed_goes Arrow)
    (either_pair (nat_le 128 first) foreign sign not_ascii_goes (sign_goes (sign_of first))))))

-- the last token is the end, and no other is
abbrev pub IsText : Tokens → Type 0
IsText [] = ⊥
IsText (t ∷ []) = t.token ≡ End
IsText (t ∷ u ∷ ts) = (t.token ≢ End) × IsText (u ∷ ts)

longer : (t : Placed) (ts : Tokens) → t.token ≢ End → IsText ts → IsText (t ∷ ts)
longer t [] other text = absurd text
longer t (u ∷ ts) other text = (other, text)

pub tokens_are_text : (inside at : ℕ) (bytes : List ℕ) → IsText (tokens inside at bytes)
unfolding tokens
tokens_are_text zero at [] = refl
tokens_are_text (suc inside) at [] = refl
tokens_are_text (suc inside) at (b ∷ bytes) = tokens_are_text inside (at + 1) bytes
tokens_are_text zero at (b ∷ bytes) =
    elim (cases_Bool (is_blank b)) [
      | inl white ↦ subst IsText (sym (blank_goes at b bytes white)) (tokens_are_text 0 (at + 1) bytes)
      | inr ink ↦ subst IsText (sym (token_begins at b bytes ink)) (longer (placed (lexeme (b ∷ bytes)).0 at) (tokens ((lexeme (b ∷ bytes)).1 - 1) (at + 1) bytes) (lexeme_goes (b ∷ bytes)) (tokens_are_text ((lexeme (b ∷ bytes)).1 - 1) (at + 1) bytes))
    ]

-- what begins inside a text is a text
pub within : (ts : Tokens) (x : List Token) (s : Token) (y : List Token) (rest : Tokens) → IsText ts → Begins ts (x ++ s ∷ y) rest → (mid : Tokens) × IsText mid × Begins mid (s ∷ y) rest
within ts [] s y rest text p = (ts, text, p)
within [] (z ∷ x) s y rest text p = absurd p
within (t ∷ []) (z ∷ []) s y rest text p = absurd p.1
within (t ∷ []) (z ∷ w ∷ x) s y rest text p = absurd p.1
within (t ∷ u ∷ ts) (z ∷ x) s y rest text p = within (u ∷ ts) x s y rest text.1 p.1

-- nothing follows the end
pub ends_there : (ts rest : Tokens) → IsText ts → Begins ts (End ∷ []) rest → rest ≡ []
ends_there [] rest text p = absurd p
ends_there (t ∷ []) rest text p = sym p.1
ends_there (t ∷ u ∷ ts) rest text p = absurd (text.0 p.0)

pub all_of_it : (ts : Tokens) (x : List Token) → Begins ts x [] → map (λ (t : Placed). t.token) ts ≡ x
all_of_it ts [] p = ap (map (λ (t : Placed). t.token)) p
all_of_it [] (s ∷ x) p = absurd p
all_of_it (t ∷ ts) (s ∷ x) p = ap (λ (u : Token). u ∷ map (λ (t : Placed). t.token) ts) p.0 ∙ ap (λ (l : List Token). s ∷ l) (all_of_it ts x p.1)

pub begins_whole : (ts : Tokens) (x : List Token) → map (λ (t : Placed). t.token) ts ≡ x → Begins ts x []
begins_whole [] [] e = refl
begins_whole [] (s ∷ x) e = absurd cc
begins_whole (t ∷ ts) [] e = absurd cc
begins_whole (t ∷ ts) (s ∷ x) e = let head : t.token ≡ s = cc in let tail : map (λ (t : Placed). t.token) ts ≡ x = cc in (head, begins_whole ts x tail)
