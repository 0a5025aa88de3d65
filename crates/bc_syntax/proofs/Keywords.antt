-- A word that is a keyword is the only one that it may be.
use Rattle.std.proofs.Common.{◌≡◌, ℕ, Bool, true, false, cond, List, [], ◌∷◌, refl, sym, ap, ◌∙◌, subst, arith}
use Rattle.std.specs.Prelude.{Option, Some, None, find}
use Rattle.std.specs.Bool.{then_some}
use Rattle.std.specs.List.{AllByRecursion}
use Rattle.std.specs.Str.{bytes_eq}
use Rattle.std.proofs.lemmas.Slice.Eq.{bytes_eq-Decides}
use Rattle.bc_syntax.specs.declared.symbol.Symbol.{Symbol}
use Rattle.bc_syntax.specs.declared.symbol.Symbol.TheVariants as symbols
use Rattle.bc_syntax.specs.declared.symbol.TheConstants.{KEYWORDS}
use Rattle.bc_syntax.specs.Symbol.{text, keyword_of}
use Rattle.bc_syntax.specs.Likely.{likely_keyword}

pub is_text : (xs ys : List ℕ) → bytes_eq xs ys ≡ true → xs ≡ ys
is_text xs ys e = grind (arith, bytes_eq-Decides xs ys, e)

pub found_in : {X : Type 0} (p : X → Bool) (P : X → Type 0) (xs : List X) → AllByRecursion P xs → (x : X) → find p xs ≡ Some x → (p x ≡ true) × P x
found_in p P [] all x e = absurd cc
found_in {X} p P (y ∷ ys) all x e = by (found_in p P ys all.1 x) (p y) refl e
  where
    by : (find p ys ≡ Some x → (p x ≡ true) × P x) → (b : Bool) → p y ≡ b → cond b (Some y) (find p ys) ≡ Some x → (p x ≡ true) × P x
    by more true t f = let same : y ≡ x = cc in subst (λ (z : X). (p z ≡ true) × P z) same (t, all.0)
    by more false t f = more f

told : AllByRecursion (λ s. likely_keyword (text s) ≡ Some s) KEYWORDS
unfolding likely_keyword text
told = (refl, (refl, (refl, (refl, (refl, (refl, (refl, (refl, (refl, (refl, (refl, (refl, (refl, (refl, (refl, (refl, (refl, (refl, (refl, (refl, tt))))))))))))))))))))

likely_if : (word : List ℕ) (s : Symbol) → keyword_of word ≡ Some s → (likely_keyword word ≡ Some s) × (bytes_eq (text s) word ≡ true)
unfolding keyword_of
likely_if word s e =
    let h = found_in (λ s. bytes_eq (text s) word) (λ s. likely_keyword (text s) ≡ Some s) KEYWORDS told s e in
    (ap likely_keyword (sym (is_text (text s) word h.0)) ∙ h.1, h.0)

nothing : (o : Option Symbol) (s : Symbol) → o ≡ None → o ≡ Some s → ⊥
nothing o s none some = absurd cc

own : (s : Symbol) → likely_keyword (text s) ≡ Some s → keyword_of (text s) ≡ Some s
unfolding likely_keyword keyword_of text
own symbols.Fn e = refl
own symbols.Closure e = refl
own symbols.Where e = refl
own symbols.Let e = refl
own symbols.Int e = refl
own symbols.Mut e = refl
own symbols.Copy e = refl
own symbols.Move e = refl
own symbols.Calc e = refl
own symbols.Dead e = refl
own symbols.Drop e = refl
own symbols.Nop e = refl
own symbols.Goto e = refl
own symbols.If e = refl
own symbols.Call e = refl
own symbols.Invoke e = refl
own symbols.Return e = refl
own symbols.Stop e = refl
own symbols.Struct e = refl
own symbols.Extern e = refl
own symbols.OpenParen e = absurd (nothing (likely_keyword (text symbols.OpenParen)) symbols.OpenParen refl e)
own symbols.CloseParen e = absurd (nothing (likely_keyword (text symbols.CloseParen)) symbols.CloseParen refl e)
own symbols.OpenBrace e = absurd (nothing (likely_keyword (text symbols.OpenBrace)) symbols.OpenBrace refl e)
own symbols.CloseBrace e = absurd (nothing (likely_keyword (text symbols.CloseBrace)) symbols.CloseBrace refl e)
own symbols.OpenBracket e = absurd (nothing (likely_keyword (text symbols.OpenBracket)) symbols.OpenBracket refl e)
own symbols.CloseBracket e = absurd (nothing (likely_keyword (text symbols.CloseBracket)) symbols.CloseBracket refl e)
own symbols.Less e = absurd (nothing (likely_keyword (text symbols.Less)) symbols.Less refl e)
own symbols.Greater e = absurd (nothing (likely_keyword (text symbols.Greater)) symbols.Greater refl e)
own symbols.Comma e = absurd (nothing (likely_keyword (text symbols.Comma)) symbols.Comma refl e)
own symbols.Semicolon e = absurd (nothing (likely_keyword (text symbols.Semicolon)) symbols.Semicolon refl e)
own symbols.Colon e = absurd (nothing (likely_keyword (text symbols.Colon)) symbols.Colon refl e)
own symbols.Equals e = absurd (nothing (likely_keyword (text symbols.Equals)) symbols.Equals refl e)
own symbols.Plus e = absurd (nothing (likely_keyword (text symbols.Plus)) symbols.Plus refl e)
own symbols.Ampersand e = absurd (nothing (likely_keyword (text symbols.Ampersand)) symbols.Ampersand refl e)
own symbols.Dot e = absurd (nothing (likely_keyword (text symbols.Dot)) symbols.Dot refl e)
own symbols.Star e = absurd (nothing (likely_keyword (text symbols.Star)) symbols.Star refl e)
own symbols.Arrow e = absurd (nothing (likely_keyword (text symbols.Arrow)) symbols.Arrow refl e)

pub none_likely : (word : List ℕ) → likely_keyword word ≡ None → None ≡ keyword_of word
none_likely word e = by (keyword_of word) refl
  where
    by : (o : Option Symbol) → keyword_of word ≡ o → None ≡ o
    by None f = refl
    by (Some s) f = let h = likely_if word s f in absurd cc

pub one_likely : (word : List ℕ) (s : Symbol) → likely_keyword word ≡ Some s → then_some (bytes_eq (text s) word) s ≡ keyword_of word
one_likely word s e = by (bytes_eq (text s) word) refl
  where
    other : bytes_eq (text s) word ≡ false → (o : Option Symbol) → keyword_of word ≡ o → None ≡ o
    other f None g = refl
    other f (Some t) g =
        let h = likely_if word t g in
        let same : s ≡ t = cc in
        let back : bytes_eq (text s) word ≡ true = ap (λ (z : Symbol). bytes_eq (text z) word) same ∙ h.1 in
        absurd cc

    by : (b : Bool) → bytes_eq (text s) word ≡ b → then_some b s ≡ keyword_of word
    by true f =
        let w : text s ≡ word = is_text (text s) word f in
        sym (own s (ap likely_keyword w ∙ e)) ∙ ap keyword_of w
    by false f = other f (keyword_of word) refl
