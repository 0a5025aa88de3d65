-- Printed JSON has no line feed.
use Rattle.std.proofs.Common.{◌≡◌, ℕ, suc, ◌+◌, Bool, true, false, cond, List, [], ◌∷◌, ◌++◌, take, drop, Option, Some, None, refl, ap, sym, subst, ◌∙◌, arith, take-append-drop}
use Rattle.std.specs.Prelude.{◌==◌, ◌||◌, ◌&&◌, nat_lt, option_and_then, ◌/◌, ◌%◌}
use Rattle.std.specs.List.{prefix_len}
use Rattle.std.specs.Char.{is_ascii_digit, digit_char}
use Rattle.std.proofs.lemmas.Bool.Decides.{nat_tests}
use Rattle.json.specs.Token.{Token, begin_object, end_object, begin_array, end_array, key, string, number, boolean, null, bad}
use Rattle.json.specs.Lex.{tokens}
use Rattle.json.specs.Word.{head, after_digits, after_minus, after_sign, after_whole, after_fraction, after_exponent, after_number}
use Rattle.json.specs.Print.{escape_letter, escape_byte, escape, quoted, token_text, separator, begins, ends, print_from, print, IsNumber, ArePrintableOrBad, IsPrintableOrBad}
use Rattle.json.proofs.Numbered.{ArePrintableOrBad-tokens}
use Rattle.cli_answers.specs.Feeds.{has_feed, IsOneLine}

feed_append : (xs ys : List ℕ) → IsOneLine xs → IsOneLine ys → IsOneLine (xs ++ ys)
feed_append [] ys h k = k
feed_append (x ∷ xs) ys h k =
    elim (x == 10) as (λ t. (t || has_feed xs) ≡ false → (t || has_feed (xs ++ ys)) ≡ false) [
      | true ↦ λ e. e
      | false ↦ λ e. feed_append xs ys e k
    ] h

feed_cons : (x : ℕ) (xs : List ℕ) → (x == 10) ≡ false → IsOneLine xs → IsOneLine (x ∷ xs)
feed_cons x xs h k = rw h k

letter : (x : ℕ) → (escape_letter x == 10) ≡ false
letter x = grind (arith, nat_tests)

digit : (n : ℕ) → (digit_char n == 10) ≡ false
digit n = grind (arith, nat_tests)

big : (x : ℕ) (b : Bool) → nat_lt x 32 ≡ b → IsOneLine (cond b (92 ∷ 117 ∷ 48 ∷ 48 ∷ digit_char (x / 16) ∷ digit_char (x % 16) ∷ []) (x ∷ []))
big x true h = feed_cons (digit_char (x / 16)) (digit_char (x % 16) ∷ []) (digit (x / 16)) (feed_cons (digit_char (x % 16)) [] (digit (x % 16)) refl)
big x false h = feed_cons x [] (grind (arith, nat_tests)) refl

escaped : (x : ℕ) (b : Bool) → IsOneLine (cond b (92 ∷ escape_letter x ∷ []) (cond (nat_lt x 32) (92 ∷ 117 ∷ 48 ∷ 48 ∷ digit_char (x / 16) ∷ digit_char (x % 16) ∷ []) (x ∷ [])))
escaped x true = feed_cons (escape_letter x) [] (letter x) refl
escaped x false = big x (nat_lt x 32) refl

byte : (x : ℕ) → IsOneLine (escape_byte x)
unfolding escape_byte
byte x = escaped x (nat_lt 0 (escape_letter x))

bytes : (xs : List ℕ) → IsOneLine (escape xs)
bytes [] = refl
bytes (x ∷ xs) = feed_append (escape_byte x) (escape xs) (byte x) (bytes xs)

quote : (xs : List ℕ) → IsOneLine (quoted xs)
quote xs = feed_append (escape xs) (34 ∷ []) (bytes xs) refl

-- numbers

no_digit : (x : ℕ) → is_ascii_digit x ≡ true → (x == 10) ≡ false
no_digit x h = grind (arith, nat_tests)

more_front : (x : ℕ) (xs : List ℕ) (b : Bool) → is_ascii_digit x ≡ b → IsOneLine (take (prefix_len is_ascii_digit xs) xs) → IsOneLine (take (cond b (1 + prefix_len is_ascii_digit xs) 0) (x ∷ xs))
more_front x xs true e k =
    let more : suc (prefix_len is_ascii_digit xs) ≡ 1 + prefix_len is_ascii_digit xs = omega arith in
    subst (λ (n : ℕ). IsOneLine (take n (x ∷ xs))) more (feed_cons x (take (prefix_len is_ascii_digit xs) xs) (no_digit x e) k)
more_front x xs false e k = refl

front : (t : List ℕ) → IsOneLine (take (prefix_len is_ascii_digit t) t)
front [] = refl
front (x ∷ xs) = more_front x xs (is_ascii_digit x) refl (front xs)

digits : (t r : List ℕ) → after_digits t ≡ Some r → IsOneLine r → IsOneLine t
digits t r h k = at (prefix_len is_ascii_digit t == 0) h
  where
    at : (b : Bool) → cond b None (Some (drop (prefix_len is_ascii_digit t) t)) ≡ Some r → IsOneLine t
    at true e = absurd cc
    at false e =
        let rest : drop (prefix_len is_ascii_digit t) t ≡ r = cc in
        subst IsOneLine (take-append-drop (prefix_len is_ascii_digit t) t) (feed_append (take (prefix_len is_ascii_digit t) t) (drop (prefix_len is_ascii_digit t) t) (front t) (subst IsOneLine (sym rest) k))

skip : (t : List ℕ) → (head t == 10) ≡ false → IsOneLine (drop 1 t) → IsOneLine t
skip [] h k = refl
skip (x ∷ xs) h k = feed_cons x xs h k

at_head : (t : List ℕ) (c : ℕ) → (c == 10) ≡ false → (head t == c) ≡ true → (head t == 10) ≡ false
at_head t c other h = let same : head t ≡ c = grind (arith, nat_tests) in ap (λ x. x == 10) same ∙ other

minus : (t : List ℕ) → IsOneLine (after_minus t) → IsOneLine t
minus t k = at (head t == 45) refl k
  where
    at : (b : Bool) → (head t == 45) ≡ b → IsOneLine (cond b (drop 1 t) t) → IsOneLine t
    at true e h = skip t (at_head t 45 refl e) h
    at false e h = h

sign : (t : List ℕ) → IsOneLine (after_sign t) → IsOneLine t
sign t k = at ((head t == 45) || (head t == 43)) refl k
  where
    at : (b : Bool) → ((head t == 45) || (head t == 43)) ≡ b → IsOneLine (cond b (drop 1 t) t) → IsOneLine t
    at true e h = skip t (grind (arith, nat_tests)) h
    at false e h = h

whole : (t r : List ℕ) → after_whole t ≡ Some r → IsOneLine r → IsOneLine t
whole t r h k = at (head t == 48) refl h
  where
    at : (b : Bool) → (head t == 48) ≡ b → cond b (Some (drop 1 t)) (after_digits t) ≡ Some r → IsOneLine t
    at true e i = let rest : drop 1 t ≡ r = cc in skip t (at_head t 48 refl e) (subst IsOneLine (sym rest) k)
    at false e i = digits t r i k

fraction : (t r : List ℕ) → after_fraction t ≡ Some r → IsOneLine r → IsOneLine t
fraction t r h k = at (head t == 46) refl h
  where
    at : (b : Bool) → (head t == 46) ≡ b → cond b (after_digits (drop 1 t)) (Some t) ≡ Some r → IsOneLine t
    at true e i = skip t (at_head t 46 refl e) (digits (drop 1 t) r i k)
    at false e i = let rest : t ≡ r = cc in subst IsOneLine (sym rest) k

exponent : (t r : List ℕ) → after_exponent t ≡ Some r → IsOneLine r → IsOneLine t
exponent t r h k = at ((head t == 101) || (head t == 69)) refl h
  where
    at : (b : Bool) → ((head t == 101) || (head t == 69)) ≡ b → cond b (after_digits (after_sign (drop 1 t))) (Some t) ≡ Some r → IsOneLine t
    at true e i = skip t (grind (arith, nat_tests)) (sign (drop 1 t) (digits (after_sign (drop 1 t)) r i k))
    at false e i = let rest : t ≡ r = cc in subst IsOneLine (sym rest) k

parts : (s : List ℕ) (w : Option (List ℕ)) → after_whole (after_minus s) ≡ w → option_and_then after_exponent (option_and_then after_fraction w) ≡ Some [] → IsOneLine s
parts s None is h = absurd cc
parts s (Some a) is h = at (after_fraction a) refl h
  where
    at : (f : Option (List ℕ)) → after_fraction a ≡ f → option_and_then after_exponent f ≡ Some [] → IsOneLine s
    at None e i = absurd cc
    at (Some b) e i = minus s (whole (after_minus s) a is (fraction a b e (exponent b [] i refl)))

numeral : (s : List ℕ) → IsNumber s → IsOneLine s
unfolding after_number
numeral s h = parts s (after_whole (after_minus s)) refl h

-- tokens

text : (t : Token) → IsPrintableOrBad t → IsOneLine (token_text t)
text begin_object h = refl
text end_object h = refl
text begin_array h = refl
text end_array h = refl
text (key s) h = feed_append (quoted s) (58 ∷ []) (quote s) refl
text (string s) h = quote s
text (number s) h = numeral s h
text (boolean true) h = refl
text (boolean false) h = refl
text null h = refl
text bad h = refl

comma : (b : Bool) → IsOneLine (cond b (44 ∷ []) [])
comma true = refl
comma false = refl

printed : (after : Bool) (ts : List Token) → ArePrintableOrBad ts → IsOneLine (print_from after ts)
unfolding print_from
printed after [] h = refl
printed after (t ∷ ts) h = feed_append (separator after t) (token_text t ++ print_from (ends t) ts) (comma (after && begins t)) (feed_append (token_text t) (print_from (ends t) ts) (text t h.0) (printed (ends t) ts h.1))

-- a printed text has no line feed
pub one_line : (line : List ℕ) → line ≡ print (tokens line) → IsOneLine line
one_line line h = ap has_feed h ∙ printed false (tokens line) (ArePrintableOrBad-tokens line)
