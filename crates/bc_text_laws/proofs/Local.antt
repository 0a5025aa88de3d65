-- Parsers whose answer depends on no token after the next one, whose faults are at that one, and which take only tokens that begin a
-- spelling.
use Rattle.std.proofs.Common.{◌≡◌, ℕ, zero, suc, Bool, true, false, cond, List, [], ◌∷◌, ◌++◌, Option, Some, None, Result, Ok, Err, refl, sym, ap, ◌∙◌, subst, inl, inr, append_assoc, arith}
use Rattle.std.specs.Prelude.{◌⊎◌, ◌||◌, ◌&&◌, ◌≤◌, is_some, nat_le, length, map}
use Rattle.std.specs.List.{All, flat_map}
use Rattle.std.proofs.lemmas.List.{append-nil, map-append}
use Rattle.std.proofs.lemmas.Grind.{flat_map-append}
use Rattle.std.proofs.lemmas.List.Concat.{flat_map-cons}
use Rattle.bc_syntax.specs.Spelling.{commas, behind_commas, angled}
use Rattle.bc_text.proofs.Begins.{sees_takes, numbered_takes}
use Rattle.std.proofs.lemmas.Bool.{cases_Bool, le-leb}
use Rattle.std.proofs.lemmas.List.Elements.{All-nil, All-cons, All-append}
use Rattle.bc_syntax.specs.declared.symbol.Symbol.{Symbol}
use Rattle.bc_syntax.specs.declared.symbol.Symbol.TheVariants.{Comma, Less, Greater}
use Rattle.bc_syntax.specs.declared.numbering.Numbering.{Numbering}
use Rattle.bc_syntax.specs.Token.{Token, Fixed, Numbered, Word, Region, NotAscii, Stray, End}
use Rattle.bc_tokens.specs.declared.refusal.Refusal.{Refusal}
use Rattle.bc_tokens.specs.declared.refusal.Refusal.TheVariants as faults
use Rattle.bc_tokens.specs.Token.{Placed, placed, Tokens}
use Rattle.bc_tokens.specs.Parser.{Outcome, Parser, and_then, ◌>>=◌, ◌<$>◌, pure, refuse, past_limit, fail, first, after, position, fault_at, fault, is_fixed, sees, number_in, numbered_to, numbered, region_in, word_in, name_to, region_name, word, sees_numbered, sees_word, sees_region, after_symbol, eat, expect, is_end, at_end, declared_from, declared_turn, declared_until, declared_list, closed_list, opened_list, alike}

-- ---- steps

-- a token of the grammar, other than the end
abbrev pub is_taken : Token → Bool
is_taken (Fixed symbol) = true
is_taken (Numbered numbering n) = true
is_taken (Word name) = true
is_taken (Region name) = true
is_taken NotAscii = false
is_taken Stray = false
is_taken End = false

abbrev pub IsTaken : Placed → Type 0
IsTaken t = is_taken t.token ≡ true

-- an answer, and the tokens after it
abbrev pub with_rest : {A : Type 0} → Result A Refusal → Tokens → Outcome A
with_rest (Ok x) rest = Ok (x, rest)
with_rest (Err e) rest = Err e

-- The fault is the token's own, or says that the token is past a limit.
abbrev pub IsFaultOf : Refusal → Placed → Type 0
IsFaultOf e t = (e ≡ fault_at t.token t.at) ⊎ ((e ≡ faults.Limit t.at) × (fault_at t.token t.at ≡ faults.Grammar t.at))

abbrev pub Stands : {A : Type 0} → Result A Refusal → Placed → Type 0
Stands (Ok x) t = Unit {0}
Stands (Err e) t = IsFaultOf e t

-- the tokens without their places
abbrev pub kinds : Tokens → List Token
kinds ts = map (λ (t : Placed). t.token) ts

-- These tokens begin the spelling of a value.
abbrev pub Filled : {A : Type 0} → (A → Type 0) → (A → List Token) → List Token → Type 0
Filled {A} P spell found = (x : A) × P x × (more : List Token) × (spell x ≡ found ++ more)

-- What was taken spells the answer; before a fault, it begins some spelling.
abbrev pub Begun : {A : Type 0} → (A → Type 0) → (A → List Token) → List Token → Result A Refusal → Type 0
Begun P spell found (Ok x) = P x × (spell x ≡ found)
Begun P spell found (Err e) = Filled P spell found

-- The parser takes some of these tokens. Its answer is the same whatever follows the next token, and its fault is at the next token. What
-- was read before and what it takes spell a value, or begin to.
pub record Steps {A : Type 0} (P : A → Type 0) (p : Parser A) (before : List Token) (spell : A → List Token) (ts : Tokens) : Type 0 where
  pub taken : Tokens
  pub rest : Tokens
  pub is : ts ≡ taken ++ rest
  pub good : All IsTaken taken
  pub answer : Result A Refusal
  pub same : (other : Tokens) → first other ≡ first rest → p (taken ++ other) ≡ with_rest answer other
  pub stands : Stands answer (first rest)
  pub begun : Begun P spell (before ++ kinds taken) answer

pub record Parses {A : Type 0} (P : A → Type 0) (p : Parser A) (before : List Token) (spell : A → List Token) : Type 0 where
  pub steps : (ts : Tokens) → Steps P p before spell ts

abbrev pub Any : {A : Type 0} → A → Type 0
Any x = Unit {0}

at_front : (a b c : Tokens) → first b ≡ first c → first (a ++ b) ≡ first (a ++ c)
at_front [] b c e = e
at_front (t ∷ a) b c e = refl

filled_at : {A : Type 0} {P : A → Type 0} {spell : A → List Token} (before taken : List Token) (answer : Result A Refusal) → Begun P spell (before ++ taken) answer → Filled P spell before
filled_at before taken (Ok x) b = (x, b.0, taken, b.1)
filled_at before taken (Err e) b = (b.0, b.1, taken ++ b.2, b.3 ∙ append_assoc before taken b.2)

-- the tokens before such a parser begin some spelling
pub filled : {A : Type 0} {P : A → Type 0} {p : Parser A} {before : List Token} {spell : A → List Token} → Parses P p before spell → Filled P spell before
filled {before = before} l = let s = l.steps [] in filled_at before (kinds s.taken) s.answer s.begun

here_begun : {A : Type 0} (P : A → Type 0) (spell : A → List Token) (before : List Token) (answer : Result A Refusal) → Begun P spell before answer → Begun P spell (before ++ kinds []) answer
here_begun P spell before answer b = subst (λ (l : List Token). Begun P spell l answer) (sym (append-nil before)) b

assoc4 : (a b c d : List Token) → (a ++ (b ++ c)) ++ d ≡ (a ++ b) ++ (c ++ d)
assoc4 a b c d = ap (λ (l : List Token). l ++ d) (sym (append_assoc a b c)) ∙ append_assoc (a ++ b) c d

bound : {A B : Type 0} {P : A → Type 0} {Q : B → Type 0} (p : Parser A) (f : A → Parser B) (before : List Token) (S : A → List Token) (U : B → List Token) (ts taken rest : Tokens) → ts ≡ taken ++ rest → All IsTaken taken → (answer : Result A Refusal)
    → ((other : Tokens) → first other ≡ first rest → p (taken ++ other) ≡ with_rest answer other) → Stands answer (first rest) → Begun P S (kinds taken) answer → ((x : A) → P x → Parses Q (f x) (before ++ S x) U) → Steps Q (λ l. and_then (p l) f) before U ts
bound p f before S U ts taken rest is good (Err e) same stands begun next =
    let more = filled (next begun.0 begun.1) in
    record {
      taken = taken;
      rest = rest;
      is = is;
      good = good;
      answer = Err e;
      same = λ other h. ap (λ o. and_then o f) (same other h);
      stands = stands;
      begun = (more.0, more.1, begun.2 ++ more.2, more.3 ∙ ap (λ (l : List Token). (before ++ l) ++ more.2) begun.3 ∙ assoc4 before (kinds taken) begun.2 more.2);
    }
bound {Q = Q} p f before S U ts taken rest is good (Ok x) same stands begun next =
    let s = (next x begun.0).steps rest in
    let whole : (before ++ S x) ++ kinds s.taken ≡ before ++ kinds (taken ++ s.taken) =
    append_assoc before (S x) (kinds s.taken) ∙ ap (λ (l : List Token). before ++ (l ++ kinds s.taken)) begun.1 ∙ ap (λ (l : List Token). before ++ l) (sym (map-append (λ (t : Placed). t.token) taken s.taken)) in
    record {
      taken = taken ++ s.taken;
      rest = s.rest;
      is = is ∙ ap (λ (l : Tokens). taken ++ l) s.is ∙ sym (append_assoc taken s.taken s.rest);
      good = All-append IsTaken taken s.taken good s.good;
      answer = s.answer;
      same = λ other h.
          ap (λ (l : Tokens). and_then (p l) f) (append_assoc taken s.taken other)
          ∙ ap (λ o. and_then o f) (same (s.taken ++ other) (at_front s.taken other s.rest h ∙ ap first (sym s.is)))
          ∙ s.same other h;
      stands = s.stands;
      begun = subst (λ (l : List Token). Begun Q U l s.answer) whole s.begun;
    }

pub then_steps : {A B : Type 0} {P : A → Type 0} {Q : B → Type 0} {p : Parser A} {f : A → Parser B} {before : List Token} {S : A → List Token} {U : B → List Token} {ts : Tokens}
    → Steps P p [] S ts → ((x : A) → P x → Parses Q (f x) (before ++ S x) U) → Steps Q (λ l. and_then (p l) f) before U ts
then_steps {p = p} {f = f} {before = before} {S = S} {U = U} {ts = ts} s next = bound p f before S U ts s.taken s.rest s.is s.good s.answer s.same s.stands s.begun next

-- one parser after the other
pub then : {A B : Type 0} {P : A → Type 0} {Q : B → Type 0} {p : Parser A} {f : A → Parser B} {before : List Token} {S : A → List Token} {U : B → List Token}
    → Parses P p [] S → ((x : A) → P x → Parses Q (f x) (before ++ S x) U) → Parses Q (λ ts. and_then (p ts) f) before U
then one next = record { steps = λ ts. then_steps (one.steps ts) next }

pub gives : {A : Type 0} {P : A → Type 0} {before : List Token} {spell : A → List Token} (x : A) → P x → spell x ≡ before → Parses P (pure x) before spell
gives {P = P} {before = before} {spell = spell} x h e = record { steps = λ ts. record { taken = []; rest = ts; is = refl; good = All-nil IsTaken; answer = Ok x; same = λ other k. refl; stands = tt; begun = (h, e ∙ sym (append-nil before)) } }

pub refuses : {A : Type 0} {P : A → Type 0} {before : List Token} {spell : A → List Token} → Filled P spell before → Parses P (refuse {A = A}) before spell
unfolding fault
refuses {P = P} {before = before} {spell = spell} some = record { steps = λ ts. record { taken = []; rest = ts; is = refl; good = All-nil IsTaken; answer = Err (fault ts); same = λ other h. ap (λ (t : Placed). Err (fault_at t.token t.at)) h; stands = inl refl; begun = here_begun P spell before (Err (fault ts)) some } }

-- the same after equal tokens
pub moved : {A : Type 0} {P : A → Type 0} {p : Parser A} {before : List Token} {spell : A → List Token} {after : List Token} → before ≡ after → Parses P p before spell → Parses P p after spell
moved {P = P} {p = p} {spell = spell} e l = subst (λ (b : List Token). Parses P p b spell) e l

behind_begun : {A : Type 0} {P Q : A → Type 0} (S : A → List Token) {U : A → List Token} (before taken : List Token) (answer : Result A Refusal) → ((x : A) → P x → Q x) → ((x : A) → P x → U x ≡ before ++ S x) → Begun P S taken answer → Begun Q U (before ++ taken) answer
behind_begun S before taken (Ok x) so is b = (so x b.0, is x b.0 ∙ ap (λ (l : List Token). before ++ l) b.1)
behind_begun S before taken (Err e) so is b = (b.0, so b.0 b.1, b.2, is b.0 b.1 ∙ ap (λ (l : List Token). before ++ l) b.3 ∙ sym (append_assoc before taken b.2))

-- after some tokens a value has another spelling and another property
pub behind_so : {A : Type 0} {P Q : A → Type 0} {p : Parser A} {before : List Token} {S U : A → List Token} → Parses P p [] S → ((x : A) → P x → Q x) → ((x : A) → P x → U x ≡ before ++ S x) → Parses Q p before U
behind_so {before = before} {S = S} l so is = record {
  steps = λ ts. let s = l.steps ts in record { taken = s.taken; rest = s.rest; is = s.is; good = s.good; answer = s.answer; same = s.same; stands = s.stands; begun = behind_begun S before (kinds s.taken) s.answer so is s.begun };
}

pub behind : {A : Type 0} {P : A → Type 0} {p : Parser A} {before : List Token} {S U : A → List Token} → Parses P p [] S → ((x : A) → P x → U x ≡ before ++ S x) → Parses Any p before U
behind l is = behind_so l (λ x h. tt) is

-- a value that is made from what is read
pub made : {A B : Type 0} {P : A → Type 0} {p : Parser A} {before : List Token} {S : A → List Token} {U : B → List Token} (f : A → B) → Parses P p [] S → ((x : A) → P x → U (f x) ≡ before ++ S x) → Parses Any (f <$> p) before U
made f one is = then one (λ x h. gives (f x) tt (is x h))

pub made_so : {A B : Type 0} {P : A → Type 0} {Q : B → Type 0} {p : Parser A} {before : List Token} {S : A → List Token} {U : B → List Token} (f : A → B) → Parses P p [] S → ((x : A) → P x → Q (f x)) → ((x : A) → P x → U (f x) ≡ before ++ S x) → Parses Q (f <$> p) before U
made_so f one so is = then one (λ x h. gives (f x) (so x h) (is x h))

pub either_steps : {A : Type 0} {P : A → Type 0} {p q : Parser A} {before : List Token} {spell : A → List Token} {ts : Tokens} (b : Bool) → Steps P p before spell ts → Steps P q before spell ts → Steps P (λ l. cond b (p l) (q l)) before spell ts
either_steps true s r = s
either_steps false s r = r

-- ---- looks at the next token

grammar_at : (token : Token) (at : ℕ) → is_taken token ≡ true → fault_at token at ≡ faults.Grammar at
grammar_at (Fixed symbol) at e = refl
grammar_at (Numbered numbering n) at e = refl
grammar_at (Word name) at e = refl
grammar_at (Region name) at e = refl
grammar_at NotAscii at e = absurd cc
grammar_at Stray at e = absurd cc
grammar_at End at e = absurd cc

-- The test looks at the next token alone, and passes only tokens of the grammar.
pub record Looks (b : Tokens → Bool) : Type 0 where
  pub same : (ts other : Tokens) → first other ≡ first ts → b other ≡ b ts
  pub passes : (ts : Tokens) → b ts ≡ true → is_taken (first ts).token ≡ true

chosen_true : {A : Type 0} (b : Bool) (x y : A) → b ≡ true → cond b x y ≡ x
chosen_true true x y e = refl
chosen_true false x y e = absurd cc

chosen_false : {A : Type 0} (b : Bool) (x y : A) → b ≡ false → cond b x y ≡ y
chosen_false true x y e = absurd cc
chosen_false false x y e = refl

seen_again : {A : Type 0} {P : A → Type 0} {p : Parser A} {before : List Token} {spell : A → List Token} {b : Tokens → Bool} (looks : Looks b) (ts : Tokens) (s : Steps P p before spell ts) (other : Tokens) → first other ≡ first s.rest → b (s.taken ++ other) ≡ b ts
seen_again looks ts s other h = looks.same ts (s.taken ++ other) (at_front s.taken other s.rest h ∙ ap first (sym s.is))

pub seen_steps : {A : Type 0} {P : A → Type 0} {p q : Parser A} {before : List Token} {spell : A → List Token} {b : Tokens → Bool} → Looks b → (ts : Tokens) → (b ts ≡ true → Steps P p before spell ts) → Steps P q before spell ts → Steps P (λ l. cond (b l) (p l) (q l)) before spell ts
seen_steps {p = p} {q = q} {b = b} looks ts one two =
    elim (cases_Bool (b ts)) [
      | inl found ↦ let s = one found in record {
        taken = s.taken;
        rest = s.rest;
        is = s.is;
        good = s.good;
        answer = s.answer;
        same = λ other h. chosen_true (b (s.taken ++ other)) _ _ (seen_again looks ts s other h ∙ found) ∙ s.same other h;
        stands = s.stands;
        begun = s.begun;
      }
      | inr unseen ↦ let s = two in record {
        taken = s.taken;
        rest = s.rest;
        is = s.is;
        good = s.good;
        answer = s.answer;
        same = λ other h. chosen_false (b (s.taken ++ other)) _ _ (seen_again looks ts s other h ∙ unseen) ∙ s.same other h;
        stands = s.stands;
        begun = s.begun;
      }
    ]

-- a choice by the next token, if the first parser is called only on tokens that pass
pub seen : {A : Type 0} {P : A → Type 0} {p q : Parser A} {before : List Token} {spell : A → List Token} {b : Tokens → Bool} → Looks b → ((ts : Tokens) → b ts ≡ true → Steps P p before spell ts) → Parses P q before spell → Parses P (λ ts. cond (b ts) (p ts) (q ts)) before spell
seen looks one two = record { steps = λ ts. seen_steps looks ts (one ts) (two.steps ts) }

pub if_seen : {A : Type 0} {P : A → Type 0} {p q : Parser A} {before : List Token} {spell : A → List Token} {b : Tokens → Bool} → Looks b → Parses P p before spell → Parses P q before spell → Parses P (λ ts. cond (b ts) (p ts) (q ts)) before spell
if_seen looks one two = seen looks (λ ts found. one.steps ts) two

pub past : {A : Type 0} {P : A → Type 0} {before : List Token} {spell : A → List Token} (ts : Tokens) → is_taken (first ts).token ≡ true → Filled P spell before → Steps P (past_limit {A = A}) before spell ts
past {P = P} {before = before} {spell = spell} ts h some = record {
  taken = [];
  rest = ts;
  is = refl;
  good = All-nil IsTaken;
  answer = Err (faults.Limit (position ts));
  same = λ other h. ap (λ (t : Placed). Err (faults.Limit t.at)) h;
  stands = inr (refl, grammar_at (first ts).token (first ts).at h);
  begun = here_begun P spell before (Err (faults.Limit (position ts))) some;
}

-- an item that begins is past the limit
pub if_past : {A : Type 0} {P : A → Type 0} {q : Parser A} {before : List Token} {spell : A → List Token} {b : Tokens → Bool} → Looks b → Filled P spell before → Parses P q before spell → Parses P (λ ts. cond (b ts) (past_limit ts) (q ts)) before spell
if_past looks some two = seen looks (λ ts found. past ts (looks.passes ts found) some) two

is_fixed_taken : (symbol : Symbol) (token : Token) → is_fixed symbol token ≡ true → is_taken token ≡ true
is_fixed_taken symbol (Fixed found) e = refl
is_fixed_taken symbol (Numbered numbering n) e = refl
is_fixed_taken symbol (Word name) e = refl
is_fixed_taken symbol (Region name) e = refl
is_fixed_taken symbol NotAscii e = absurd cc
is_fixed_taken symbol Stray e = absurd cc
is_fixed_taken symbol End e = absurd cc

number_taken : (k : Numbering) (token : Token) → is_some (number_in k token) ≡ true → is_taken token ≡ true
number_taken k (Fixed found) e = refl
number_taken k (Numbered numbering n) e = refl
number_taken k (Word name) e = refl
number_taken k (Region name) e = refl
number_taken k NotAscii e = absurd cc
number_taken k Stray e = absurd cc
number_taken k End e = absurd cc

word_taken : (token : Token) → is_some (word_in token) ≡ true → is_taken token ≡ true
word_taken (Fixed found) e = refl
word_taken (Numbered numbering n) e = refl
word_taken (Word name) e = refl
word_taken (Region name) e = refl
word_taken NotAscii e = absurd cc
word_taken Stray e = absurd cc
word_taken End e = absurd cc

region_taken : (token : Token) → is_some (region_in token) ≡ true → is_taken token ≡ true
region_taken (Fixed found) e = refl
region_taken (Numbered numbering n) e = refl
region_taken (Word name) e = refl
region_taken (Region name) e = refl
region_taken NotAscii e = absurd cc
region_taken Stray e = absurd cc
region_taken End e = absurd cc

pub symbol_looks : (symbol : Symbol) → Looks (sees symbol)
unfolding sees
symbol_looks symbol = record { same = λ ts other h. ap (λ (t : Placed). is_fixed symbol t.token) h; passes = λ ts e. is_fixed_taken symbol (first ts).token e }

pub numbered_looks : (k : Numbering) → Looks (sees_numbered k)
unfolding sees_numbered
numbered_looks k = record { same = λ ts other h. ap (λ (t : Placed). is_some (number_in k t.token)) h; passes = λ ts e. number_taken k (first ts).token e }

pub word_looks : Looks sees_word
unfolding sees_word
word_looks = record { same = λ ts other h. ap (λ (t : Placed). is_some (word_in t.token)) h; passes = λ ts e. word_taken (first ts).token e }

pub region_looks : Looks sees_region
unfolding sees_region
region_looks = record { same = λ ts other h. ap (λ (t : Placed). is_some (region_in t.token)) h; passes = λ ts e. region_taken (first ts).token e }

either_true : (b c : Bool) → b || c ≡ true → (b ≡ true) ⊎ (c ≡ true)
either_true true c e = inl refl
either_true false c e = inr e

pub either_looks : {b c : Tokens → Bool} → Looks b → Looks c → Looks (λ ts. b ts || c ts)
either_looks {b = b} {c = c} one two = record {
  same = λ ts other h. ap (λ x. x || c other) (one.same ts other h) ∙ ap (λ y. b ts || y) (two.same ts other h);
  passes = λ ts e. elim (either_true (b ts) (c ts) e) [
    | inl found ↦ one.passes ts found
    | inr also ↦ two.passes ts also
  ];
}

both_true : (b c : Bool) → b && c ≡ true → c ≡ true
both_true true c e = e
both_true false c e = absurd cc

pub where_looks : {c : Tokens → Bool} (b : Bool) → Looks c → Looks (λ ts. b && c ts)
where_looks {c = c} b two = record { same = λ ts other h. ap (λ y. b && y) (two.same ts other h); passes = λ ts e. two.passes ts (both_true b (c ts) e) }

-- ---- parsers that take one token

-- The parser takes the next token, or its fault is at that token.
pub record TakesOne {A : Type 0} (p : Parser A) (spell : A → List Token) : Type 0 where
  pub read : Placed → Result A Refusal
  pub is : (ts : Tokens) → p ts ≡ with_rest (read (first ts)) (after ts)
  pub stands : (t : Placed) → Stands (read t) t
  pub takes : (t : Placed) (x : A) → read t ≡ Ok x → is_taken t.token ≡ true
  pub spells : (t : Placed) (x : A) → read t ≡ Ok x → spell x ≡ t.token ∷ []
  pub some : A

nothing_read : {A : Type 0} {p : Parser A} {spell : A → List Token} (one : TakesOne p spell) (x : A) → one.read (placed Stray 0) ≡ Ok x → ⊥
nothing_read one x e = let bad : false ≡ true = one.takes (placed Stray 0) x e in absurd cc

-- such a parser reads the same of the same token
read_again : {A : Type 0} {p : Parser A} {spell : A → List Token} (one : TakesOne p spell) (ts : Tokens) (r : Result A Refusal) → one.read (first ts) ≡ r → (other : Tokens) → first other ≡ first ts → p other ≡ with_rest r (after other)
read_again one ts r e other h = one.is other ∙ ap (λ o. with_rest o (after other)) (ap one.read h ∙ e)

one_steps : {A : Type 0} {p : Parser A} {spell : A → List Token} (one : TakesOne p spell) (ts : Tokens) (r : Result A Refusal) → one.read (first ts) ≡ r → Steps Any p [] spell ts
one_steps {spell = spell} one ts (Err e) is = record {
  taken = [];
  rest = ts;
  is = refl;
  good = All-nil IsTaken;
  answer = Err e;
  same = read_again one ts (Err e) is;
  stands = subst (λ o. Stands o (first ts)) is (one.stands (first ts));
  begun = (one.some, tt, spell one.some, refl);
}
one_steps one [] (Ok x) is = absurd (nothing_read one x is)
one_steps one (t ∷ ts) (Ok x) is = record {
  taken = t ∷ [];
  rest = ts;
  is = refl;
  good = All-cons IsTaken t [] (one.takes t x is) (All-nil IsTaken);
  answer = Ok x;
  same = λ other h. read_again one (t ∷ ts) (Ok x) is (t ∷ other) refl;
  stands = tt;
  begun = (tt, one.spells t x is);
}

pub one_parses : {A : Type 0} {p : Parser A} {spell : A → List Token} → TakesOne p spell → Parses Any p [] spell
one_parses one = record { steps = λ ts. one_steps one ts (one.read (first ts)) refl }

-- After a token at this place the parser goes on, or fails at that place.
pub data Checked {A : Type 0} (Q : A → Type 0) (p : Parser A) (at : ℕ) (before : List Token) (spell : A → List Token) : Type 0 where
  goes_on : Parses Q p before spell → Checked Q p at before spell
  fails : ((ts : Tokens) → p ts ≡ Err (faults.Grammar at)) → Checked Q p at before spell

checked_steps : {A B : Type 0} {Q : B → Type 0} {p : Parser A} {S : A → List Token} {U : B → List Token} (some : (x : B) × Q x) (q : ℕ → A → Parser B) (one : TakesOne p S) (ts : Tokens) (r : Result A Refusal) → one.read (first ts) ≡ r → ((at : ℕ) (x : A) → Checked Q (q at x) at (S x) U)
    → Steps Q (λ l. and_then (p l) (q (position l))) [] U ts
checked_steps {Q = Q} {U = U} some q one ts (Err e) is next = record {
  taken = [];
  rest = ts;
  is = refl;
  good = All-nil IsTaken;
  answer = Err e;
  same = λ other h. ap (λ o. and_then o (q (position other))) (read_again one ts (Err e) is other h);
  stands = subst (λ o. Stands o (first ts)) is (one.stands (first ts));
  begun = (some.0, some.1, U some.0, refl);
}
checked_steps some q one [] (Ok x) is next = absurd (nothing_read one x is)
checked_steps {Q = Q} {U = U} some q one (t ∷ ts) (Ok x) is next =
    elim (next t.at x) [
      | goes_on good ↦ let s = good.steps ts in record {
        taken = t ∷ s.taken;
        rest = s.rest;
        is = ap (λ (l : Tokens). t ∷ l) s.is;
        good = All-cons IsTaken t s.taken (one.takes t x is) s.good;
        answer = s.answer;
        same = λ other h. ap (λ o. and_then o (q t.at)) (read_again one (t ∷ ts) (Ok x) is (t ∷ (s.taken ++ other)) refl) ∙ s.same other h;
        stands = s.stands;
        begun = subst (λ (l : List Token). Begun Q U (l ++ kinds s.taken) s.answer) (one.spells t x is) s.begun;
      }
      | fails bad ↦ record {
        taken = [];
        rest = t ∷ ts;
        is = refl;
        good = All-nil IsTaken;
        answer = Err (faults.Grammar t.at);
        same = λ other h.
            ap (λ o. and_then o (q (position other))) (read_again one (t ∷ ts) (Ok x) is other h)
            ∙ ap (λ (u : Placed). q u.at x (after other)) h
            ∙ bad (after other);
        stands = inl (sym (grammar_at t.token t.at (one.takes t x is)));
        begun = (some.0, some.1, U some.0, refl);
      }
    ]

-- one token is read, and then the parser goes on or fails at that token
pub checked : {A B : Type 0} {Q : B → Type 0} {p : Parser A} {q : ℕ → A → Parser B} {S : A → List Token} {U : B → List Token} (some : (x : B) × Q x) → TakesOne p S → ((at : ℕ) (x : A) → Checked Q (q at x) at (S x) U) → Parses Q (λ ts. and_then (p ts) (q (position ts))) [] U
checked {q = q} some one next = record { steps = λ ts. checked_steps some q one ts (one.read (first ts)) refl next }

-- a side condition
pub tried : {A : Type 0} {Q : A → Type 0} {p : Parser A} {before : List Token} {spell : A → List Token} (at : ℕ) (b : Bool) → (b ≡ true → Parses Q p before spell) → Checked Q (cond b p (fail at)) at before spell
tried at true l = goes_on (l refl)
tried at false l = fails (λ ts. refl)

-- ---- the primitives

expected : {A : Type 0} (b : Bool) (x : A) (e : Refusal) (rest : Tokens) → cond b (Ok (x, rest)) (Err e) ≡ with_rest (cond b (Ok x) (Err e)) rest
expected true x e rest = refl
expected false x e rest = refl

abbrev done : Result (Unit {0}) Refusal
done = Ok tt

expect_stands : (b : Bool) (t : Placed) → Stands (cond b done (Err (fault_at t.token t.at))) t
expect_stands true t = tt
expect_stands false t = inl refl

expect_takes : (b : Bool) (e : Refusal) (x : Unit {0}) → cond b done (Err e) ≡ Ok x → b ≡ true
expect_takes true e x h = refl
expect_takes false e x h = absurd cc

expect_one : (symbol : Symbol) → TakesOne (expect symbol) (λ _. Fixed symbol ∷ [])
unfolding expect sees fault
expect_one symbol = record {
  read = λ t. cond (is_fixed symbol t.token) done (Err (fault_at t.token t.at));
  is = λ ts. expected (sees symbol ts) tt (fault ts) (after ts);
  stands = λ t. expect_stands (is_fixed symbol t.token) t;
  takes = λ t x h. is_fixed_taken symbol t.token (expect_takes (is_fixed symbol t.token) (fault_at t.token t.at) x h);
  spells = λ t x h. let b = sees_takes symbol (t ∷ []) (expect_takes (is_fixed symbol t.token) (fault_at t.token t.at) x h) in ap (λ k. k ∷ []) (sym b.0);
  some = tt;
}

pub expects : (symbol : Symbol) → Parses Any (expect symbol) [] (λ _. Fixed symbol ∷ [])
expects symbol = one_parses (expect_one symbol)

-- what is found in a token, if it is within its limit
abbrev within : {A : Type 0} → (A → Bool) → Option A → Placed → Result A Refusal
within passes None t = Err (fault_at t.token t.at)
within passes (Some x) t = cond (passes x) (Ok x) (Err (faults.Limit t.at))

within_stands : {A : Type 0} (passes : A → Bool) (found : Option A) (t : Placed) → (is_some found ≡ true → is_taken t.token ≡ true) → Stands (within passes found t) t
within_stands passes None t h = inl refl
within_stands passes (Some x) t h = limit_stands (passes x) x t (h refl)
  where
    limit_stands : {A : Type 0} (b : Bool) (x : A) (t : Placed) → is_taken t.token ≡ true → Stands (cond b (Ok x) (Err (faults.Limit t.at))) t
    limit_stands true x t h = tt
    limit_stands false x t h = inr (refl, grammar_at t.token t.at h)

within_takes : {A : Type 0} (passes : A → Bool) (found : Option A) (t : Placed) (x : A) → within passes found t ≡ Ok x → found ≡ Some x
within_takes passes None t x e = absurd cc
within_takes passes (Some y) t x e = passed (passes y) y x t e
  where
    passed : {A : Type 0} (b : Bool) (y x : A) (t : Placed) → cond b (Ok y) (Err (faults.Limit t.at)) ≡ Ok x → Some y ≡ Some x
    passed true y x t e = let is : y ≡ x = cc in ap Some is
    passed false y x t e = absurd cc

found_one : {A : Type 0} {p : Parser A} {spell : A → List Token} (some : A) (passes : A → Bool) (find : Token → Option A) → ((token : Token) → is_some (find token) ≡ true → is_taken token ≡ true)
    → ((token : Token) (x : A) → find token ≡ Some x → spell x ≡ token ∷ []) → ((ts : Tokens) → p ts ≡ with_rest (within passes (find (first ts).token) (first ts)) (after ts)) → TakesOne p spell
found_one some passes find taken spells is = record {
  read = λ t. within passes (find t.token) t;
  is = is;
  stands = λ t. within_stands passes (find t.token) t (taken t.token);
  takes = λ t x e. taken t.token (ap is_some (within_takes passes (find t.token) t x e));
  spells = λ t x e. spells t.token x (within_takes passes (find t.token) t x e);
  some = some;
}

numbered_is : (limit : ℕ) (found : Option ℕ) (ts : Tokens) → numbered_to limit found ts ≡ with_rest (within (λ n. nat_le n limit) found (first ts)) (after ts)
unfolding fault
numbered_is limit None ts = refl
numbered_is limit (Some n) ts = expected (nat_le n limit) n (faults.Limit (position ts)) (after ts)

name_is : (limit : ℕ) (found : Option (List ℕ)) (ts : Tokens) → name_to limit found ts ≡ with_rest (within (λ (n : List ℕ). nat_le (length n) limit) found (first ts)) (after ts)
unfolding fault
name_is limit None ts = refl
name_is limit (Some n) ts = expected (nat_le (length n) limit) n (faults.Limit (position ts)) (after ts)

number_spells : (k : Numbering) (token : Token) (n : ℕ) → number_in k token ≡ Some n → Numbered k n ∷ [] ≡ token ∷ []
unfolding numbered
number_spells k token n e =
    let le : n ≤ n = omega arith in
    let reads : numbered k n (placed token 0 ∷ []) ≡ Ok (n, []) = ap (λ o. numbered_to n o (placed token 0 ∷ [])) e ∙ rw (le-leb n n le) refl in
    ap (λ u. u ∷ []) (sym (numbered_takes k n (placed token 0 ∷ []) (n, []) reads).0.0)

region_spells : (token : Token) (name : List ℕ) → region_in token ≡ Some name → Region name ∷ [] ≡ token ∷ []
region_spells (Region found) name e = let is : found ≡ name = cc in ap (λ (l : List ℕ). Region l ∷ []) (sym is)
region_spells (Fixed symbol) name e = absurd cc
region_spells (Numbered k n) name e = absurd cc
region_spells (Word found) name e = absurd cc
region_spells NotAscii name e = absurd cc
region_spells Stray name e = absurd cc
region_spells End name e = absurd cc

word_spells : (token : Token) (name : List ℕ) → word_in token ≡ Some name → Word name ∷ [] ≡ token ∷ []
word_spells (Word found) name e = let is : found ≡ name = cc in ap (λ (l : List ℕ). Word l ∷ []) (sym is)
word_spells (Fixed symbol) name e = absurd cc
word_spells (Numbered k n) name e = absurd cc
word_spells (Region found) name e = absurd cc
word_spells NotAscii name e = absurd cc
word_spells Stray name e = absurd cc
word_spells End name e = absurd cc

pub numbered_one : (k : Numbering) (limit : ℕ) → TakesOne (numbered k limit) (λ m. Numbered k m ∷ [])
unfolding numbered
numbered_one k limit = found_one 0 (λ n. nat_le n limit) (number_in k) (number_taken k) (number_spells k) (λ ts. numbered_is limit (number_in k (first ts).token) ts)

pub region_name_one : TakesOne region_name (λ (l : List ℕ). Region l ∷ [])
unfolding region_name
region_name_one = found_one [] (λ (n : List ℕ). nat_le (length n) 16) region_in region_taken region_spells (λ ts. name_is 16 (region_in (first ts).token) ts)

pub word_one : TakesOne word (λ (l : List ℕ). Word l ∷ [])
unfolding word
word_one = found_one [] (λ (n : List ℕ). nat_le (length n) 32) word_in word_taken word_spells (λ ts. name_is 32 (word_in (first ts).token) ts)

pub numbers : (k : Numbering) (limit : ℕ) → Parses Any (numbered k limit) [] (λ m. Numbered k m ∷ [])
numbers k limit = one_parses (numbered_one k limit)

abbrev pub eaten : Symbol → Bool → List Token
eaten symbol b = cond b (Fixed symbol ∷ []) []

eat_steps : (symbol : Symbol) (ts : Tokens) (b : Bool) → sees symbol ts ≡ b → Steps Any (eat symbol) [] (eaten symbol) ts
unfolding sees after_symbol
eat_steps symbol ts false e = record {
  taken = [];
  rest = ts;
  is = refl;
  good = All-nil IsTaken;
  answer = Ok false;
  same = λ other h. let unseen : sees symbol other ≡ false = ap (λ (t : Placed). is_fixed symbol t.token) h ∙ e in rw unseen refl;
  stands = tt;
  begun = (tt, refl);
}
eat_steps symbol [] true e = absurd cc
eat_steps symbol (t ∷ ts) true e = record {
  taken = t ∷ [];
  rest = ts;
  is = refl;
  good = All-cons IsTaken t [] (is_fixed_taken symbol t.token e) (All-nil IsTaken);
  answer = Ok true;
  same = λ other h. rw e refl;
  stands = tt;
  begun = (tt, ap (λ k. k ∷ []) (sym (sees_takes symbol (t ∷ ts) e).0));
}

pub eats : (symbol : Symbol) → Parses Any (eat symbol) [] (eaten symbol)
eats symbol = record { steps = λ ts. eat_steps symbol ts (sees symbol ts) refl }

either : {A : Type 0} {P : A → Type 0} {p q : Parser A} {before : List Token} {spell : A → List Token} (symbol : Symbol) (b : Bool) → Parses P p (before ++ Fixed symbol ∷ []) spell → Parses P q before spell → Parses P (cond b p q) (before ++ eaten symbol b) spell
either symbol true one two = one
either {before = before} symbol false one two = moved (sym (append-nil before)) two

-- a choice by an optional symbol
pub optional : {A : Type 0} {P : A → Type 0} {p q : Parser A} {before : List Token} {spell : A → List Token} (symbol : Symbol) → Parses P p (before ++ Fixed symbol ∷ []) spell → Parses P q before spell → Parses P (eat symbol >>= λ found. cond found p q) before spell
optional symbol one two = then (eats symbol) (λ found _. either symbol found one two)

end_steps : (ts : Tokens) (b : Bool) → is_end (first ts).token ≡ b → Steps Any at_end [] (λ _. []) ts
unfolding at_end fault
end_steps ts true e = record {
  taken = [];
  rest = ts;
  is = refl;
  good = All-nil IsTaken;
  answer = Ok tt;
  same = λ other h. chosen_true (is_end (first other).token) _ _ (ap (λ (t : Placed). is_end t.token) h ∙ e);
  stands = tt;
  begun = (tt, refl);
}
end_steps ts false e = record {
  taken = [];
  rest = ts;
  is = refl;
  good = All-nil IsTaken;
  answer = Err (fault ts);
  same = λ other h. chosen_false (is_end (first other).token) _ _ (ap (λ (t : Placed). is_end t.token) h ∙ e) ∙ ap (λ (t : Placed). Err (fault_at t.token t.at)) h;
  stands = inl refl;
  begun = (tt, tt, [], refl);
}

pub ends : Parses Any at_end [] (λ _. [])
ends = record { steps = λ ts. end_steps ts (is_end (first ts).token) refl }

-- ---- lists

abbrev lead : {A : Type 0} → (A → List Token) → List A → List Token
lead spell [] = []
lead spell (x ∷ xs) = commas spell (x ∷ xs) ++ Fixed Comma ∷ []

pub one_more : {A : Type 0} (spell : A → List Token) (xs : List A) (x : A) → flat_map spell (xs ++ x ∷ []) ≡ flat_map spell xs ++ spell x
one_more spell xs x = flat_map-append spell xs (x ∷ []) ∙ ap (λ (l : List Token). flat_map spell xs ++ l) (flat_map-cons spell x [] ∙ append-nil (spell x))

commas_more : {A : Type 0} (spell : A → List Token) (xs : List A) (x : A) → commas spell (xs ++ x ∷ []) ≡ lead spell xs ++ spell x
commas_more spell [] x = append-nil (spell x)
commas_more spell (y ∷ xs) x =
    ap (λ (l : List Token). spell y ++ l) (one_more (λ z. Fixed Comma ∷ spell z) xs x)
    ∙ sym (append_assoc (spell y) (behind_commas spell xs) (Fixed Comma ∷ spell x))
    ∙ sym (append_assoc (commas spell (y ∷ xs)) (Fixed Comma ∷ []) (spell x))

lead_more : {A : Type 0} (spell : A → List Token) (xs : List A) (x : A) → lead spell (xs ++ x ∷ []) ≡ (lead spell xs ++ spell x) ++ Fixed Comma ∷ []
lead_more spell [] x = ap (λ (l : List Token). l ++ Fixed Comma ∷ []) (commas_more spell [] x)
lead_more spell (y ∷ xs) x = ap (λ (l : List Token). l ++ Fixed Comma ∷ []) (commas_more spell (y ∷ xs) x)

-- the list has an item
abbrev pub HasItem : {A : Type 0} → List A → Type 0
HasItem {A} xs = (x : A) × (rest : List A) × (xs ≡ x ∷ rest)

has_item : {A : Type 0} (xs : List A) (x : A) → HasItem (xs ++ x ∷ [])
has_item [] x = (x, [], refl)
has_item (y ∷ xs) x = (y, xs ++ x ∷ [], refl)

-- the list has an item, and each has the property
abbrev pub Listed : {A : Type 0} → (A → Type 0) → List A → Type 0
Listed P xs = HasItem xs × All P xs

pub all_and : {A : Type 0} (P : A → Type 0) (xs : List A) (x : A) → All P xs → P x → All P (xs ++ x ∷ [])
all_and P xs x all one = All-append P xs (x ∷ []) all (All-cons P x [] one (All-nil P))

module _ {A : Type 0} {begins : Tokens → Bool} (looks : Looks begins) {spell : A → List Token} {P : A → Type 0} where
  module _ {item : List A → Parser A} (items : (found : List A) → Parses P (item found) [] spell) where
    pub separated : (room : ℕ) (found : List A) → All P found → Parses (Listed P) (declared_from begins item room found) (lead spell found) (commas spell)
    unfolding declared_from declared_turn
    separated zero found all =
        let one = filled (items found) in
        let some : Filled (Listed P) (commas spell) (lead spell found) = (found ++ one.0 ∷ [], (has_item found one.0, all_and P found one.0 all one.1), spell one.0, commas_more spell found one.0) in
        if_past looks some (refuses some)
    separated (suc room) found all =
        then (items found) (λ x h. optional Comma (moved (lead_more spell found x) (separated room (found ++ x ∷ []) (all_and P found x all h))) (gives (found ++ x ∷ []) (has_item found x, all_and P found x all h) (commas_more spell found x)))

    pub closed : (limit : ℕ) (close : Symbol) → Parses (Listed P) (declared_until begins item limit close) [] (λ xs. commas spell xs ++ Fixed close ∷ [])
    closed limit close = then (separated limit [] (All-nil P)) (λ xs h. then (expects close) (λ _ _. gives xs h refl))

    angled_is : (xs : List A) → Listed P xs → angled spell xs ≡ Fixed Less ∷ (commas spell xs ++ Fixed Greater ∷ [])
    angled_is [] h = let none = h.0.2 in absurd cc
    angled_is (x ∷ xs) h = refl

    pub in_angles : (limit : ℕ) → Parses Any (declared_list begins item limit) [] (angled spell)
    unfolding declared_list
    in_angles limit = optional Less (behind (closed limit Greater) angled_is) (gives [] tt refl)

  module _ {item : Parser A} (law : Parses P item [] spell) where
    items_alike : (found : List A) → Parses P (alike item found) [] spell
    unfolding alike
    items_alike found = law

    pub alike_in_angles : (limit : ℕ) → Parses Any (declared_list begins (alike item) limit) [] (angled spell)
    alike_in_angles limit = in_angles items_alike limit

    pub alike_closed : (limit : ℕ) (close : Symbol) → Parses (All P) (closed_list begins item limit close) [] (λ xs. commas spell xs ++ Fixed close ∷ [])
    unfolding closed_list
    alike_closed limit close = optional close (gives [] (All-nil P) refl) (behind_so (closed items_alike limit close) (λ xs h. h.1) (λ xs h. refl))

    pub alike_opened : (limit : ℕ) (opening : Symbol) (U : List A → List Token) → U [] ≡ [] → ((x : A) (xs : List A) → U (x ∷ xs) ≡ Fixed opening ∷ commas spell (x ∷ xs)) → Parses Any (opened_list begins item limit opening) [] U
    unfolding opened_list
    alike_opened limit opening U none some = optional opening (behind (separated items_alike limit [] (All-nil P)) (λ xs h. ap U h.0.2 ∙ some h.0.0 h.0.1 ∙ ap (λ (l : List A). Fixed opening ∷ commas spell l) (sym h.0.2))) (gives [] tt none)
