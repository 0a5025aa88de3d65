-- Tokens are read as a statement or a terminator exactly if they spell it.
use Rattle.std.proofs.Common.{◌≡◌, ℕ, ◌+◌, ◌≤◌, true, false, List, [], ◌∷◌, ◌++◌, length, Ok, refl, sym, ap, ◌∙◌, subst, inl, inr}
use Rattle.std.specs.Prelude.{Bool}
use Rattle.std.specs.List.{flat_map}
use Rattle.std.proofs.lemmas.Bool.{leb-true, le-leb, and_from, and_parts}
use Rattle.std.proofs.lemmas.List.{append-nil}
use Rattle.bc_syntax.specs.declared.symbol.Symbol.{Symbol}
use Rattle.bc_syntax.specs.declared.symbol.Symbol.TheVariants as s
use Rattle.bc_syntax.specs.declared.numbering.Numbering.TheVariants as n
use Rattle.bc_text.specs.declared.points.Point.{Point}
use Rattle.bc_text.specs.declared.points.Point.TheVariants as point_kinds
use Rattle.bc_syntax.specs.declared.syntax.Region.{Region}
use Rattle.bc_syntax.specs.declared.syntax.RegionName.{RegionName}
use Rattle.bc_syntax.specs.declared.syntax.Place.{Place}
use Rattle.bc_syntax.specs.declared.syntax.Operand.{Operand}
use Rattle.bc_syntax.specs.declared.syntax.Operand.TheVariants as o
use Rattle.bc_syntax.specs.declared.syntax.Borrow.{Borrow}
use Rattle.bc_syntax.specs.declared.syntax.Aggregate.{Aggregate}
use Rattle.bc_syntax.specs.declared.syntax.Creation.{Creation}
use Rattle.bc_syntax.specs.declared.syntax.Rvalue.{Rvalue}
use Rattle.bc_syntax.specs.declared.syntax.Rvalue.TheVariants as r
use Rattle.bc_syntax.specs.declared.syntax.Assignment.{Assignment}
use Rattle.bc_syntax.specs.declared.syntax.Statement.{Statement}
use Rattle.bc_syntax.specs.declared.syntax.Statement.TheVariants as st
use Rattle.bc_syntax.specs.declared.syntax.Condition.{Condition}
use Rattle.bc_syntax.specs.declared.syntax.Call.{Call}
use Rattle.bc_syntax.specs.declared.syntax.Invocation.{Invocation}
use Rattle.bc_syntax.specs.declared.syntax.Terminator.{Terminator}
use Rattle.bc_syntax.specs.declared.syntax.Terminator.TheVariants as t
use Rattle.bc_syntax.specs.Symbol.{same}
use Rattle.bc_syntax.specs.Fits.{instance_fits, closure_fits, regions_fit, reference_fits, place_fits, operand_fits, operands_fit, borrow_fits, aggregate_fits, creation_fits, rvalue_fits, statement_fits, condition_fits, call_fits, invocation_fits, terminator_fits}
use Rattle.bc_syntax.specs.Token.{Token, Fixed, Numbered, Word}
use Rattle.bc_tokens.specs.Token.{Tokens}
use Rattle.bc_tokens.specs.Parser.{Outcome, and_then, sees, sees_word, sees_numbered, is_fixed, after, expect, pure, angled_list}
use Rattle.bc_text.specs.Reading as read
use Rattle.bc_syntax.specs.Spelling as spell
use Rattle.bc_text.proofs.Begins.{Begins, join, split, bind_ok, ok_is, chosen, eaten, eat_again, eat_other, expect_takes, expect_again, numbered_takes, numbered_again, sees_none, no_symbol, sees_numbered_same, sees_word_same, sees_word_none}
use Rattle.bc_text.proofs.NameLaws.{Declares, NoLess, arguments_take, arguments_again, instance_takes, instance_again, closure_takes, closure_again}
use Rattle.bc_text.proofs.TypeLaws.{reference_takes, reference_again}
use Rattle.bc_text.proofs.PlaceLaws.{NoDot, local_takes, local_again, place_takes, place_again, operand_takes, operand_again, operands_take, operands_again}

-- ---- labels

label_takes : (ts : Tokens) (y : ℕ × Tokens) → read.label ts ≡ Ok y → Begins ts (spell.label y.0) y.1 × (y.0 ≤ 255)
unfolding read.label
label_takes ts y e = numbered_takes n.Label 255 ts y e

label_again : (ts : Tokens) (l : ℕ) (rest : Tokens) → Begins ts (spell.label l) rest → l ≤ 255 → read.label ts ≡ Ok (l, rest)
unfolding read.label
label_again ts l rest p le = numbered_again n.Label 255 ts l rest p le

-- a label does not continue a place
label_ends : (l : ℕ) (ts : Tokens) (x : List Token) (rest : Tokens) → Begins ts (spell.label l ++ x) rest → NoDot ts
unfolding same
label_ends l ts x rest p = sees_none s.Dot ts (Numbered n.Label l) x rest p refl

-- ---- what begins an operand

operand_apart : (symbol : Symbol) → is_fixed symbol (Fixed s.Copy) ≡ false → is_fixed symbol (Fixed s.Move) ≡ false → (x : Operand) (l : List Token) (ts rest : Tokens) → Begins ts (spell.operand x ++ l) rest → sees symbol ts ≡ false
operand_apart symbol copies moves (o.Copy p) l ts rest b = sees_none symbol ts (Fixed s.Copy) (spell.place p ++ l) rest b copies
operand_apart symbol copies moves (o.Move p) l ts rest b = sees_none symbol ts (Fixed s.Move) (spell.place p ++ l) rest b moves
operand_apart symbol copies moves (o.Number k) l ts rest b = sees_none symbol ts (Numbered n.Number k) l rest b refl

operand_no_word : (x : Operand) (ts rest : Tokens) → Begins ts (spell.operand x) rest → sees_word ts ≡ false
operand_no_word (o.Copy p) ts rest b = sees_word_none ts (Fixed s.Copy) (spell.place p) rest b refl
operand_no_word (o.Move p) ts rest b = sees_word_none ts (Fixed s.Move) (spell.place p) rest b refl
operand_no_word (o.Number k) ts rest b = sees_word_none ts (Numbered n.Number k) [] rest b refl

-- a word that begins no rvalue
record BeginsNone (word : Symbol) : Type 0 where
  copies : is_fixed word (Fixed s.Copy) ≡ false
  moves : is_fixed word (Fixed s.Move) ≡ false
  borrows : is_fixed word (Fixed s.Ampersand) ≡ false
  closes : is_fixed word (Fixed s.Closure) ≡ false
  calculates : is_fixed word (Fixed s.Calc) ≡ false

-- ---- points that begin with a later word of the production

module _ (regions : List RegionName) (locals : ℕ) where
  past_return : (ts : Tokens) → sees s.Return ts ≡ false → read.point regions locals ts ≡ read.stopping regions locals ts
  unfolding read.point
  past_return ts h = eat_other s.Return (pure (read.ending t.Return)) (read.stopping regions locals) ts h

  past_stop : (ts : Tokens) → sees s.Return ts ≡ false → sees s.Stop ts ≡ false → read.point regions locals ts ≡ read.going regions locals ts
  unfolding read.stopping
  past_stop ts h1 h2 = past_return ts h1 ∙ eat_other s.Stop (pure (read.ending t.Stop)) (read.going regions locals) ts h2

  past_goto : (ts : Tokens) → sees s.Return ts ≡ false → sees s.Stop ts ≡ false → sees s.Goto ts ≡ false → read.point regions locals ts ≡ read.branching regions locals ts
  unfolding read.going
  past_goto ts h1 h2 h3 = past_stop ts h1 h2 ∙ eat_other s.Goto _ (read.branching regions locals) ts h3

  past_if : (ts : Tokens) → sees s.Return ts ≡ false → sees s.Stop ts ≡ false → sees s.Goto ts ≡ false → sees s.If ts ≡ false → read.point regions locals ts ≡ read.statement regions locals ts
  unfolding read.branching
  past_if ts h1 h2 h3 h4 = past_goto ts h1 h2 h3 ∙ eat_other s.If _ (read.statement regions locals) ts h4

  -- a point that begins with a local is an assignment
  pub local_begins : (ts : Tokens) → sees_numbered n.Local ts ≡ true → read.point regions locals ts ≡ read.assignment regions locals ts
  unfolding read.statement read.dropping read.active
  local_begins ts seen =
      past_if ts (no_symbol n.Local s.Return ts seen) (no_symbol n.Local s.Stop ts seen) (no_symbol n.Local s.Goto ts seen) (no_symbol n.Local s.If ts seen)
      ∙ eat_other s.Dead _ (read.dropping regions locals) ts (no_symbol n.Local s.Dead ts seen)
      ∙ eat_other s.Drop _ (read.active regions locals) ts (no_symbol n.Local s.Drop ts seen)
      ∙ eat_other s.Nop _ (read.assignment regions locals) ts (no_symbol n.Local s.Nop ts seen)

module _ (regions : List RegionName) (declares : Declares regions) (locals : ℕ) (few : locals ≤ 256) where
  abbrev count : ℕ
  count = length regions + 1

  -- ---- rvalues

  borrow_takes : (ts : Tokens) (y : Borrow × Tokens) → read.borrow regions locals ts ≡ Ok y → Begins ts (spell.borrow regions y.0) y.1 × (borrow_fits count locals y.0 ≡ true)
  unfolding read.borrow
  borrow_takes ts y e =
      let b = bind_ok (read.reference true regions ts) (λ x rest. and_then (read.place locals rest) (λ p last. Ok (record { reference = x; place = p }, last))) y e in
      let c = bind_ok (read.place locals b.0.1) (λ p last. Ok (record { reference = b.0.0; place = p }, last)) y b.2 in
      let x = reference_takes true regions declares ts b.0 b.1 in
      let p = place_takes locals few b.0.1 c.0 c.1 in
      subst (λ (q : Borrow × Tokens). Begins ts (spell.borrow regions q.0) q.1 × (borrow_fits count locals q.0 ≡ true)) (ok_is (record { reference = b.0.0; place = c.0.0 }, c.0.1) y c.2)
      (join ts (spell.reference regions b.0.0) b.0.1 (spell.place c.0.0) c.0.1 x.0 p.0, and_from (reference_fits true count b.0.0) (place_fits locals c.0.0) x.1 p.1)

  borrow_again : (ts : Tokens) (x : Borrow) (rest : Tokens) → Begins ts (spell.borrow regions x) rest → borrow_fits count locals x ≡ true → NoDot rest → read.borrow regions locals ts ≡ Ok (x, rest)
  unfolding read.borrow same
  borrow_again ts x rest b fits other =
      let a = split ts (spell.reference regions x.reference) (spell.place x.place) rest b in
      let parts = and_parts (reference_fits true count x.reference) (place_fits locals x.place) fits in
      let no_mut = sees_none s.Mut a.0 (Numbered n.Local x.place.local) (flat_map spell.step x.place.projections) rest a.2 refl in
      rw (reference_again true regions declares ts x.reference a.0 a.1 parts.0 no_mut, place_again locals few a.0 x.place rest a.2 parts.1 other) refl

  aggregate_takes : (ts : Tokens) (y : Aggregate × Tokens) → read.aggregate regions locals ts ≡ Ok y → Begins ts (spell.aggregate regions y.0) y.1 × (aggregate_fits count locals y.0 ≡ true)
  unfolding read.aggregate
  aggregate_takes ts y e =
      let b = bind_ok (read.instance true regions ts) (λ i rest. and_then (read.operands locals rest) (λ os last. Ok (record { instance = i; operands = os }, last))) y e in
      let c = bind_ok (read.operands locals b.0.1) (λ os last. Ok (record { instance = b.0.0; operands = os }, last)) y b.2 in
      let i = instance_takes true regions ts b.0 declares b.1 in
      let os = operands_take locals few b.0.1 c.0 c.1 in
      subst (λ (q : Aggregate × Tokens). Begins ts (spell.aggregate regions q.0) q.1 × (aggregate_fits count locals q.0 ≡ true)) (ok_is (record { instance = b.0.0; operands = c.0.0 }, c.0.1) y c.2)
      (join ts (spell.instance regions b.0.0) b.0.1 (spell.operands c.0.0) c.0.1 i.0 os.0, and_from (instance_fits true count b.0.0) (operands_fit locals c.0.0) i.1 os.1)

  -- operands do not begin with `<`
  open_paren : (os : List Operand) (x : List Token) (ts rest : Tokens) → Begins ts (spell.operands os ++ x) rest → NoLess ts
  unfolding same
  open_paren os x ts rest b = sees_none s.Less ts (Fixed s.OpenParen) ((spell.commas spell.operand os ++ spell.symbol s.CloseParen) ++ x) rest b refl

  aggregate_again : (ts : Tokens) (x : Aggregate) (rest : Tokens) → Begins ts (spell.aggregate regions x) rest → aggregate_fits count locals x ≡ true → read.aggregate regions locals ts ≡ Ok (x, rest)
  unfolding read.aggregate same
  aggregate_again ts x rest b fits =
      let a = split ts (spell.instance regions x.instance) (spell.operands x.operands) rest b in
      let parts = and_parts (instance_fits true count x.instance) (operands_fit locals x.operands) fits in
      let no_less = sees_none s.Less a.0 (Fixed s.OpenParen) (spell.commas spell.operand x.operands ++ spell.symbol s.CloseParen) rest a.2 refl in
      rw (instance_again true regions ts x.instance a.0 declares a.1 parts.0 no_less, operands_again locals few a.0 x.operands rest a.2 parts.1) refl

  -- the creation of a closure, after `closure`
  abbrev made_of : Creation → List Token
  made_of x = spell.closure_number regions x.closure ++ spell.operands x.operands

  creation_takes : (ts : Tokens) (y : Creation × Tokens) → read.creation regions locals ts ≡ Ok y → Begins ts (made_of y.0) y.1 × (creation_fits count locals y.0 ≡ true)
  unfolding read.creation
  creation_takes ts y e =
      let b = bind_ok (read.closure_instance regions ts) (λ c rest. and_then (read.operands locals rest) (λ os last. Ok (record { closure = c; operands = os }, last))) y e in
      let c = bind_ok (read.operands locals b.0.1) (λ os last. Ok (record { closure = b.0.0; operands = os }, last)) y b.2 in
      let x = closure_takes regions ts b.0 declares b.1 in
      let os = operands_take locals few b.0.1 c.0 c.1 in
      subst (λ (q : Creation × Tokens). Begins ts (made_of q.0) q.1 × (creation_fits count locals q.0 ≡ true)) (ok_is (record { closure = b.0.0; operands = c.0.0 }, c.0.1) y c.2)
      (join ts (spell.closure_number regions b.0.0) b.0.1 (spell.operands c.0.0) c.0.1 x.0 os.0, and_from (closure_fits true count b.0.0) (operands_fit locals c.0.0) x.1 os.1)

  creation_again : (ts : Tokens) (x : Creation) (rest : Tokens) → Begins ts (made_of x) rest → creation_fits count locals x ≡ true → read.creation regions locals ts ≡ Ok (x, rest)
  unfolding read.creation same
  creation_again ts x rest b fits =
      let a = split ts (spell.closure_number regions x.closure) (spell.operands x.operands) rest b in
      let parts = and_parts (closure_fits true count x.closure) (operands_fit locals x.operands) fits in
      let no_less = sees_none s.Less a.0 (Fixed s.OpenParen) (spell.commas spell.operand x.operands ++ spell.symbol s.CloseParen) rest a.2 refl in
      rw (closure_again regions ts x.closure a.0 declares a.1 parts.0 no_less, operands_again locals few a.0 x.operands rest a.2 parts.1) refl

  abbrev IsRvalue : Tokens → Rvalue × Tokens → Type 0
  IsRvalue ts q = Begins ts (spell.rvalue regions q.0) q.1 × (rvalue_fits count locals q.0 ≡ true)

  captured_takes : (ts : Tokens) (y : Rvalue × Tokens) → read.captured regions locals ts ≡ Ok y → IsRvalue ts y
  unfolding read.captured
  captured_takes ts y e =
      elim (eaten s.Closure (λ rest. and_then (read.creation regions locals rest) (λ c last. Ok (r.Closure c, last))) (λ rest. and_then (read.operand locals rest) (λ x last. Ok (r.Use x, last))) ts y e) [
        | inl p ↦
            let b = bind_ok (read.creation regions locals (after ts)) (λ c last. Ok (r.Closure c, last)) y p.1 in
            let c = creation_takes (after ts) b.0 b.1 in
            subst (IsRvalue ts) (ok_is (r.Closure b.0.0, b.0.1) y b.2) (join ts (spell.symbol s.Closure) (after ts) (made_of b.0.0) b.0.1 p.0 c.0, c.1)
        | inr p ↦
            let b = bind_ok (read.operand locals ts) (λ x last. Ok (r.Use x, last)) y p.1 in
            subst (IsRvalue ts) (ok_is (r.Use b.0.0, b.0.1) y b.2) (operand_takes locals few ts b.0 b.1)
      ]

  created_takes : (ts : Tokens) (y : Rvalue × Tokens) → read.created regions locals ts ≡ Ok y → IsRvalue ts y
  unfolding read.created
  created_takes ts y e =
      elim (chosen (sees_word ts) (and_then (read.aggregate regions locals ts) (λ a last. Ok (r.Aggregate a, last))) (read.captured regions locals ts) (Ok y) e) [
        | inl p ↦
            let b = bind_ok (read.aggregate regions locals ts) (λ a last. Ok (r.Aggregate a, last)) y p.1 in
            subst (IsRvalue ts) (ok_is (r.Aggregate b.0.0, b.0.1) y b.2) (aggregate_takes ts b.0 b.1)
        | inr p ↦ captured_takes ts y p.1
      ]

  computed_takes : (ts : Tokens) (y : Rvalue × Tokens) → read.computed regions locals ts ≡ Ok y → IsRvalue ts y
  unfolding read.computed
  computed_takes ts y e =
      elim (eaten s.Calc (λ rest. and_then (read.operands locals rest) (λ os last. Ok (r.Calc os, last))) (read.created regions locals) ts y e) [
        | inl p ↦
            let b = bind_ok (read.operands locals (after ts)) (λ os last. Ok (r.Calc os, last)) y p.1 in
            let os = operands_take locals few (after ts) b.0 b.1 in
            subst (IsRvalue ts) (ok_is (r.Calc b.0.0, b.0.1) y b.2) (join ts (Fixed s.Calc ∷ []) (after ts) (spell.operands b.0.0) b.0.1 p.0 os.0, os.1)
        | inr p ↦ created_takes ts y p.1
      ]

  rvalue_takes : (ts : Tokens) (y : Rvalue × Tokens) → read.rvalue regions locals ts ≡ Ok y → IsRvalue ts y
  unfolding read.rvalue
  rvalue_takes ts y e =
      elim (eaten s.Ampersand (λ rest. and_then (read.borrow regions locals rest) (λ b last. Ok (r.Borrow b, last))) (read.computed regions locals) ts y e) [
        | inl p ↦
            let b = bind_ok (read.borrow regions locals (after ts)) (λ x last. Ok (r.Borrow x, last)) y p.1 in
            let x = borrow_takes (after ts) b.0 b.1 in
            subst (IsRvalue ts) (ok_is (r.Borrow b.0.0, b.0.1) y b.2) (join ts (Fixed s.Ampersand ∷ []) (after ts) (spell.borrow regions b.0.0) b.0.1 p.0 x.0, x.1)
        | inr p ↦ computed_takes ts y p.1
      ]

  rvalue_again : (ts : Tokens) (v : Rvalue) (rest : Tokens) → Begins ts (spell.rvalue regions v) rest → rvalue_fits count locals v ≡ true → NoDot rest → read.rvalue regions locals ts ≡ Ok (v, rest)
  unfolding read.rvalue read.computed read.created read.captured same
  rvalue_again ts (r.Use x) rest b fits other =
      let text : Begins ts (spell.operand x ++ []) rest = subst (λ (l : List Token). Begins ts l rest) (sym (append-nil (spell.operand x))) b in
      eat_other s.Ampersand _ (read.computed regions locals) ts (operand_apart s.Ampersand refl refl x [] ts rest text)
      ∙ eat_other s.Calc _ (read.created regions locals) ts (operand_apart s.Calc refl refl x [] ts rest text)
      ∙ rw (operand_no_word x ts rest b) (eat_other s.Closure _ _ ts (operand_apart s.Closure refl refl x [] ts rest text) ∙ rw (operand_again locals few ts x rest b fits other) refl)
  rvalue_again ts (r.Borrow x) rest b fits other =
      let a = split ts (Fixed s.Ampersand ∷ []) (spell.borrow regions x) rest b in
      eat_again s.Ampersand _ (read.computed regions locals) ts a.0 a.1 ∙ rw (borrow_again a.0 x rest a.2 fits other) refl
  rvalue_again ts (r.Aggregate x) rest b fits other =
      let tail = spell.angled (spell.region regions) x.instance.regions ++ spell.operands x.operands in
      eat_other s.Ampersand _ (read.computed regions locals) ts (sees_none s.Ampersand ts (Word x.instance.name.bytes) tail rest b refl)
      ∙ eat_other s.Calc _ (read.created regions locals) ts (sees_none s.Calc ts (Word x.instance.name.bytes) tail rest b refl)
      ∙ rw (sees_word_same ts x.instance.name.bytes tail rest b, aggregate_again ts x rest b fits) refl
  rvalue_again ts (r.Closure x) rest b fits other =
      let a = split ts (spell.symbol s.Closure) (made_of x) rest b in
      eat_other s.Ampersand _ (read.computed regions locals) ts (sees_none s.Ampersand ts (Fixed s.Closure) (made_of x) rest b refl)
      ∙ eat_other s.Calc _ (read.created regions locals) ts (sees_none s.Calc ts (Fixed s.Closure) (made_of x) rest b refl)
      ∙ rw (sees_word_none ts (Fixed s.Closure) (made_of x) rest b refl) (eat_again s.Closure _ _ ts a.0 a.1 ∙ rw (creation_again a.0 x rest a.2 fits) refl)
  rvalue_again ts (r.Calc os) rest b fits other =
      let a = split ts (Fixed s.Calc ∷ []) (spell.operands os) rest b in
      eat_other s.Ampersand _ (read.computed regions locals) ts (sees_none s.Ampersand ts (Fixed s.Calc) (spell.operands os) rest b refl)
      ∙ eat_again s.Calc _ (read.created regions locals) ts a.0 a.1 ∙ rw (operands_again locals few a.0 os rest a.2 fits) refl

  no_word : (word : Symbol) → BeginsNone word → (v : Rvalue) (ts rest : Tokens) → Begins ts (spell.rvalue regions v) rest → sees word ts ≡ false
  no_word word none (r.Use x) ts rest b = operand_apart word none.copies none.moves x [] ts rest (subst (λ (l : List Token). Begins ts l rest) (sym (append-nil (spell.operand x))) b)
  no_word word none (r.Borrow x) ts rest b = sees_none word ts (Fixed s.Ampersand) (spell.borrow regions x) rest b none.borrows
  no_word word none (r.Aggregate x) ts rest b = sees_none word ts (Word x.instance.name.bytes) (spell.angled (spell.region regions) x.instance.regions ++ spell.operands x.operands) rest b refl
  no_word word none (r.Closure x) ts rest b = sees_none word ts (Fixed s.Closure) (made_of x) rest b none.closes
  no_word word none (r.Calc os) ts rest b = sees_none word ts (Fixed s.Calc) (spell.operands os) rest b none.calculates

  -- a value does not begin with `call`
  no_call : (v : Rvalue) (ts rest : Tokens) → Begins ts (spell.rvalue regions v) rest → sees s.Call ts ≡ false
  unfolding same
  no_call v ts rest b = no_word s.Call (record { copies = refl; moves = refl; borrows = refl; closes = refl; calculates = refl }) v ts rest b

  no_invoke : (v : Rvalue) (ts rest : Tokens) → Begins ts (spell.rvalue regions v) rest → sees s.Invoke ts ≡ false
  unfolding same
  no_invoke v ts rest b = no_word s.Invoke (record { copies = refl; moves = refl; borrows = refl; closes = refl; calculates = refl }) v ts rest b

  -- ---- calls

  called_takes : (p : Place) (ts : Tokens) (y : Call × Tokens) → read.called regions locals p ts ≡ Ok y → (y.0.destination ≡ p) × Begins ts (spell.called regions y.0) y.1 × (instance_fits true count y.0.function ≡ true) × (operands_fit locals y.0.operands ≡ true) × (y.0.target ≤ 255)
  unfolding read.called
  called_takes p ts y e =
      let b = bind_ok (read.instance true regions ts) (λ i rest. and_then (read.operands locals rest) (λ os mid. and_then (read.label mid) (λ l last. Ok (record { destination = p; function = i; operands = os; target = l }, last)))) y e in
      let c = bind_ok (read.operands locals b.0.1) (λ os mid. and_then (read.label mid) (λ l last. Ok (record { destination = p; function = b.0.0; operands = os; target = l }, last))) y b.2 in
      let d = bind_ok (read.label c.0.1) (λ l last. Ok (record { destination = p; function = b.0.0; operands = c.0.0; target = l }, last)) y c.2 in
      let i = instance_takes true regions ts b.0 declares b.1 in
      let os = operands_take locals few b.0.1 c.0 c.1 in
      let l = label_takes c.0.1 d.0 d.1 in
      let tail = join b.0.1 (spell.operands c.0.0) c.0.1 (spell.label d.0.0) d.0.1 os.0 l.0 in
      subst (λ (q : Call × Tokens). (q.0.destination ≡ p) × Begins ts (spell.called regions q.0) q.1 × (instance_fits true count q.0.function ≡ true) × (operands_fit locals q.0.operands ≡ true) × (q.0.target ≤ 255))
      (ok_is (record { destination = p; function = b.0.0; operands = c.0.0; target = d.0.0 }, d.0.1) y d.2)
      (refl, join ts (spell.instance regions b.0.0) b.0.1 (spell.operands c.0.0 ++ spell.label d.0.0) d.0.1 i.0 tail, i.1, os.1, l.1)

  called_again : (ts : Tokens) (x : Call) (rest : Tokens) → Begins ts (spell.called regions x) rest → instance_fits true count x.function ≡ true → operands_fit locals x.operands ≡ true → x.target ≤ 255 → read.called regions locals x.destination ts ≡ Ok (x, rest)
  unfolding read.called
  called_again ts x rest b i os l =
      let a = split ts (spell.instance regions x.function) (spell.operands x.operands ++ spell.label x.target) rest b in
      let c = split a.0 (spell.operands x.operands) (spell.label x.target) rest a.2 in
      rw (instance_again true regions ts x.function a.0 declares a.1 i (open_paren x.operands (spell.label x.target) a.0 rest a.2), operands_again locals few a.0 x.operands c.0 c.1 os, label_again c.0 x.target rest c.2 l) refl

  -- ---- calls of closures

  abbrev list : Tokens → Outcome (List Region)
  list ts = angled_list (read.begins_region true) (read.region true regions) 15 ts

  invoked_takes : (p : Place) (ts : Tokens) (y : Invocation × Tokens) → read.invoked regions locals p ts ≡ Ok y
      → (y.0.destination ≡ p) × Begins ts (spell.invoked regions y.0) y.1 × (place_fits locals y.0.closure ≡ true) × (regions_fit true count y.0.regions ≡ true) × (operands_fit locals y.0.operands ≡ true) × (y.0.target ≤ 255)
  unfolding read.invoked
  invoked_takes p ts y e =
      let b = bind_ok (read.place locals ts) (λ q rest. and_then (list rest) (λ rs mid. and_then (read.operands locals mid) (λ os late. and_then (read.label late) (λ l last. Ok (record { destination = p; closure = q; regions = rs; operands = os; target = l }, last))))) y e in
      let c = bind_ok (list b.0.1) (λ rs mid. and_then (read.operands locals mid) (λ os late. and_then (read.label late) (λ l last. Ok (record { destination = p; closure = b.0.0; regions = rs; operands = os; target = l }, last)))) y b.2 in
      let d = bind_ok (read.operands locals c.0.1) (λ os late. and_then (read.label late) (λ l last. Ok (record { destination = p; closure = b.0.0; regions = c.0.0; operands = os; target = l }, last))) y c.2 in
      let f = bind_ok (read.label d.0.1) (λ l last. Ok (record { destination = p; closure = b.0.0; regions = c.0.0; operands = d.0.0; target = l }, last)) y d.2 in
      let q = place_takes locals few ts b.0 b.1 in
      let rs = arguments_take true regions b.0.1 c.0 declares c.1 in
      let os = operands_take locals few c.0.1 d.0 d.1 in
      let l = label_takes d.0.1 f.0 f.1 in
      let t2 = join c.0.1 (spell.operands d.0.0) d.0.1 (spell.label f.0.0) f.0.1 os.0 l.0 in
      let t1 = join b.0.1 (spell.angled (spell.region regions) c.0.0) c.0.1 (spell.operands d.0.0 ++ spell.label f.0.0) f.0.1 rs.0 t2 in
      subst (λ (z : Invocation × Tokens). (z.0.destination ≡ p) × Begins ts (spell.invoked regions z.0) z.1 × (place_fits locals z.0.closure ≡ true) × (regions_fit true count z.0.regions ≡ true) × (operands_fit locals z.0.operands ≡ true) × (z.0.target ≤ 255))
      (ok_is (record { destination = p; closure = b.0.0; regions = c.0.0; operands = d.0.0; target = f.0.0 }, f.0.1) y f.2)
      (refl, join ts (spell.place b.0.0) b.0.1 (spell.angled (spell.region regions) c.0.0 ++ (spell.operands d.0.0 ++ spell.label f.0.0)) f.0.1 q.0 t1, q.1, rs.1, os.1, l.1)

  -- no `.` follows the place of a closure
  no_dot : (rs : List Region) (os : List Operand) (x : List Token) (ts rest : Tokens) → Begins ts (spell.angled (spell.region regions) rs ++ (spell.operands os ++ x)) rest → NoDot ts
  unfolding same
  no_dot [] os x ts rest b = sees_none s.Dot ts (Fixed s.OpenParen) ((spell.commas spell.operand os ++ spell.symbol s.CloseParen) ++ x) rest b refl
  no_dot (k ∷ rs) os x ts rest b = sees_none s.Dot ts (Fixed s.Less) ((spell.commas (spell.region regions) (k ∷ rs) ++ spell.symbol s.Greater) ++ (spell.operands os ++ x)) rest b refl

  invoked_again : (ts : Tokens) (x : Invocation) (rest : Tokens) → Begins ts (spell.invoked regions x) rest → place_fits locals x.closure ≡ true → regions_fit true count x.regions ≡ true → operands_fit locals x.operands ≡ true → x.target ≤ 255
      → read.invoked regions locals x.destination ts ≡ Ok (x, rest)
  unfolding read.invoked
  invoked_again ts x rest b q rs os l =
      let tail = spell.operands x.operands ++ spell.label x.target in
      let a = split ts (spell.place x.closure) (spell.angled (spell.region regions) x.regions ++ tail) rest b in
      let c = split a.0 (spell.angled (spell.region regions) x.regions) tail rest a.2 in
      let d = split c.0 (spell.operands x.operands) (spell.label x.target) rest c.2 in
      rw (
        place_again locals few ts x.closure a.0 a.1 q (no_dot x.regions x.operands (spell.label x.target) a.0 rest a.2),
        arguments_again true regions a.0 x.regions c.0 declares c.1 rs (open_paren x.operands (spell.label x.target) c.0 rest c.2),
        operands_again locals few c.0 x.operands d.0 d.1 os,
        label_again d.0 x.target rest d.2 l,
      ) refl

  -- ---- points

  abbrev pub tokens_of : Point → List Token
  tokens_of (point_kinds.Statement x) = spell.statement regions x
  tokens_of (point_kinds.Terminator x) = spell.terminator regions x

  abbrev pub point_fits : Point → Bool
  point_fits (point_kinds.Statement x) = statement_fits count locals x
  point_fits (point_kinds.Terminator x) = terminator_fits count locals x

  abbrev pub IsPoint : Tokens → Point × Tokens → Type 0
  IsPoint ts q = Begins ts (tokens_of q.0) q.1 × (point_fits q.0 ≡ true)

  -- what follows `P =` and is no `call`
  invoking_takes : (ts mid late : Tokens) (p : Place) (y : Point × Tokens) → Begins ts (spell.place p) mid → place_fits locals p ≡ true → Begins mid (spell.symbol s.Equals) late → read.invoking regions locals p late ≡ Ok y → IsPoint ts y
  unfolding read.invoking
  invoking_takes ts mid late p y place_text place_fit equals e =
      elim (eaten s.Invoke (λ rest. and_then (read.invoked regions locals p rest) (λ x last. Ok (read.ending (t.Invoke x), last))) (λ rest. and_then (read.rvalue regions locals rest) (λ v last. Ok (read.assigned p v, last))) late y e) [
        | inl q ↦
            let d = bind_ok (read.invoked regions locals p (after late)) (λ x last. Ok (read.ending (t.Invoke x), last)) y q.1 in
            let x = invoked_takes p (after late) d.0 d.1 in
            let invoked = join late (spell.symbol s.Invoke) (after late) (spell.invoked regions d.0.0) d.0.1 q.0 x.1 in
            let value = join mid (spell.symbol s.Equals) late (spell.symbol s.Invoke ++ spell.invoked regions d.0.0) d.0.1 equals invoked in
            let text : Begins ts (spell.place d.0.0.destination) mid = subst (λ (l : Place). Begins ts (spell.place l) mid) (sym x.0) place_text in
            let fit : place_fits locals d.0.0.destination ≡ true = subst (λ (l : Place). place_fits locals l ≡ true) (sym x.0) place_fit in
            subst (IsPoint ts) (ok_is (read.ending (t.Invoke d.0.0), d.0.1) y d.2) (
              join ts (spell.place d.0.0.destination) mid (spell.symbol s.Equals ++ (spell.symbol s.Invoke ++ spell.invoked regions d.0.0)) d.0.1 text value,
              and_from _ _ (and_from _ _ (and_from _ _ (and_from (place_fits locals d.0.0.destination) (place_fits locals d.0.0.closure) fit x.2) x.3) x.4) (le-leb d.0.0.target 255 x.5),
            )
        | inr q ↦
            let d = bind_ok (read.rvalue regions locals late) (λ v last. Ok (read.assigned p v, last)) y q.1 in
            let v = rvalue_takes late d.0 d.1 in
            let value = join mid (spell.symbol s.Equals) late (spell.rvalue regions d.0.0) d.0.1 equals v.0 in
            subst (IsPoint ts) (ok_is (read.assigned p d.0.0, d.0.1) y d.2)
            (join ts (spell.place p) mid (spell.symbol s.Equals ++ spell.rvalue regions d.0.0) d.0.1 place_text value, and_from (place_fits locals p) (rvalue_fits count locals d.0.0) place_fit v.1)
      ]

  assignment_takes : (ts : Tokens) (y : Point × Tokens) → read.assignment regions locals ts ≡ Ok y → IsPoint ts y
  unfolding read.assignment read.value_of
  assignment_takes ts y e =
      let b = bind_ok (read.place locals ts) (λ p rest. and_then (expect s.Equals rest) (λ _ mid. read.value_of regions locals p mid)) y e in
      let c = bind_ok (expect s.Equals b.0.1) (λ _ mid. read.value_of regions locals b.0.0 mid) y b.2 in
      let p = place_takes locals few ts b.0 b.1 in
      let equals = expect_takes s.Equals b.0.1 c.0 c.1 in
      elim (eaten s.Call (λ rest. and_then (read.called regions locals b.0.0 rest) (λ x last. Ok (read.ending (t.Call x), last))) (read.invoking regions locals b.0.0) c.0.1 y c.2) [
        | inl q ↦
            let d = bind_ok (read.called regions locals b.0.0 (after c.0.1)) (λ x last. Ok (read.ending (t.Call x), last)) y q.1 in
            let x = called_takes b.0.0 (after c.0.1) d.0 d.1 in
            let called = join c.0.1 (spell.symbol s.Call) (after c.0.1) (spell.called regions d.0.0) d.0.1 q.0 x.1 in
            let value = join b.0.1 (spell.symbol s.Equals) c.0.1 (spell.symbol s.Call ++ spell.called regions d.0.0) d.0.1 equals called in
            let place_text : Begins ts (spell.place d.0.0.destination) b.0.1 = subst (λ (l : Place). Begins ts (spell.place l) b.0.1) (sym x.0) p.0 in
            let place_fit : place_fits locals d.0.0.destination ≡ true = subst (λ (l : Place). place_fits locals l ≡ true) (sym x.0) p.1 in
            subst (IsPoint ts) (ok_is (read.ending (t.Call d.0.0), d.0.1) y d.2) (
              join ts (spell.place d.0.0.destination) b.0.1 (spell.symbol s.Equals ++ (spell.symbol s.Call ++ spell.called regions d.0.0)) d.0.1 place_text value,
              and_from _ _ (and_from _ _ (and_from (place_fits locals d.0.0.destination) (instance_fits true count d.0.0.function) place_fit x.2) x.3) (le-leb d.0.0.target 255 x.4),
            )
        | inr q ↦ invoking_takes ts b.0.1 c.0.1 b.0.0 y p.0 p.1 equals q.1
      ]

  active_takes : (ts : Tokens) (y : Point × Tokens) → read.active regions locals ts ≡ Ok y → IsPoint ts y
  unfolding read.active
  active_takes ts y e =
      elim (eaten s.Nop (pure (point_kinds.Statement st.Nop)) (read.assignment regions locals) ts y e) [
        | inl p ↦ subst (IsPoint ts) (ok_is (point_kinds.Statement st.Nop, after ts) y p.1) (p.0, refl)
        | inr p ↦ assignment_takes ts y p.1
      ]

  dropping_takes : (ts : Tokens) (y : Point × Tokens) → read.dropping regions locals ts ≡ Ok y → IsPoint ts y
  unfolding read.dropping
  dropping_takes ts y e =
      elim (eaten s.Drop (λ rest. and_then (read.place locals rest) (λ p last. Ok (point_kinds.Statement (st.Drop p), last))) (read.active regions locals) ts y e) [
        | inl p ↦
            let b = bind_ok (read.place locals (after ts)) (λ x last. Ok (point_kinds.Statement (st.Drop x), last)) y p.1 in
            let x = place_takes locals few (after ts) b.0 b.1 in
            subst (IsPoint ts) (ok_is (point_kinds.Statement (st.Drop b.0.0), b.0.1) y b.2) (join ts (spell.symbol s.Drop) (after ts) (spell.place b.0.0) b.0.1 p.0 x.0, x.1)
        | inr p ↦ active_takes ts y p.1
      ]

  statement_takes : (ts : Tokens) (y : Point × Tokens) → read.statement regions locals ts ≡ Ok y → IsPoint ts y
  unfolding read.statement
  statement_takes ts y e =
      elim (eaten s.Dead (λ rest. and_then (read.local locals rest) (λ l last. Ok (point_kinds.Statement (st.Dead l), last))) (read.dropping regions locals) ts y e) [
        | inl p ↦
            let b = bind_ok (read.local locals (after ts)) (λ x last. Ok (point_kinds.Statement (st.Dead x), last)) y p.1 in
            let x = local_takes locals few (after ts) b.0 b.1 in
            subst (IsPoint ts) (ok_is (point_kinds.Statement (st.Dead b.0.0), b.0.1) y b.2) (join ts (spell.symbol s.Dead) (after ts) (Numbered n.Local b.0.0 ∷ []) b.0.1 p.0 x.0, x.1)
        | inr p ↦ dropping_takes ts y p.1
      ]

  condition_takes : (ts : Tokens) (y : Condition × Tokens) → read.condition locals ts ≡ Ok y → Begins ts (spell.condition y.0) y.1 × (condition_fits locals y.0 ≡ true)
  unfolding read.condition
  condition_takes ts y e =
      let b = bind_ok (read.operand locals ts) (λ x rest. and_then (read.label rest) (λ l mid. and_then (read.label mid) (λ k last. Ok (record { operand = x; then = l; otherwise = k }, last)))) y e in
      let c = bind_ok (read.label b.0.1) (λ l mid. and_then (read.label mid) (λ k last. Ok (record { operand = b.0.0; then = l; otherwise = k }, last))) y b.2 in
      let d = bind_ok (read.label c.0.1) (λ k last. Ok (record { operand = b.0.0; then = c.0.0; otherwise = k }, last)) y c.2 in
      let x = operand_takes locals few ts b.0 b.1 in
      let l = label_takes b.0.1 c.0 c.1 in
      let k = label_takes c.0.1 d.0 d.1 in
      let tail = join b.0.1 (spell.label c.0.0) c.0.1 (spell.label d.0.0) d.0.1 l.0 k.0 in
      subst (λ (q : Condition × Tokens). Begins ts (spell.condition q.0) q.1 × (condition_fits locals q.0 ≡ true)) (ok_is (record { operand = b.0.0; then = c.0.0; otherwise = d.0.0 }, d.0.1) y d.2)
      (join ts (spell.operand b.0.0) b.0.1 (spell.label c.0.0 ++ spell.label d.0.0) d.0.1 x.0 tail, and_from _ _ (and_from (operand_fits locals b.0.0) _ x.1 (le-leb c.0.0 255 l.1)) (le-leb d.0.0 255 k.1))

  branching_takes : (ts : Tokens) (y : Point × Tokens) → read.branching regions locals ts ≡ Ok y → IsPoint ts y
  unfolding read.branching
  branching_takes ts y e =
      elim (eaten s.If (λ rest. and_then (read.condition locals rest) (λ x last. Ok (read.ending (t.If x), last))) (read.statement regions locals) ts y e) [
        | inl p ↦
            let b = bind_ok (read.condition locals (after ts)) (λ x last. Ok (read.ending (t.If x), last)) y p.1 in
            let x = condition_takes (after ts) b.0 b.1 in
            subst (IsPoint ts) (ok_is (read.ending (t.If b.0.0), b.0.1) y b.2) (join ts (spell.symbol s.If) (after ts) (spell.condition b.0.0) b.0.1 p.0 x.0, x.1)
        | inr p ↦ statement_takes ts y p.1
      ]

  going_takes : (ts : Tokens) (y : Point × Tokens) → read.going regions locals ts ≡ Ok y → IsPoint ts y
  unfolding read.going
  going_takes ts y e =
      elim (eaten s.Goto (λ rest. and_then (read.label rest) (λ l last. Ok (read.ending (t.Goto l), last))) (read.branching regions locals) ts y e) [
        | inl p ↦
            let b = bind_ok (read.label (after ts)) (λ l last. Ok (read.ending (t.Goto l), last)) y p.1 in
            let x = label_takes (after ts) b.0 b.1 in
            subst (IsPoint ts) (ok_is (read.ending (t.Goto b.0.0), b.0.1) y b.2) (join ts (spell.symbol s.Goto) (after ts) (spell.label b.0.0) b.0.1 p.0 x.0, le-leb b.0.0 255 x.1)
        | inr p ↦ branching_takes ts y p.1
      ]

  stopping_takes : (ts : Tokens) (y : Point × Tokens) → read.stopping regions locals ts ≡ Ok y → IsPoint ts y
  unfolding read.stopping
  stopping_takes ts y e =
      elim (eaten s.Stop (pure (read.ending t.Stop)) (read.going regions locals) ts y e) [
        | inl p ↦ subst (IsPoint ts) (ok_is (read.ending t.Stop, after ts) y p.1) (p.0, refl)
        | inr p ↦ going_takes ts y p.1
      ]

  pub point_takes : (ts : Tokens) (y : Point × Tokens) → read.point regions locals ts ≡ Ok y → IsPoint ts y
  unfolding read.point
  point_takes ts y e =
      elim (eaten s.Return (pure (read.ending t.Return)) (read.stopping regions locals) ts y e) [
        | inl p ↦ subst (IsPoint ts) (ok_is (read.ending t.Return, after ts) y p.1) (p.0, refl)
        | inr p ↦ stopping_takes ts y p.1
      ]

  -- ---- points

  -- a token that is not `return`, `stop`, `goto` or `if`
  abbrev NoEnd : Token → Type 0
  NoEnd token = (is_fixed s.Return token ≡ false) × (is_fixed s.Stop token ≡ false) × (is_fixed s.Goto token ≡ false) × (is_fixed s.If token ≡ false)

  no_end : (ts : Tokens) (token : Token) (x : List Token) (rest : Tokens) → Begins ts (token ∷ x) rest → NoEnd token → read.point regions locals ts ≡ read.statement regions locals ts
  no_end ts token x rest b h = past_if regions locals ts (sees_none s.Return ts token x rest b h.0) (sees_none s.Stop ts token x rest b h.1) (sees_none s.Goto ts token x rest b h.2) (sees_none s.If ts token x rest b h.3)

  to_assignment : (ts : Tokens) (l : ℕ) (x : List Token) (rest : Tokens) → Begins ts (Numbered n.Local l ∷ x) rest → read.point regions locals ts ≡ read.assignment regions locals ts
  to_assignment ts l x rest b = local_begins regions locals ts (sees_numbered_same n.Local ts l x rest b)

  assign_again : (ts : Tokens) (a : Assignment) (rest : Tokens) → Begins ts (spell.assignment regions a) rest → place_fits locals a.target ≡ true → rvalue_fits count locals a.value ≡ true → NoDot rest
      → read.point regions locals ts ≡ Ok (read.assigned a.target a.value, rest)
  unfolding read.assignment read.value_of read.invoking same
  assign_again ts a rest b place_fit value_fit other =
      let c = split ts (spell.place a.target) (spell.symbol s.Equals ++ spell.rvalue regions a.value) rest b in
      let d = split c.0 (spell.symbol s.Equals) (spell.rvalue regions a.value) rest c.2 in
      let dot = sees_none s.Dot c.0 (Fixed s.Equals) (spell.rvalue regions a.value) rest c.2 refl in
      to_assignment ts a.target.local (flat_map spell.step a.target.projections ++ (spell.symbol s.Equals ++ spell.rvalue regions a.value)) rest b
      ∙ ap (λ q. and_then q (λ p mid. and_then (expect s.Equals mid) (λ _ late. read.value_of regions locals p late))) (place_again locals few ts a.target c.0 c.1 place_fit dot)
      ∙ ap (λ q. and_then q (λ _ late. read.value_of regions locals a.target late)) (expect_again s.Equals c.0 d.0 d.1)
      ∙ eat_other s.Call _ (read.invoking regions locals a.target) d.0 (no_call a.value d.0 rest d.2)
      ∙ eat_other s.Invoke _ _ d.0 (no_invoke a.value d.0 rest d.2)
      ∙ rw (rvalue_again d.0 a.value rest d.2 value_fit other) refl

  call_again : (ts : Tokens) (x : Call) (rest : Tokens) → Begins ts (spell.call regions x) rest → call_fits count locals x ≡ true → read.point regions locals ts ≡ Ok (read.ending (t.Call x), rest)
  unfolding read.assignment read.value_of same
  call_again ts x rest b fits =
      let p3 = and_parts _ _ fits in
      let p2 = and_parts _ (operands_fit locals x.operands) p3.0 in
      let p1 = and_parts (place_fits locals x.destination) (instance_fits true count x.function) p2.0 in
      let c = split ts (spell.place x.destination) (spell.symbol s.Equals ++ (spell.symbol s.Call ++ spell.called regions x)) rest b in
      let d = split c.0 (spell.symbol s.Equals) (spell.symbol s.Call ++ spell.called regions x) rest c.2 in
      let f = split d.0 (spell.symbol s.Call) (spell.called regions x) rest d.2 in
      let dot = sees_none s.Dot c.0 (Fixed s.Equals) (spell.symbol s.Call ++ spell.called regions x) rest c.2 refl in
      to_assignment ts x.destination.local (flat_map spell.step x.destination.projections ++ (spell.symbol s.Equals ++ (spell.symbol s.Call ++ spell.called regions x))) rest b
      ∙ ap (λ q. and_then q (λ p mid. and_then (expect s.Equals mid) (λ _ late. read.value_of regions locals p late))) (place_again locals few ts x.destination c.0 c.1 p1.0 dot)
      ∙ ap (λ q. and_then q (λ _ late. read.value_of regions locals x.destination late)) (expect_again s.Equals c.0 d.0 d.1)
      ∙ eat_again s.Call _ _ d.0 f.0 f.1
      ∙ rw (called_again f.0 x rest f.2 p1.1 p2.1 (leb-true x.target 255 p3.1)) refl

  invocation_again : (ts : Tokens) (x : Invocation) (rest : Tokens) → Begins ts (spell.invocation regions x) rest → invocation_fits count locals x ≡ true → read.point regions locals ts ≡ Ok (read.ending (t.Invoke x), rest)
  unfolding read.assignment read.value_of read.invoking same
  invocation_again ts x rest b fits =
      let p4 = and_parts _ _ fits in
      let p3 = and_parts _ (operands_fit locals x.operands) p4.0 in
      let p2 = and_parts _ (regions_fit true count x.regions) p3.0 in
      let p1 = and_parts (place_fits locals x.destination) (place_fits locals x.closure) p2.0 in
      let tail = spell.symbol s.Invoke ++ spell.invoked regions x in
      let c = split ts (spell.place x.destination) (spell.symbol s.Equals ++ tail) rest b in
      let d = split c.0 (spell.symbol s.Equals) tail rest c.2 in
      let f = split d.0 (spell.symbol s.Invoke) (spell.invoked regions x) rest d.2 in
      let dot = sees_none s.Dot c.0 (Fixed s.Equals) tail rest c.2 refl in
      to_assignment ts x.destination.local (flat_map spell.step x.destination.projections ++ (spell.symbol s.Equals ++ tail)) rest b
      ∙ ap (λ q. and_then q (λ p mid. and_then (expect s.Equals mid) (λ _ late. read.value_of regions locals p late))) (place_again locals few ts x.destination c.0 c.1 p1.0 dot)
      ∙ ap (λ q. and_then q (λ _ late. read.value_of regions locals x.destination late)) (expect_again s.Equals c.0 d.0 d.1)
      ∙ eat_other s.Call _ (read.invoking regions locals x.destination) d.0 (sees_none s.Call d.0 (Fixed s.Invoke) (spell.invoked regions x) rest d.2 refl)
      ∙ eat_again s.Invoke _ _ d.0 f.0 f.1
      ∙ rw (invoked_again f.0 x rest f.2 p1.1 p2.1 p3.1 (leb-true x.target 255 p4.1)) refl

  pub statement_again : (ts : Tokens) (x : Statement) (rest : Tokens) → Begins ts (spell.statement regions x) rest → statement_fits count locals x ≡ true → NoDot rest → read.point regions locals ts ≡ Ok (point_kinds.Statement x, rest)
  unfolding read.statement read.dropping read.active same
  statement_again ts (st.Assign a) rest b fits other =
      let parts = and_parts (place_fits locals a.target) (rvalue_fits count locals a.value) fits in
      assign_again ts a rest b parts.0 parts.1 other
  statement_again ts (st.Dead l) rest b fits other =
      let a = split ts (spell.symbol s.Dead) (Numbered n.Local l ∷ []) rest b in
      no_end ts (Fixed s.Dead) (Numbered n.Local l ∷ []) rest b (refl, refl, refl, refl)
      ∙ eat_again s.Dead _ (read.dropping regions locals) ts a.0 a.1 ∙ rw (local_again locals few a.0 l rest a.2 fits) refl
  statement_again ts (st.Drop p) rest b fits other =
      let a = split ts (spell.symbol s.Drop) (spell.place p) rest b in
      no_end ts (Fixed s.Drop) (spell.place p) rest b (refl, refl, refl, refl)
      ∙ eat_other s.Dead _ (read.dropping regions locals) ts (sees_none s.Dead ts (Fixed s.Drop) (spell.place p) rest b refl)
      ∙ eat_again s.Drop _ (read.active regions locals) ts a.0 a.1 ∙ rw (place_again locals few a.0 p rest a.2 fits other) refl
  statement_again ts st.Nop rest b fits other =
      no_end ts (Fixed s.Nop) [] rest b (refl, refl, refl, refl)
      ∙ eat_other s.Dead _ (read.dropping regions locals) ts (sees_none s.Dead ts (Fixed s.Nop) [] rest b refl)
      ∙ eat_other s.Drop _ (read.active regions locals) ts (sees_none s.Drop ts (Fixed s.Nop) [] rest b refl)
      ∙ eat_again s.Nop (pure (point_kinds.Statement st.Nop)) (read.assignment regions locals) ts rest b

  condition_again : (ts : Tokens) (x : Condition) (rest : Tokens) → Begins ts (spell.condition x) rest → condition_fits locals x ≡ true → read.condition locals ts ≡ Ok (x, rest)
  unfolding read.condition
  condition_again ts x rest b fits =
      let p2 = and_parts _ _ fits in
      let p1 = and_parts (operand_fits locals x.operand) _ p2.0 in
      let a = split ts (spell.operand x.operand) (spell.label x.then ++ spell.label x.otherwise) rest b in
      let c = split a.0 (spell.label x.then) (spell.label x.otherwise) rest a.2 in
      rw (operand_again locals few ts x.operand a.0 a.1 p1.0 (label_ends x.then a.0 (spell.label x.otherwise) rest a.2), label_again a.0 x.then c.0 c.1 (leb-true x.then 255 p1.1), label_again c.0 x.otherwise rest c.2 (leb-true x.otherwise 255 p2.1)) refl

  pub terminator_again : (ts : Tokens) (x : Terminator) (rest : Tokens) → Begins ts (spell.terminator regions x) rest → terminator_fits count locals x ≡ true → read.point regions locals ts ≡ Ok (point_kinds.Terminator x, rest)
  unfolding read.point read.stopping read.going read.branching same
  terminator_again ts (t.Goto l) rest b fits =
      let a = split ts (spell.symbol s.Goto) (spell.label l) rest b in
      eat_other s.Return (pure (read.ending t.Return)) (read.stopping regions locals) ts (sees_none s.Return ts (Fixed s.Goto) (spell.label l) rest b refl)
      ∙ eat_other s.Stop (pure (read.ending t.Stop)) (read.going regions locals) ts (sees_none s.Stop ts (Fixed s.Goto) (spell.label l) rest b refl)
      ∙ eat_again s.Goto _ (read.branching regions locals) ts a.0 a.1 ∙ rw (label_again a.0 l rest a.2 (leb-true l 255 fits)) refl
  terminator_again ts (t.If x) rest b fits =
      let a = split ts (spell.symbol s.If) (spell.condition x) rest b in
      eat_other s.Return (pure (read.ending t.Return)) (read.stopping regions locals) ts (sees_none s.Return ts (Fixed s.If) (spell.condition x) rest b refl)
      ∙ eat_other s.Stop (pure (read.ending t.Stop)) (read.going regions locals) ts (sees_none s.Stop ts (Fixed s.If) (spell.condition x) rest b refl)
      ∙ eat_other s.Goto _ (read.branching regions locals) ts (sees_none s.Goto ts (Fixed s.If) (spell.condition x) rest b refl)
      ∙ eat_again s.If _ (read.statement regions locals) ts a.0 a.1 ∙ rw (condition_again a.0 x rest a.2 fits) refl
  terminator_again ts (t.Call x) rest b fits = call_again ts x rest b fits
  terminator_again ts (t.Invoke x) rest b fits = invocation_again ts x rest b fits
  terminator_again ts t.Return rest b fits = eat_again s.Return (pure (read.ending t.Return)) (read.stopping regions locals) ts rest b
  terminator_again ts t.Stop rest b fits =
      eat_other s.Return (pure (read.ending t.Return)) (read.stopping regions locals) ts (sees_none s.Return ts (Fixed s.Stop) [] rest b refl)
      ∙ eat_again s.Stop (pure (read.ending t.Stop)) (read.going regions locals) ts rest b
