-- Tokens are read as a place or an operand exactly if they spell it.
use Rattle.std.proofs.Common.{◌≡◌, ℕ, zero, suc, ◌<◌, ◌≤◌, true, false, cond, ltb, ◌&&◌, List, [], ◌∷◌, ◌++◌, length, Ok, refl, sym, ap, ◌∙◌, subst, inl, inr, append_assoc, arith}
use Rattle.std.specs.List.{flat_map, list_all}
use Rattle.std.proofs.lemmas.Bool.{ltb-true, leb-true, le-leb, and_from, and_parts}
use Rattle.std.proofs.lemmas.List.{append-nil}
use Rattle.bc_syntax.specs.declared.symbol.Symbol.TheVariants as s
use Rattle.bc_syntax.specs.declared.numbering.Numbering.TheVariants as n
use Rattle.bc_syntax.specs.declared.syntax.Projection.{Projection}
use Rattle.bc_syntax.specs.declared.syntax.Projection.TheVariants.{Deref, Field}
use Rattle.bc_syntax.specs.declared.syntax.Place.{Place}
use Rattle.bc_syntax.specs.declared.syntax.Operand.{Operand}
use Rattle.bc_syntax.specs.declared.syntax.Operand.TheVariants as o
use Rattle.bc_syntax.specs.Symbol.{same}
use Rattle.bc_syntax.specs.Fits.{projection_fits, place_fits, operand_fits, operands_fit}
use Rattle.bc_syntax.specs.Token.{Token, Fixed, Numbered}
use Rattle.bc_tokens.specs.Token.{Tokens}
use Rattle.bc_tokens.specs.Parser.{and_then, sees, after, numbered, position, expect, pure, fail, past_limit, closed_list}
use Rattle.bc_text.specs.Reading as read
use Rattle.bc_syntax.specs.Spelling as spell
use Rattle.bc_text.proofs.Begins.{Begins, join, split, bind_ok, ok_is, chosen_parser, cond_at, eaten, eat_again, eat_other, expect_takes, expect_again, numbered_takes, numbered_again, sees_none}
use Rattle.bc_text.proofs.Lists.{Spells, Closes, list_takes, list_again}

-- no `.` comes next
abbrev pub NoDot : Tokens → Type 0
NoDot ts = sees s.Dot ts ≡ false

-- ---- projections

projection_takes : (ts : Tokens) (y : Projection × Tokens) → read.projection ts ≡ Ok y → Begins ts (spell.projection y.0) y.1 × (projection_fits y.0 ≡ true)
unfolding read.projection
projection_takes ts y e =
    elim (eaten s.Star (pure Deref) (λ rest. and_then (numbered n.Number 15 rest) (λ k last. Ok (Field k, last))) ts y e) [
      | inl p ↦ subst (λ (q : Projection × Tokens). Begins ts (spell.projection q.0) q.1 × (projection_fits q.0 ≡ true)) (ok_is (Deref, after ts) y p.1) (p.0, refl)
      | inr p ↦
          let b = bind_ok (numbered n.Number 15 ts) (λ k last. Ok (Field k, last)) y p.1 in
          let t = numbered_takes n.Number 15 ts b.0 b.1 in
          subst (λ (q : Projection × Tokens). Begins ts (spell.projection q.0) q.1 × (projection_fits q.0 ≡ true)) (ok_is (Field b.0.0, b.0.1) y b.2) (t.0, le-leb b.0.0 15 t.1)
    ]

projection_again : (ts : Tokens) (p : Projection) (rest : Tokens) → Begins ts (spell.projection p) rest → projection_fits p ≡ true → read.projection ts ≡ Ok (p, rest)
unfolding read.projection
projection_again ts Deref rest b fits = eat_again s.Star (pure Deref) _ ts rest b
projection_again ts (Field k) rest b fits =
    eat_other s.Star (pure Deref) _ ts (sees_none s.Star ts (Numbered n.Number k) [] rest b refl) ∙ rw (numbered_again n.Number 15 ts k rest b (leb-true k 15 fits)) refl

abbrev GoesOn : ℕ → List Projection → Tokens → List Projection × Tokens → Type 0
GoesOn room found ts y = (more : List Projection) × (y.0 ≡ found ++ more) × Begins ts (flat_map spell.step more) y.1 × (list_all projection_fits more ≡ true) × (length more ≤ room)

none_taken : (room : ℕ) (found : List Projection) (ts : Tokens) (y : List Projection × Tokens) → pure found ts ≡ Ok y → GoesOn room found ts y
none_taken room found ts y e = subst (GoesOn room found ts) (ok_is (found, ts) y e) ([], sym (append-nil found), refl, refl, omega arith)

projections_take : (room : ℕ) (found : List Projection) (ts : Tokens) (y : List Projection × Tokens) → read.projections_from room found ts ≡ Ok y → GoesOn room found ts y
unfolding read.projections_from read.projections_turn
projections_take zero found ts y e =
    elim (chosen_parser (sees s.Dot ts) past_limit (pure found) ts y (cond_at (sees s.Dot ts) past_limit (pure found) ts ∙ e)) [
      | inl p ↦ let bad = p.1 in absurd cc
      | inr p ↦ none_taken 0 found ts y p.1
    ]
projections_take (suc room) found ts y e =
    elim (eaten s.Dot (λ rest. and_then (read.projection rest) (λ p last. read.projections_from room (found ++ p ∷ []) last)) (pure found) ts y e) [
      | inl p ↦
          let b = bind_ok (read.projection (after ts)) (λ q last. read.projections_from room (found ++ q ∷ []) last) y p.1 in
          let t = projection_takes (after ts) b.0 b.1 in
          let more = projections_take room (found ++ b.0.0 ∷ []) b.0.1 y b.2 in
          let head = join ts (Fixed s.Dot ∷ []) (after ts) (spell.projection b.0.0) b.0.1 p.0 t.0 in
          (b.0.0 ∷ more.0, more.1 ∙ append_assoc found (b.0.0 ∷ []) more.0, join ts (spell.step b.0.0) b.0.1 (flat_map spell.step more.0) y.1 head more.2, and_from (projection_fits b.0.0) _ t.1 more.3, omega (arith, more.4))
      | inr p ↦ none_taken (suc room) found ts y p.1
    ]

projections_again : (room : ℕ) (found more : List Projection) (ts rest : Tokens) → Begins ts (flat_map spell.step more) rest → list_all projection_fits more ≡ true → length more ≤ room → NoDot rest
    → read.projections_from room found ts ≡ Ok (found ++ more, rest)
unfolding read.projections_from read.projections_turn
projections_again zero found [] ts rest p fits le other = rw (p, other, append-nil found) refl
projections_again zero found (q ∷ more) ts rest p fits le other = absurd (omega arith)
projections_again (suc room) found [] ts rest p fits le other = rw (append-nil found, p) (eat_other s.Dot _ (pure found) rest other)
projections_again (suc room) found (q ∷ more) ts rest p fits le other =
    let a = split ts (spell.step q) (flat_map spell.step more) rest p in
    let b = split ts (Fixed s.Dot ∷ []) (spell.projection q) a.0 a.1 in
    let parts = and_parts (projection_fits q) _ fits in
    let le2 : length more ≤ room = omega arith in
    eat_again s.Dot _ (pure found) ts b.0 b.1
    ∙ ap (λ o. and_then o (λ x last. read.projections_from room (found ++ x ∷ []) last)) (projection_again b.0 q a.0 b.2 parts.0)
    ∙ projections_again room (found ++ q ∷ []) more a.0 rest a.2 parts.1 le2 other
    ∙ rw (append_assoc found (q ∷ []) more) refl

-- ---- lists of operands

no_close : (x : Operand) (l : List Token) (ts rest : Tokens) → Begins ts (spell.operand x ++ l) rest → sees s.CloseParen ts ≡ false
unfolding same
no_close (o.Copy p) l ts rest b = sees_none s.CloseParen ts (Fixed s.Copy) (spell.place p ++ l) rest b refl
no_close (o.Move p) l ts rest b = sees_none s.CloseParen ts (Fixed s.Move) (spell.place p ++ l) rest b refl
no_close (o.Number k) l ts rest b = sees_none s.CloseParen ts (Numbered n.Number k) l rest b refl

operands_close : Closes spell.operand NoDot s.CloseParen
unfolding same
operands_close = record {
  follows = record { comma_ends = λ ts x rest b. sees_none s.Dot ts (Fixed s.Comma) x rest b refl };
  close_ends = λ ts x rest b. sees_none s.Dot ts (Fixed s.CloseParen) x rest b refl;
  close_apart = refl;
  item_apart = no_close;
}

module _ (locals : ℕ) (few : locals ≤ 256) where
  -- ---- places

  pub local_takes : (ts : Tokens) (y : ℕ × Tokens) → read.local locals ts ≡ Ok y → Begins ts (Numbered n.Local y.0 ∷ []) y.1 × (ltb y.0 locals ≡ true)
  unfolding read.local
  local_takes ts y e =
      let b = bind_ok (numbered n.Local 255 ts) (λ l. cond (ltb l locals) (pure l) (fail (position ts))) y e in
      let t = numbered_takes n.Local 255 ts b.0 b.1 in
      elim (chosen_parser (ltb b.0.0 locals) (pure b.0.0) (fail (position ts)) b.0.1 y b.2) [
        | inl p ↦ subst (λ (q : ℕ × Tokens). Begins ts (Numbered n.Local q.0 ∷ []) q.1 × (ltb q.0 locals ≡ true)) (ok_is b.0 y p.1) (t.0, p.0)
        | inr p ↦ let bad = p.1 in absurd cc
      ]

  pub local_again : (ts : Tokens) (l : ℕ) (rest : Tokens) → Begins ts (Numbered n.Local l ∷ []) rest → ltb l locals ≡ true → read.local locals ts ≡ Ok (l, rest)
  unfolding read.local
  local_again ts l rest p fits =
      let below : l < locals = ltb-true l locals fits in
      rw (numbered_again n.Local 255 ts l rest p (omega (arith, below)), fits) refl

  pub place_takes : (ts : Tokens) (y : Place × Tokens) → read.place locals ts ≡ Ok y → Begins ts (spell.place y.0) y.1 × (place_fits locals y.0 ≡ true)
  unfolding read.place
  place_takes ts y e =
      let b = bind_ok (read.local locals ts) (λ l rest. and_then (read.projections_from 8 [] rest) (λ ps last. Ok (record { local = l; projections = ps }, last))) y e in
      let c = bind_ok (read.projections_from 8 [] b.0.1) (λ ps last. Ok (record { local = b.0.0; projections = ps }, last)) y b.2 in
      let l = local_takes ts b.0 b.1 in
      let g = projections_take 8 [] b.0.1 c.0 c.1 in
      let text : Begins b.0.1 (flat_map spell.step c.0.0) c.0.1 = subst (λ (ps : List Projection). Begins b.0.1 (flat_map spell.step ps) c.0.1) (sym g.1) g.2 in
      let all : list_all projection_fits c.0.0 ≡ true = subst (λ (ps : List Projection). list_all projection_fits ps ≡ true) (sym g.1) g.3 in
      let short : length c.0.0 ≤ 8 = subst (λ (ps : List Projection). length ps ≤ 8) (sym g.1) g.4 in
      subst (λ (q : Place × Tokens). Begins ts (spell.place q.0) q.1 × (place_fits locals q.0 ≡ true)) (ok_is (record { local = b.0.0; projections = c.0.0 }, c.0.1) y c.2)
      (join ts (Numbered n.Local b.0.0 ∷ []) b.0.1 (flat_map spell.step c.0.0) c.0.1 l.0 text, and_from _ _ (and_from (ltb b.0.0 locals) (list_all projection_fits c.0.0) l.1 all) (le-leb (length c.0.0) 8 short))

  pub place_again : (ts : Tokens) (p : Place) (rest : Tokens) → Begins ts (spell.place p) rest → place_fits locals p ≡ true → NoDot rest → read.place locals ts ≡ Ok (p, rest)
  unfolding read.place
  place_again ts p rest b fits other =
      let a = split ts (Numbered n.Local p.local ∷ []) (flat_map spell.step p.projections) rest b in
      let parts = and_parts (ltb p.local locals && list_all projection_fits p.projections) _ fits in
      let first = and_parts (ltb p.local locals) (list_all projection_fits p.projections) parts.0 in
      rw (local_again ts p.local a.0 a.1 first.0, projections_again 8 [] p.projections a.0 rest a.2 first.1 (leb-true (length p.projections) 8 parts.1) other) refl

  -- ---- operands

  moved_takes : (ts : Tokens) (y : Operand × Tokens) → read.moved locals ts ≡ Ok y → Begins ts (spell.operand y.0) y.1 × (operand_fits locals y.0 ≡ true)
  unfolding read.moved
  moved_takes ts y e =
      elim (eaten s.Move (λ rest. and_then (read.place locals rest) (λ p last. Ok (o.Move p, last))) (λ rest. and_then (numbered n.Number 4294967295 rest) (λ k last. Ok (o.Number k, last))) ts y e) [
        | inl p ↦
            let b = bind_ok (read.place locals (after ts)) (λ q last. Ok (o.Move q, last)) y p.1 in
            let t = place_takes (after ts) b.0 b.1 in
            subst (λ (q : Operand × Tokens). Begins ts (spell.operand q.0) q.1 × (operand_fits locals q.0 ≡ true)) (ok_is (o.Move b.0.0, b.0.1) y b.2) (join ts (Fixed s.Move ∷ []) (after ts) (spell.place b.0.0) b.0.1 p.0 t.0, t.1)
        | inr p ↦
            let b = bind_ok (numbered n.Number 4294967295 ts) (λ k last. Ok (o.Number k, last)) y p.1 in
            let t = numbered_takes n.Number 4294967295 ts b.0 b.1 in
            subst (λ (q : Operand × Tokens). Begins ts (spell.operand q.0) q.1 × (operand_fits locals q.0 ≡ true)) (ok_is (o.Number b.0.0, b.0.1) y b.2) (t.0, le-leb b.0.0 4294967295 t.1)
      ]

  pub operand_takes : (ts : Tokens) (y : Operand × Tokens) → read.operand locals ts ≡ Ok y → Begins ts (spell.operand y.0) y.1 × (operand_fits locals y.0 ≡ true)
  unfolding read.operand
  operand_takes ts y e =
      elim (eaten s.Copy (λ rest. and_then (read.place locals rest) (λ p last. Ok (o.Copy p, last))) (read.moved locals) ts y e) [
        | inl p ↦
            let b = bind_ok (read.place locals (after ts)) (λ q last. Ok (o.Copy q, last)) y p.1 in
            let t = place_takes (after ts) b.0 b.1 in
            subst (λ (q : Operand × Tokens). Begins ts (spell.operand q.0) q.1 × (operand_fits locals q.0 ≡ true)) (ok_is (o.Copy b.0.0, b.0.1) y b.2) (join ts (Fixed s.Copy ∷ []) (after ts) (spell.place b.0.0) b.0.1 p.0 t.0, t.1)
        | inr p ↦ moved_takes ts y p.1
      ]

  pub operand_again : (ts : Tokens) (x : Operand) (rest : Tokens) → Begins ts (spell.operand x) rest → operand_fits locals x ≡ true → NoDot rest → read.operand locals ts ≡ Ok (x, rest)
  unfolding read.operand read.moved same
  operand_again ts (o.Copy p) rest b fits other =
      let a = split ts (Fixed s.Copy ∷ []) (spell.place p) rest b in
      eat_again s.Copy _ (read.moved locals) ts a.0 a.1 ∙ rw (place_again a.0 p rest a.2 fits other) refl
  operand_again ts (o.Move p) rest b fits other =
      let a = split ts (Fixed s.Move ∷ []) (spell.place p) rest b in
      eat_other s.Copy _ (read.moved locals) ts (sees_none s.Copy ts (Fixed s.Move) [] a.0 a.1 refl)
      ∙ eat_again s.Move _ _ ts a.0 a.1 ∙ rw (place_again a.0 p rest a.2 fits other) refl
  operand_again ts (o.Number k) rest b fits other =
      eat_other s.Copy _ (read.moved locals) ts (sees_none s.Copy ts (Numbered n.Number k) [] rest b refl)
      ∙ eat_other s.Move _ _ ts (sees_none s.Move ts (Numbered n.Number k) [] rest b refl) ∙ rw (numbered_again n.Number 4294967295 ts k rest b (leb-true k 4294967295 fits)) refl

  operand_law : Spells (read.operand locals) spell.operand (operand_fits locals) NoDot
  operand_law = record { takes = operand_takes; again = operand_again }

  pub operands_take : (ts : Tokens) (y : List Operand × Tokens) → read.operands locals ts ≡ Ok y → Begins ts (spell.operands y.0) y.1 × (operands_fit locals y.0 ≡ true)
  unfolding read.operands
  operands_take ts y e =
      let b = bind_ok (expect s.OpenParen ts) (λ _ rest. closed_list read.begins_operand (read.operand locals) 16 s.CloseParen rest) y e in
      let list = list_takes operand_law read.begins_operand 16 s.CloseParen b.0.1 y b.2 in
      (join ts (Fixed s.OpenParen ∷ []) b.0.1 (spell.commas spell.operand y.0 ++ spell.symbol s.CloseParen) y.1 (expect_takes s.OpenParen ts b.0 b.1) list.0, and_from (list_all (operand_fits locals) y.0) _ list.1.0 (le-leb (length y.0) 16 list.1.1))

  pub operands_again : (ts : Tokens) (os : List Operand) (rest : Tokens) → Begins ts (spell.operands os) rest → operands_fit locals os ≡ true → read.operands locals ts ≡ Ok (os, rest)
  unfolding read.operands
  operands_again ts os rest b fits =
      let a = split ts (Fixed s.OpenParen ∷ []) (spell.commas spell.operand os ++ spell.symbol s.CloseParen) rest b in
      let parts = and_parts (list_all (operand_fits locals) os) _ fits in
      rw (expect_again s.OpenParen ts a.0 a.1) (list_again operand_law read.begins_operand 16 s.CloseParen operands_close a.0 os rest a.2 (parts.0, leb-true (length os) 16 parts.1))
