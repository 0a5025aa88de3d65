-- Tokens are read as blocks exactly if they spell them.
use Rattle.std.proofs.Common.{◌≡◌, ℕ, zero, suc, ◌+◌, ◌-◌, ◌≤◌, true, false, cond, eqb, List, [], ◌∷◌, ◌++◌, length, Ok, refl, sym, ap, ◌∙◌, subst, inl, inr, append_assoc, arith}
use Rattle.std.specs.List.{flat_map, list_all}
use Rattle.std.proofs.lemmas.Bool.{eqb-true, eq-eqb, and_from, and_parts}
use Rattle.std.proofs.lemmas.List.{append-nil, length-append}
use Rattle.std.proofs.lemmas.List.Sums.{sum_by-cons}
use Rattle.bc_syntax.specs.declared.symbol.Symbol.TheVariants as s
use Rattle.bc_syntax.specs.declared.numbering.Numbering.TheVariants as n
use Rattle.bc_text.specs.declared.points.Point.{Point}
use Rattle.bc_text.specs.declared.points.Point.TheVariants as point_kinds
use Rattle.bc_syntax.specs.declared.syntax.RegionName.{RegionName}
use Rattle.bc_syntax.specs.declared.syntax.Statement.{Statement}
use Rattle.bc_syntax.specs.declared.syntax.Terminator.{Terminator}
use Rattle.bc_syntax.specs.declared.syntax.Block.{Block}
use Rattle.bc_syntax.specs.Symbol.{same}
use Rattle.bc_syntax.specs.Fits.{statement_fits, terminator_fits, block_fits, point_count}
use Rattle.bc_syntax.specs.Token.{Token, Fixed}
use Rattle.bc_tokens.specs.Token.{Tokens}
use Rattle.bc_tokens.specs.Parser.{and_then, sees_numbered, numbered, position, expect, pure, fail}
use Rattle.bc_text.specs.Reading as read
use Rattle.bc_syntax.specs.Spelling as spell
use Rattle.bc_text.proofs.Begins.{Begins, join, split, bind_ok, ok_is, chosen, chosen_parser, expect_takes, expect_again, numbered_takes, numbered_again, sees_none, sees_numbered_same, no_value}
use Rattle.bc_text.proofs.NameLaws.{Declares}
use Rattle.bc_text.proofs.PointLaws.{IsPoint, point_takes, statement_again, terminator_again}

module _ (regions : List RegionName) (declares : Declares regions) (locals : ℕ) (few : locals ≤ 256) where
  abbrev count : ℕ
  count = length regions + 1

  abbrev all_fit : List Statement → Type 0
  all_fit statements = list_all (statement_fits count locals) statements ≡ true

  -- ---- points

  -- what is taken of a block after the statements that were found
  abbrev GoesOn : ℕ → List Statement → Tokens → Block × Tokens → Type 0
  GoesOn room found ts y = (more : List Statement) × (y.0.statements ≡ found ++ more) × Begins ts (flat_map (spell.line regions) more ++ spell.terminator regions y.0.terminator) y.1 × all_fit more × (length more + 1 ≤ room) × (terminator_fits count locals y.0.terminator ≡ true)

  went_on : (room : ℕ) (found : List Statement) (ts : Tokens) (p : Point) (mid : Tokens) (y : Block × Tokens) → IsPoint regions declares locals few ts (p, mid)
      → ((more : List Statement) (from : Tokens) → read.block_from regions locals room more from ≡ Ok y → GoesOn room more from y)
      → read.goes_on found (read.block_from regions locals room) p mid ≡ Ok y → GoesOn (suc room) found ts y
  went_on room found ts (point_kinds.Terminator x) mid y was again e =
      subst (λ (q : Block × Tokens). GoesOn (suc room) found ts q) (ok_is (record { statements = found; terminator = x }, mid) y e)
      ([], sym (append-nil found), was.0, refl, omega arith, was.1)
  went_on room found ts (point_kinds.Statement x) mid y was again e =
      let b = bind_ok (expect s.Semicolon mid) (λ _ rest. read.block_from regions locals room (found ++ x ∷ []) rest) y e in
      let more = again (found ++ x ∷ []) b.0.1 b.2 in
      let head = join ts (spell.statement regions x) mid (spell.symbol s.Semicolon) b.0.1 was.0 (expect_takes s.Semicolon mid b.0 b.1) in
      let whole = join ts (spell.line regions x) b.0.1 (flat_map (spell.line regions) more.0 ++ spell.terminator regions y.0.terminator) y.1 head more.2 in
      let text : Begins ts (flat_map (spell.line regions) (x ∷ more.0) ++ spell.terminator regions y.0.terminator) y.1 = subst (λ (l : List Token). Begins ts l y.1) (sym (append_assoc (spell.line regions x) (flat_map (spell.line regions) more.0) (spell.terminator regions y.0.terminator))) whole in
      (x ∷ more.0, more.1 ∙ append_assoc found (x ∷ []) more.0, text, and_from (statement_fits count locals x) _ was.1 more.3, omega (arith, more.4), more.5)

  points_take : (room : ℕ) (found : List Statement) (ts : Tokens) (y : Block × Tokens) → read.block_from regions locals room found ts ≡ Ok y → GoesOn room found ts y
  unfolding read.block_from read.block_turn
  points_take zero found ts y e = absurd (no_value (read.begins_point ts) _ _ y e)
  points_take (suc room) found ts y e =
      let b = bind_ok (read.point regions locals ts) (λ p rest. read.goes_on found (read.block_from regions locals room) p rest) y e in
      went_on room found ts b.0.0 b.0.1 y (point_takes regions declares locals few ts b.0 b.1) (λ more from h. points_take room more from y h) b.2

  points_again : (room : ℕ) (found more : List Statement) (x : Terminator) (ts rest : Tokens) → Begins ts (flat_map (spell.line regions) more ++ spell.terminator regions x) rest → all_fit more → length more + 1 ≤ room → terminator_fits count locals x ≡ true
      → read.block_from regions locals room found ts ≡ Ok (record { statements = found ++ more; terminator = x }, rest)
  unfolding read.block_from read.block_turn same
  points_again zero found more x ts rest b fits le ends = absurd (omega arith)
  points_again (suc room) found [] x ts rest b fits le ends = rw (terminator_again regions declares locals few ts x rest b ends, append-nil found) refl
  points_again (suc room) found (st ∷ more) x ts rest b fits le ends =
      let text : Begins ts (spell.line regions st ++ (flat_map (spell.line regions) more ++ spell.terminator regions x)) rest = subst (λ (l : List Token). Begins ts l rest) (append_assoc (spell.line regions st) (flat_map (spell.line regions) more) (spell.terminator regions x)) b in
      let a = split ts (spell.line regions st) (flat_map (spell.line regions) more ++ spell.terminator regions x) rest text in
      let c = split ts (spell.statement regions st) (spell.symbol s.Semicolon) a.0 a.1 in
      let parts = and_parts (statement_fits count locals st) _ fits in
      let dot = sees_none s.Dot c.0 (Fixed s.Semicolon) [] a.0 c.2 refl in
      let le2 : length more + 1 ≤ room = omega arith in
      ap (λ o. and_then o (λ p mid. read.goes_on found (read.block_from regions locals room) p mid)) (statement_again regions declares locals few ts st c.0 c.1 parts.0 dot)
      ∙ ap (λ o. and_then o (λ _ mid. read.block_from regions locals room (found ++ st ∷ []) mid)) (expect_again s.Semicolon c.0 a.0 c.2)
      ∙ points_again room (found ++ st ∷ []) more x a.0 rest a.2 parts.1 le2 ends
      ∙ rw (append_assoc found (st ∷ []) more) refl

  -- ---- one block

  abbrev IsBlock : List Token → ℕ → Tokens → Block × Tokens → Type 0
  IsBlock found left ts q = Begins ts found q.1 × (block_fits count locals q.0 ≡ true) × (length q.0.statements + 1 ≤ left)

  braced_takes : (left : ℕ) (ts : Tokens) (y : Block × Tokens) → read.braced regions locals left ts ≡ Ok y → IsBlock (spell.braced regions y.0) left ts y
  unfolding read.braced
  braced_takes left ts y e =
      let b = bind_ok (expect s.OpenBrace ts) (λ _ rest. and_then (read.block_from regions locals left [] rest) (λ x mid. and_then (expect s.Semicolon mid) (λ _ late. and_then (expect s.CloseBrace late) (λ _ last. Ok (x, last))))) y e in
      let c = bind_ok (read.block_from regions locals left [] b.0.1) (λ x mid. and_then (expect s.Semicolon mid) (λ _ late. and_then (expect s.CloseBrace late) (λ _ last. Ok (x, last)))) y b.2 in
      let d = bind_ok (expect s.Semicolon c.0.1) (λ _ late. and_then (expect s.CloseBrace late) (λ _ last. Ok (c.0.0, last))) y c.2 in
      let f = bind_ok (expect s.CloseBrace d.0.1) (λ _ last. Ok (c.0.0, last)) y d.2 in
      let g = points_take left [] b.0.1 c.0 c.1 in
      let points : Begins b.0.1 (spell.points regions c.0.0) c.0.1 = subst (λ (l : List Statement). Begins b.0.1 (flat_map (spell.line regions) l ++ spell.terminator regions c.0.0.terminator) c.0.1) (sym g.1) g.2 in
      let ending = join c.0.1 (spell.symbol s.Semicolon) d.0.1 (spell.symbol s.CloseBrace) f.0.1 (expect_takes s.Semicolon c.0.1 d.0 d.1) (expect_takes s.CloseBrace d.0.1 f.0 f.1) in
      let inner = join b.0.1 (spell.points regions c.0.0) c.0.1 (spell.symbol s.Semicolon ++ spell.symbol s.CloseBrace) f.0.1 points ending in
      let whole = join ts (spell.symbol s.OpenBrace) b.0.1 (spell.points regions c.0.0 ++ (spell.symbol s.Semicolon ++ spell.symbol s.CloseBrace)) f.0.1 (expect_takes s.OpenBrace ts b.0 b.1) inner in
      let all : all_fit c.0.0.statements = subst all_fit (sym g.1) g.3 in
      subst (λ (q : Block × Tokens). IsBlock (spell.braced regions q.0) left ts q) (ok_is (c.0.0, f.0.1) y f.2)
      (whole, and_from _ (terminator_fits count locals c.0.0.terminator) all g.5, subst (λ (l : List Statement). length l + 1 ≤ left) (sym g.1) g.4)

  braced_again : (left : ℕ) (ts : Tokens) (x : Block) (rest : Tokens) → Begins ts (spell.braced regions x) rest → block_fits count locals x ≡ true → length x.statements + 1 ≤ left → read.braced regions locals left ts ≡ Ok (x, rest)
  unfolding read.braced
  braced_again left ts x rest b fits le =
      let a = split ts (spell.symbol s.OpenBrace) (spell.points regions x ++ (spell.symbol s.Semicolon ++ spell.symbol s.CloseBrace)) rest b in
      let c = split a.0 (spell.points regions x) (spell.symbol s.Semicolon ++ spell.symbol s.CloseBrace) rest a.2 in
      let d = split c.0 (spell.symbol s.Semicolon) (spell.symbol s.CloseBrace) rest c.2 in
      let parts = and_parts (list_all (statement_fits count locals) x.statements) (terminator_fits count locals x.terminator) fits in
      rw (expect_again s.OpenBrace ts a.0 a.1, points_again left [] x.statements x.terminator a.0 c.0 c.1 parts.0 le parts.1, expect_again s.Semicolon c.0 d.0 d.1, expect_again s.CloseBrace d.0 rest d.2) refl

  block_takes : (number left : ℕ) (ts : Tokens) (y : Block × Tokens) → read.block regions locals number left ts ≡ Ok y → IsBlock (spell.block regions number y.0) left ts y
  unfolding read.block read.label
  block_takes number left ts y e =
      let b = bind_ok (numbered n.Label 255 ts) (λ l. cond (eqb l number) (read.braced regions locals left) (fail (position ts))) y e in
      let t = numbered_takes n.Label 255 ts b.0 b.1 in
      elim (chosen_parser (eqb b.0.0 number) (read.braced regions locals left) (fail (position ts)) b.0.1 y b.2) [
        | inl p ↦
            let label : Begins ts (spell.label number) b.0.1 = subst (λ k. Begins ts (spell.label k) b.0.1) (eqb-true b.0.0 number p.0) t.0 in
            let g = braced_takes left b.0.1 y p.1 in
            (join ts (spell.label number) b.0.1 (spell.braced regions y.0) y.1 label g.0, g.1, g.2)
        | inr p ↦ let bad = p.1 in absurd cc
      ]

  block_again : (number left : ℕ) (ts : Tokens) (x : Block) (rest : Tokens) → Begins ts (spell.block regions number x) rest → block_fits count locals x ≡ true → length x.statements + 1 ≤ left → number ≤ 255 → read.block regions locals number left ts ≡ Ok (x, rest)
  unfolding read.block read.label
  block_again number left ts x rest b fits le low =
      let a = split ts (spell.label number) (spell.braced regions x) rest b in
      rw (numbered_again n.Label 255 ts number a.0 a.1 low, eq-eqb number number refl) (braced_again left a.0 x rest a.2 fits le)

  -- ---- blocks

  counted : (x : Block) (bs : List Block) → point_count (x ∷ bs) ≡ (length x.statements + 1) + point_count bs
  counted x bs = sum_by-cons (λ (block : Block). length block.statements + 1) x bs

  abbrev blocks_fit : List Block → Type 0
  blocks_fit bs = list_all (block_fits count locals) bs ≡ true

  abbrev MoreBlocks : ℕ → ℕ → List Block → Tokens → List Block × Tokens → Type 0
  MoreBlocks room left found ts y = (more : List Block) × (y.0 ≡ found ++ more) × Begins ts (spell.blocks regions (length found) more) y.1 × blocks_fit more × (point_count more ≤ left) × (length more + 1 ≤ room)

  one_longer : (found : List Block) (x : Block) → length (found ++ x ∷ []) ≡ length found + 1
  one_longer found x = length-append found (x ∷ [])

  turn_takes : (room left : ℕ) (found : List Block) (ts : Tokens) (y : List Block × Tokens)
      → ((left : ℕ) (more : List Block) (from : Tokens) → read.blocks_from regions locals room left more from ≡ Ok y → MoreBlocks room left more from y)
      → read.blocks_turn regions locals (read.blocks_from regions locals room) left found ts ≡ Ok y → MoreBlocks (suc room) left found ts y
  unfolding read.blocks_turn
  turn_takes room left found ts y again e =
      let b = bind_ok (read.block regions locals (length found) left ts) (λ x rest. read.blocks_from regions locals room (read.left_behind left x) (found ++ x ∷ []) rest) y e in
      let x = b.0.0 in
      let t = block_takes (length found) left ts b.0 b.1 in
      let more = again (read.left_behind left x) (found ++ x ∷ []) b.0.1 b.2 in
      let text : Begins b.0.1 (spell.blocks regions (length found + 1) more.0) y.1 = subst (λ k. Begins b.0.1 (spell.blocks regions k more.0) y.1) (one_longer found x) more.2 in (
        x ∷ more.0,
        more.1 ∙ append_assoc found (x ∷ []) more.0,
        join ts (spell.block regions (length found) x) b.0.1 (spell.blocks regions (length found + 1) more.0) y.1 t.0 text,
        and_from (block_fits count locals x) _ t.1 more.3,
        omega (arith, more.4, t.2, counted x more.0),
        omega (arith, more.5),
      )

  none_taken : (room left : ℕ) (found : List Block) (ts : Tokens) (y : List Block × Tokens) → pure found ts ≡ Ok y → MoreBlocks (suc room) left found ts y
  none_taken room left found ts y e = subst (MoreBlocks (suc room) left found ts) (ok_is (found, ts) y e) ([], sym (append-nil found), refl, refl, omega arith, omega arith)

  blocks_from_take : (room left : ℕ) (found : List Block) (ts : Tokens) (y : List Block × Tokens) → read.blocks_from regions locals room left found ts ≡ Ok y → MoreBlocks room left found ts y
  unfolding read.blocks_from
  blocks_from_take zero left found ts y e = absurd cc
  blocks_from_take (suc room) left found ts y e =
      elim (chosen (sees_numbered n.Label ts) (read.blocks_turn regions locals (read.blocks_from regions locals room) left found ts) (pure found ts) (Ok y) e) [
        | inl p ↦ turn_takes room left found ts y (λ l more from h. blocks_from_take room l more from y h) p.1
        | inr p ↦ none_taken room left found ts y p.1
      ]

  blocks_from_again : (room left : ℕ) (found more : List Block) (ts rest : Tokens) → Begins ts (spell.blocks regions (length found) more) rest → blocks_fit more → point_count more ≤ left → length more + 1 ≤ room → length found + length more ≤ 256
      → sees_numbered n.Label rest ≡ false → read.blocks_from regions locals room left found ts ≡ Ok (found ++ more, rest)
  unfolding read.blocks_from read.blocks_turn
  blocks_from_again zero left found more ts rest b fits points le low other = absurd (omega arith)
  blocks_from_again (suc room) left found [] ts rest b fits points le low other = rw (b, other, append-nil found) refl
  blocks_from_again (suc room) left found (x ∷ more) ts rest b fits points le low other =
      let a = split ts (spell.block regions (length found) x) (spell.blocks regions (length found + 1) more) rest b in
      let parts = and_parts (block_fits count locals x) _ fits in
      let text : Begins a.0 (spell.blocks regions (length (found ++ x ∷ [])) more) rest = subst (λ k. Begins a.0 (spell.blocks regions k more) rest) (sym (one_longer found x)) a.2 in
      let seen = sees_numbered_same n.Label ts (length found) (spell.braced regions x) a.0 a.1 in
      let fits_left : length x.statements + 1 ≤ left = omega (arith, points, counted x more) in
      let rest_left : point_count more ≤ left - (length x.statements + 1) = omega (arith, points, counted x more) in
      let number : length found ≤ 255 = omega (arith, low) in
      let room_left : length more + 1 ≤ room = omega (arith, le) in
      let numbers : length (found ++ x ∷ []) + length more ≤ 256 = omega (arith, low, one_longer found x) in
      rw (seen, block_again (length found) left ts x a.0 a.1 parts.0 fits_left number)
      (blocks_from_again room (left - (length x.statements + 1)) (found ++ x ∷ []) more a.0 rest text parts.1 rest_left room_left numbers other ∙ rw (append_assoc found (x ∷ []) more) refl)

  pub blocks_take : (ts : Tokens) (y : List Block × Tokens) → read.blocks regions locals ts ≡ Ok y → Begins ts (spell.blocks regions 0 y.0) y.1 × blocks_fit y.0 × (point_count y.0 ≤ 4096) × (length y.0 ≤ 256) × (1 ≤ length y.0)
  unfolding read.blocks read.blocks_turn
  blocks_take ts y e =
      let b = bind_ok (read.block regions locals 0 4096 ts) (λ x rest. read.blocks_from regions locals 256 (read.left_behind 4096 x) (x ∷ []) rest) y e in
      let x = b.0.0 in
      let t = block_takes 0 4096 ts b.0 b.1 in
      let more = blocks_from_take 256 (read.left_behind 4096 x) (x ∷ []) b.0.1 y b.2 in
      let whole = join ts (spell.block regions 0 x) b.0.1 (spell.blocks regions 1 more.0) y.1 t.0 more.2 in
      subst (λ (l : List Block). Begins ts (spell.blocks regions 0 l) y.1 × blocks_fit l × (point_count l ≤ 4096) × (length l ≤ 256) × (1 ≤ length l)) (sym more.1)
      (whole, and_from (block_fits count locals x) _ t.1 more.3, omega (arith, more.4, t.2, counted x more.0), omega (arith, more.5), omega arith)

  pub blocks_again : (ts : Tokens) (bs : List Block) (rest : Tokens) → Begins ts (spell.blocks regions 0 bs) rest → blocks_fit bs → point_count bs ≤ 4096 → length bs ≤ 256 → 1 ≤ length bs → sees_numbered n.Label rest ≡ false → read.blocks regions locals ts ≡ Ok (bs, rest)
  unfolding read.blocks read.blocks_turn
  blocks_again ts [] rest b fits points low some other = absurd (omega arith)
  blocks_again ts (x ∷ more) rest b fits points low some other =
      let a = split ts (spell.block regions 0 x) (spell.blocks regions 1 more) rest b in
      let parts = and_parts (block_fits count locals x) _ fits in
      let fits_left : length x.statements + 1 ≤ 4096 = omega (arith, points, counted x more) in
      let rest_left : point_count more ≤ 4096 - (length x.statements + 1) = omega (arith, points, counted x more) in
      rw (block_again 0 4096 ts x a.0 a.1 parts.0 fits_left (omega arith))
      (blocks_from_again 256 (4096 - (length x.statements + 1)) (x ∷ []) more a.0 rest a.2 parts.1 rest_left (omega (arith, low)) (omega (arith, low)) other)
