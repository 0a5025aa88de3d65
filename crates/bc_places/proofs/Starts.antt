-- The walk notes exactly the tokens that begin the points of a unit.
use Rattle.std.proofs.Common.{◌≡◌, ℕ, suc, ◌+◌, Bool, true, false, List, [], ◌∷◌, ◌++◌, length, map, drop, refl, sym, ap, ◌∙◌, append_assoc, append-nil, inl, inr, arith}
use Rattle.std.specs.Prelude.{if◌then◌else◌}
use Rattle.std.specs.List.{flat_map}
use Rattle.std.proofs.lemmas.List.{length-append, drop-drop}
use Rattle.std.proofs.lemmas.Bool.{cases_Bool}
use Rattle.bc_syntax.specs.declared.symbol.Symbol.TheVariants as s
use Rattle.bc_syntax.specs.declared.numbering.Numbering.TheVariants as n
use Rattle.bc_syntax.specs.declared.syntax.RegionName.{RegionName}
use Rattle.bc_syntax.specs.declared.syntax.Ty.{Ty}
use Rattle.bc_syntax.specs.declared.syntax.Statement.{Statement}
use Rattle.bc_syntax.specs.declared.syntax.Terminator.{Terminator}
use Rattle.bc_syntax.specs.declared.syntax.Block.{Block}
use Rattle.bc_syntax.specs.declared.syntax.Body.{Body}
use Rattle.bc_syntax.specs.Locals.{first_let}
use Rattle.bc_syntax.specs.Symbol.{same}
use Rattle.bc_syntax.specs.Token.{Token, Fixed, Numbered, End}
use Rattle.bc_syntax.specs.Spelling as spell
use Rattle.bc_tokens.specs.Token.{Placed, Tokens}
use Rattle.bc_tokens.specs.Parser.{position, is_end, same_numbering}
use Rattle.bc_places.specs.Walk.{opens_points, begins_point, note, noted}
use Rattle.bc_places.specs.Places.{before_points, before_blocks, opening, before_each, place_behind}
use Rattle.bc_places.proofs.Quiet.{is_quiet, AllQuiet, BeginsPoint, ty, statement, terminator, header}

-- ---- tokens that begin points, by the number of tokens before them

abbrev started : Bool → ℕ → Token → List ℕ → List ℕ
started false count token rest = rest
started true count token rest = if begins_point token then count ∷ rest else rest

abbrev starts : Bool → ℕ → List Token → List ℕ
starts opened count [] = []
starts opened count (t ∷ ts) = if is_end t then [] else started opened count t (starts (opens_points t) (count + 1) ts)

abbrev token_of : Placed → Token
token_of t = t.token

note_started : (opened : Bool) (found : List ℕ) (t : Placed) (all : Tokens) (count : ℕ) (rest : List ℕ) → place_behind all count ≡ t.at
    → note opened t found ++ map (place_behind all) rest ≡ found ++ map (place_behind all) (started opened count t.token rest)
note_started false found t all count rest at = refl
note_started true found t all count rest at =
    elim (cases_Bool (begins_point t.token)) [
      | inl begins ↦ rw (begins, at) (append_assoc found (t.at ∷ []) (map (place_behind all) rest))
      | inr other ↦ rw other refl
    ]

-- the walk notes the places of the tokens that begin points
noted_starts : (all : Tokens) (count : ℕ) (opened : Bool) (found : List ℕ) (ts : Tokens) → drop count all ≡ ts
    → noted opened found ts ≡ found ++ map (place_behind all) (starts opened count (map token_of ts))
noted_starts all count opened found [] is = sym (append-nil found)
noted_starts all count opened found (t ∷ ts) is =
    elim (cases_Bool (is_end t.token)) [
      | inl stop ↦ rw stop (sym (append-nil found))
      | inr more ↦
          let behind : drop (count + 1) all ≡ ts = sym (drop-drop 1 count all) ∙ ap (drop 1) is in
          let rest = starts (opens_points t.token) (count + 1) (map token_of ts) in
          rw more (noted_starts all (count + 1) (opens_points t.token) (note opened t found) ts behind ∙ note_started opened found t all count rest (ap position is))
    ]

-- ---- one token

passes : (opened : Bool) (count : ℕ) (t : Token) (ts : List Token) → is_end t ≡ false → begins_point t ≡ false → starts opened count (t ∷ ts) ≡ starts (opens_points t) (count + 1) ts
passes false count t ts more other = rw more refl
passes true count t ts more other = rw (more, other) refl

quiet_parts : (t : Token) → is_quiet t ≡ true → (is_end t ≡ false) × (opens_points t ≡ false)
quiet_parts t quiet =
    elim (cases_Bool (is_end t)) [
      | inl stop ↦ absurd (let e = rw stop at quiet in cc)
      | inr more ↦ elim (cases_Bool (opens_points t)) [
        | inl opens ↦ absurd (let e = rw (more, opens) at quiet in cc)
        | inr closed ↦ (more, closed)
      ]
    ]

-- quiet tokens after one that opens nothing begin no point
quiet_starts : (count : ℕ) (xs ys : List Token) → AllQuiet xs → starts false count (xs ++ ys) ≡ starts false (count + length xs) ys
quiet_starts count [] ys quiet = let e : count ≡ count + 0 = omega arith in ap (λ k. starts false k ys) e
quiet_starts count (x ∷ xs) ys quiet =
    let p = quiet_parts x quiet.0 in
    let e : (count + 1) + length xs ≡ count + suc (length xs) = omega arith in
    rw (p.0, p.1) (quiet_starts (count + 1) xs ys quiet.1 ∙ ap (λ k. starts false k ys) e)

-- the first of some tokens begins a point, and no other
point_starts : (count : ℕ) (xs ys : List Token) → BeginsPoint xs → starts true count (xs ++ ys) ≡ count ∷ starts false (count + length xs) ys
point_starts count [] ys point = absurd point
point_starts count (x ∷ xs) ys point =
    let p = quiet_parts x point.1.0 in
    let e : (count + 1) + length xs ≡ count + suc (length xs) = omega arith in
    rw (p.0, p.1, point.0) (ap (λ (l : List ℕ). count ∷ l) (quiet_starts (count + 1) xs ys point.1.1 ∙ ap (λ k. starts false k ys) e))

-- the first of some tokens before a `;` begins a point, and no other
line_starts : (count : ℕ) (xs ys : List Token) → BeginsPoint xs → starts true count (xs ++ (Fixed s.Semicolon ∷ ys)) ≡ count ∷ starts true (count + length (xs ++ (Fixed s.Semicolon ∷ []))) ys
unfolding same
line_starts count xs ys point =
    let e : (count + length xs) + 1 ≡ count + length (xs ++ (Fixed s.Semicolon ∷ [])) = omega (arith, length-append xs (Fixed s.Semicolon ∷ [])) in
    point_starts count xs (Fixed s.Semicolon ∷ ys) point ∙ ap (λ k. count ∷ starts true k ys) e

-- ---- blocks

module _ (regions : List RegionName) where
  points_start : (count : ℕ) (sts : List Statement) (t : Terminator) (ys : List Token)
      → starts true count ((flat_map (spell.line regions) sts ++ spell.terminator regions t) ++ (Fixed s.Semicolon ∷ ys))
      ≡ before_points regions count sts ++ starts true (count + length ((flat_map (spell.line regions) sts ++ spell.terminator regions t) ++ (Fixed s.Semicolon ∷ []))) ys
  points_start count [] t ys = line_starts count (spell.terminator regions t) ys (terminator regions t)
  points_start count (st ∷ sts) t ys =
      let a = spell.statement regions st in
      let semicolon : List Token = Fixed s.Semicolon ∷ [] in
      let rest = flat_map (spell.line regions) sts ++ spell.terminator regions t in
      let cut : (zs : List Token) → ((((a ++ semicolon) ++ flat_map (spell.line regions) sts) ++ spell.terminator regions t) ++ (Fixed s.Semicolon ∷ zs)) ≡ a ++ (Fixed s.Semicolon ∷ (rest ++ (Fixed s.Semicolon ∷ zs))) = λ zs. simp append_assoc in
      let next = count + length (a ++ semicolon) in
      let e : next + length (rest ++ semicolon) ≡ count + length (a ++ (Fixed s.Semicolon ∷ (rest ++ semicolon))) =
      omega (arith, length-append a semicolon, length-append a (Fixed s.Semicolon ∷ (rest ++ semicolon))) in
      let f : next + length (rest ++ semicolon) ≡ count + length ((((a ++ semicolon) ++ flat_map (spell.line regions) sts) ++ spell.terminator regions t) ++ semicolon) = e ∙ ap (λ (l : List Token). count + length l) (sym (cut [])) in
      ap (starts true count) (cut ys)
      ∙ line_starts count a (rest ++ (Fixed s.Semicolon ∷ ys)) (statement regions st)
      ∙ ap (λ (l : List ℕ). count ∷ l) (points_start next sts t ys ∙ ap (λ k. before_points regions next sts ++ starts true k ys) f)

  block_starts : (opened : Bool) (count number : ℕ) (b : Block) (ys : List Token)
      → starts opened count (spell.block regions number b ++ ys) ≡ before_points regions (count + 2) b.statements ++ starts false (count + length (spell.block regions number b)) ys
  unfolding same same_numbering
  block_starts opened count number b ys =
      let points = spell.points regions b in
      let close : List Token = Fixed s.Semicolon ∷ Fixed s.CloseBrace ∷ [] in
      let cut : (points ++ close) ++ ys ≡ points ++ (Fixed s.Semicolon ∷ Fixed s.CloseBrace ∷ ys) = simp append_assoc in
      let two : (count + 1) + 1 ≡ count + 2 = omega arith in
      let e : ((count + 2) + length (points ++ (Fixed s.Semicolon ∷ []))) + 1 ≡ count + suc (suc (length (points ++ close))) =
      omega (arith, length-append points (Fixed s.Semicolon ∷ []), length-append points close) in
      passes opened count (Numbered n.Label number) (Fixed s.OpenBrace ∷ ((points ++ close) ++ ys)) refl refl
      ∙ ap (λ (l : List Token). starts true ((count + 1) + 1) l) cut
      ∙ ap (λ k. starts true k (points ++ (Fixed s.Semicolon ∷ Fixed s.CloseBrace ∷ ys))) two
      ∙ points_start (count + 2) b.statements b.terminator (Fixed s.CloseBrace ∷ ys)
      ∙ ap (λ k. before_points regions (count + 2) b.statements ++ starts false k ys) e

  blocks_start : (opened : Bool) (count number : ℕ) (bs : List Block)
      → starts opened count (spell.blocks regions number bs ++ (Fixed s.CloseBrace ∷ End ∷ [])) ≡ before_blocks regions count number bs
  unfolding same same_numbering
  blocks_start opened count number [] = passes opened count (Fixed s.CloseBrace) (End ∷ []) refl refl
  blocks_start opened count number (b ∷ bs) =
      let close : List Token = Fixed s.CloseBrace ∷ End ∷ [] in
      let next = count + length (spell.block regions number b) in
      ap (starts opened count) (append_assoc (spell.block regions number b) (spell.blocks regions (number + 1) bs) close)
      ∙ block_starts opened count number b (spell.blocks regions (number + 1) bs ++ close)
      ∙ ap (λ (l : List ℕ). before_points regions (count + 2) b.statements ++ l) (blocks_start false next (number + 1) bs)

  -- ---- `let` locals

  let_starts : (count number : ℕ) (t : Ty) (ys : List Token) → starts true count (spell.declared regions number t ++ ys) ≡ starts true (count + length (spell.declared regions number t)) ys
  unfolding same same_numbering
  let_starts count number t ys =
      let a = spell.ty regions t in
      let semicolon : List Token = Fixed s.Semicolon ∷ [] in
      let cut : (a ++ semicolon) ++ ys ≡ a ++ (Fixed s.Semicolon ∷ ys) = append_assoc a semicolon ys in
      let e : ((((count + 1) + 1) + 1) + length a) + 1 ≡ count + suc (suc (suc (length (a ++ semicolon)))) = omega (arith, length-append a semicolon) in
      ap (starts false (((count + 1) + 1) + 1)) cut
      ∙ quiet_starts (((count + 1) + 1) + 1) a (Fixed s.Semicolon ∷ ys) (ty regions t)
      ∙ ap (λ k. starts true k ys) e

  lets_start : (count number : ℕ) (ts : List Ty) (ys : List Token) → starts true count (spell.lets regions number ts ++ ys) ≡ starts true (count + length (spell.lets regions number ts)) ys
  lets_start count number [] ys = let e : count ≡ count + 0 = omega arith in ap (λ k. starts true k ys) e
  lets_start count number (t ∷ ts) ys =
      let a = spell.declared regions number t in
      let b = spell.lets regions (number + 1) ts in
      let e : (count + length a) + length b ≡ count + length (a ++ b) = omega (arith, length-append a b) in
      ap (starts true count) (append_assoc a b ys)
      ∙ let_starts count number t (b ++ ys)
      ∙ lets_start (count + length a) (number + 1) ts ys
      ∙ ap (λ k. starts true k ys) e

-- ---- units

-- the tokens of a unit begin points where the spelling has them
pub unit_starts : (u : Body) → starts false 0 (spell.unit u ++ (End ∷ [])) ≡ before_each u
unfolding same
unit_starts u =
    let rs = u.header.signature.regions in
    let h = spell.header u.header in
    let ls = spell.lets rs (first_let u.header) u.lets in
    let bs = spell.blocks rs 0 u.blocks in
    let close : List Token = Fixed s.CloseBrace ∷ End ∷ [] in
    let cut : (h ++ (Fixed s.OpenBrace ∷ (ls ++ (bs ++ (Fixed s.CloseBrace ∷ []))))) ++ (End ∷ []) ≡ h ++ (Fixed s.OpenBrace ∷ (ls ++ (bs ++ close))) = simp append_assoc in
    let e : ((0 + length h) + 1) + length ls ≡ length (h ++ (Fixed s.OpenBrace ∷ ls)) = omega (arith, length-append h (Fixed s.OpenBrace ∷ ls)) in
    ap (starts false 0) cut
    ∙ quiet_starts 0 h (Fixed s.OpenBrace ∷ (ls ++ (bs ++ close))) (header u.header)
    ∙ lets_start rs ((0 + length h) + 1) (first_let u.header) u.lets (bs ++ close)
    ∙ ap (λ k. starts true k (bs ++ close)) e
    ∙ blocks_start rs true (length (opening u)) 0 u.blocks

-- the walk notes the places of the points of a unit
pub noted_is : (u : Body) (ts : Tokens) → map token_of ts ≡ spell.unit u ++ (End ∷ []) → noted false [] ts ≡ map (place_behind ts) (before_each u)
noted_is u ts spelled = noted_starts ts 0 false [] ts refl ∙ ap (λ (l : List Token). map (place_behind ts) (starts false 0 l)) spelled ∙ ap (map (place_behind ts)) (unit_starts u)
