-- A unit has as many places as points.
use Rattle.std.proofs.Common.{◌≡◌, ℕ, ◌+◌, List, [], ◌∷◌, length, Result, Ok, refl, ap, ◌∙◌, arith}
use Rattle.std.proofs.lemmas.List.{length-append, length-map}
use Rattle.std.proofs.lemmas.List.Sums.{sum_by-cons}
use Rattle.bc_syntax.specs.declared.syntax.RegionName.{RegionName}
use Rattle.bc_syntax.specs.declared.syntax.Statement.{Statement}
use Rattle.bc_syntax.specs.declared.syntax.Block.{Block}
use Rattle.bc_syntax.specs.declared.syntax.Body.{Body}
use Rattle.bc_syntax.specs.Fits.{point_count}
use Rattle.bc_syntax.specs.Spelling as spell
use Rattle.bc_tokens.specs.Token.{tokens}
use Rattle.bc_text.specs.declared.fault.ReadFault.{ReadFault}
use Rattle.bc_places.specs.Places.{before_points, before_blocks, before_each, place_behind, places_of}

module _ (regions : List RegionName) where
  points_count : (count : ℕ) (sts : List Statement) → length (before_points regions count sts) ≡ length sts + 1
  points_count count [] = refl
  points_count count (st ∷ sts) = let h = points_count (count + length (spell.line regions st)) sts in omega arith

  blocks_count : (count number : ℕ) (bs : List Block) → length (before_blocks regions count number bs) ≡ point_count bs
  blocks_count count number [] = refl
  blocks_count count number (b ∷ bs) =
      let here = before_points regions (count + 2) b.statements in
      let later = before_blocks regions (count + length (spell.block regions number b)) (number + 1) bs in
      let h = points_count (count + 2) b.statements in
      let k = blocks_count (count + length (spell.block regions number b)) (number + 1) bs in
      let more = sum_by-cons (λ (c : Block). length c.statements + 1) b bs in
      omega (arith, length-append here later, h, k, more)

-- one place for each point
pub one_each : (text : List ℕ) (u : Body) → length (places_of text u) ≡ point_count u.blocks
one_each text u = length-map (before_each u) (place_behind (tokens 0 0 text)) ∙ blocks_count u.header.signature.regions _ 0 u.blocks

same_unit : (answer : Result Body ReadFault) (u v : Body) → answer ≡ Ok u → answer ≡ Ok v → u ≡ v
same_unit answer u v is other = cc

-- one place for each point of the unit that is read
pub one_each_read : (text places : List ℕ) (answer : Result Body ReadFault) (u v : Body) → answer ≡ Ok u → places ≡ places_of text u → answer ≡ Ok v → length places ≡ point_count v.blocks
one_each_read text places answer u v is are other =
    let same : u ≡ v = same_unit answer u v is other in
    ap length are ∙ one_each text u ∙ ap (λ (w : Body). point_count w.blocks) same
