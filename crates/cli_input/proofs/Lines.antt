-- The first of some lines.
use Rattle.std.proofs.Common.{◌≡◌, ◌≢◌, ℕ, zero, suc, ◌+◌, ◌<◌, cond, List, [], ◌∷◌, ◌++◌, length, take, Option, Some, None, refl, ap, sym, ◌∙◌, arith, ne_eqb, append_assoc, append-nil}
use Rattle.std.specs.Io.KnownBytes.{Consumes}
use Rattle.std.specs.List.{onto_first}
use Rattle.std.proofs.lemmas.List.{length-take}
use Rattle.std.proofs.lemmas.List.Elements.{All-nil, All-head, All-tail, All-append}
use Rattle.cli_input.specs.declared.line.InputLine.{InputLine}
use Rattle.cli_input.specs.declared.piece.Met.TheVariants.{More, LineFeed, End}
use Rattle.cli_input.specs.Lines.{lines_of, IsLine, ReadsNext}
use Rattle.cli_input.specs.Pieces.{HasNoFeed, TakesPiece, HasBegun}

-- a line up to its line feed
line_cut : (line rest : List ℕ) → HasNoFeed line → lines_of (line ++ 10 ∷ rest) ≡ line ∷ lines_of rest
line_cut [] rest clean = refl
line_cut (b ∷ line) rest clean =
    ap (λ t. cond t ([] ∷ lines_of (line ++ 10 ∷ rest)) (onto_first b (lines_of (line ++ 10 ∷ rest)))) (ne_eqb b 10 (All-head (λ x. x ≢ 10) b line clean))
    ∙ ap (onto_first b) (line_cut line rest (All-tail (λ x. x ≢ 10) b line clean))

-- a last line without a line feed
last_line : (b : ℕ) (line : List ℕ) → HasNoFeed (b ∷ line) → lines_of (b ∷ line) ≡ (b ∷ line) ∷ []
last_line b [] clean = ap (λ t. cond t ([] ∷ []) (onto_first b [])) (ne_eqb b 10 (All-head (λ x. x ≢ 10) b [] clean))
last_line b (c ∷ line) clean =
    ap (λ t. cond t ([] ∷ lines_of (c ∷ line)) (onto_first b (lines_of (c ∷ line)))) (ne_eqb b 10 (All-head (λ x. x ≢ 10) b (c ∷ line) clean))
    ∙ ap (onto_first b) (last_line c line (All-tail (λ x. x ≢ 10) b (c ∷ line) clean))

last_lines : (line : List ℕ) → 0 < length line → HasNoFeed line → lines_of line ≡ line ∷ []
last_lines [] some clean = absurd (omega arith)
last_lines (b ∷ line) some clean = last_line b line clean

-- what is kept of a line that continues
keeps_more : (most : ℕ) (line piece : List ℕ) → take most (take most line ++ piece) ≡ take most (line ++ piece)
keeps_more zero line piece = refl
keeps_more (suc most) [] piece = refl
keeps_more (suc most) (b ∷ line) piece = ap (λ (t : List ℕ). b ∷ t) (keeps_more most line piece)

kept_so_far : (most : ℕ) (line line' bytes piece : List ℕ) → line ≡ take most bytes → line' ≡ take most (line ++ piece) → line' ≡ take most (bytes ++ piece)
kept_so_far most line line' bytes piece before now = now ∙ ap (λ (t : List ℕ). take most (t ++ piece)) before ∙ keeps_more most bytes piece

pub begins : (most : ℕ) (known : Option (List ℕ)) (line : List ℕ) → line ≡ [] → HasBegun most known known line
begins zero None line none = record { bytes = []; clean = All-nil (λ x. x ≢ 10); kept = none; taken = tt }
begins (suc most) None line none = record { bytes = []; clean = All-nil (λ x. x ≢ 10); kept = none; taken = tt }
begins zero (Some bytes) line none = record { bytes = []; clean = All-nil (λ x. x ≢ 10); kept = none; taken = refl }
begins (suc most) (Some bytes) line none = record { bytes = []; clean = All-nil (λ x. x ≢ 10); kept = none; taken = refl }

goes_on : (known mid new : Option (List ℕ)) (before piece feed : List ℕ) → Consumes known mid before → Consumes mid new (piece ++ feed) → feed ≡ [] → Consumes known new (before ++ piece)
goes_on None mid new before piece feed one two none = tt
goes_on (Some x) None new before piece feed one two none = absurd one
goes_on (Some x) (Some y) None before piece feed one two none = absurd two
goes_on (Some x) (Some y) (Some z) before piece feed one two none =
    one ∙ ap (λ (t : List ℕ). before ++ t) (two ∙ ap (λ (t : List ℕ). (piece ++ t) ++ z) none ∙ ap (λ (t : List ℕ). t ++ z) (append-nil piece)) ∙ sym (append_assoc before piece z)

-- the line continues
pub begins_more : (most : ℕ) (known mid new : Option (List ℕ)) (line line' : List ℕ) → HasBegun most known mid line → TakesPiece most mid new line line' More → HasBegun most known new line'
begins_more most known mid new line line' h p = record {
  bytes = h.bytes ++ p.piece;
  clean = All-append (λ x. x ≢ 10) h.bytes p.piece h.clean p.clean;
  kept = kept_so_far most line line' h.bytes p.piece h.kept p.kept;
  taken = goes_on known mid new h.bytes p.piece [] h.taken p.taken refl;
}

-- the line was read to its line feed
pub reads_line : (limit : ℕ) (known mid new : Option (List ℕ)) (line line' : List ℕ) (result : InputLine) → HasBegun (limit + 1) known mid line → TakesPiece (limit + 1) mid new line line' LineFeed
    → ((bytes : List ℕ) → line' ≡ take (limit + 1) bytes → IsLine limit bytes result) → ReadsNext limit known new (Some result)
reads_line limit None mid new line line' result h p is = tt
reads_line limit (Some x) None new line line' result h p is = absurd h.taken
reads_line limit (Some x) (Some y) None line line' result h p is = absurd p.taken
reads_line limit (Some x) (Some y) (Some z) line line' result h p is =
    let bytes : List ℕ = h.bytes ++ p.piece in
    let all : x ≡ bytes ++ 10 ∷ z =
    h.taken ∙ ap (λ (t : List ℕ). h.bytes ++ t) (p.taken ∙ append_assoc p.piece (10 ∷ []) z) ∙ sym (append_assoc h.bytes p.piece (10 ∷ z)) in (
      bytes,
      ap lines_of all ∙ line_cut bytes z (All-append (λ b. b ≢ 10) h.bytes p.piece h.clean p.clean),
      is bytes (kept_so_far (limit + 1) line line' h.bytes p.piece h.kept p.kept),
    )

-- the last line was read, which has no line feed
pub reads_last : (limit : ℕ) (known mid new : Option (List ℕ)) (line line' : List ℕ) (result : InputLine) → HasBegun (limit + 1) known mid line → TakesPiece (limit + 1) mid new line line' End → 0 < length line'
    → ((bytes : List ℕ) → line' ≡ take (limit + 1) bytes → IsLine limit bytes result) → ReadsNext limit known new (Some result)
reads_last limit None mid new line line' result h p some is = tt
reads_last limit (Some x) None new line line' result h p some is = absurd h.taken
reads_last limit (Some x) (Some y) None line line' result h p some is = absurd p.taken
reads_last limit (Some x) (Some y) (Some z) line line' result h p some is =
    let bytes : List ℕ = h.bytes ++ p.piece in
    let done : z ≡ [] = p.ended refl in
    let kept : line' ≡ take (limit + 1) bytes = kept_so_far (limit + 1) line line' h.bytes p.piece h.kept p.kept in
    let all : x ≡ bytes = goes_on (Some x) (Some y) (Some z) h.bytes p.piece [] h.taken p.taken refl ∙ ap (λ (t : List ℕ). bytes ++ t) done ∙ append-nil bytes in (
      bytes,
      ap lines_of all ∙ last_lines bytes (omega (arith, ap length kept, length-take (limit + 1) bytes)) (All-append (λ b. b ≢ 10) h.bytes p.piece h.clean p.clean)
          ∙ ap (λ (t : List (List ℕ)). bytes ∷ t) (sym (ap lines_of done)),
      is bytes kept,
    )

empty_take : (n : ℕ) (bytes : List ℕ) → take (suc n) bytes ≡ [] → bytes ≡ []
empty_take n [] none = refl
empty_take n (b ∷ bytes) none = cc

-- there is no line left
pub reads_none : (limit : ℕ) (known mid new : Option (List ℕ)) (line line' : List ℕ) → HasBegun (limit + 1) known mid line → TakesPiece (limit + 1) mid new line line' End → length line' ≡ 0 → ReadsNext limit known new None
reads_none limit None mid new line line' h p none = tt
reads_none limit (Some x) None new line line' h p none = absurd h.taken
reads_none limit (Some x) (Some y) None line line' h p none = absurd p.taken
reads_none limit (Some x) (Some y) (Some z) line line' h p none =
    let bytes : List ℕ = h.bytes ++ p.piece in
    let done : z ≡ [] = p.ended refl in
    let kept : line' ≡ take (limit + 1) bytes = kept_so_far (limit + 1) line line' h.bytes p.piece h.kept p.kept in
    let nothing : length bytes ≡ 0 = omega (arith, ap length kept, length-take (limit + 1) bytes) in
    let all : x ≡ bytes = goes_on (Some x) (Some y) (Some z) h.bytes p.piece [] h.taken p.taken refl ∙ ap (λ (t : List ℕ). bytes ++ t) done ∙ append-nil bytes in
    (ap lines_of (all ∙ is_empty bytes nothing), ap lines_of done)
  where
    is_empty : (bytes : List ℕ) → length bytes ≡ 0 → bytes ≡ []
    is_empty [] e = refl
    is_empty (b ∷ bytes) e = absurd (omega arith)
