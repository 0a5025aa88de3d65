-- A piece of a line.
use Rattle.std.proofs.Common.{◌≡◌, ◌≢◌, ℕ, zero, suc, OnSome, ◌+◌, ◌-◌, ◌≤◌, min, List, [], ◌∷◌, ◌++◌, length, take, Option, Some, None, refl, ap, sym, ◌∙◌, arith, subst, append-nil}
use Rattle.std.specs.Io.KnownBytes.{Consumes, Keeps, IsAtEnd}
use Rattle.std.proofs.KnownBytes.{Consumes-nil, Consumes-kept}
use Rattle.std.proofs.Math.Seq.{take-append-add}
use Rattle.std.proofs.lemmas.List.{take_all}
use Rattle.std.proofs.lemmas.List.Elements.{All-nil}
use Rattle.cli_input.specs.declared.piece.Met.{Met}
use Rattle.cli_input.specs.declared.piece.Met.TheVariants.{More, End}
use Rattle.cli_input.specs.Pieces.{IsCut, TakesPiece}

take_both : (r piece : ℕ) (shown : List ℕ) (n : ℕ) → n ≡ min piece r → take r (take piece shown) ≡ take n shown
take_both zero piece shown n is = let none : 0 ≡ n = omega arith in ap (λ k. take k shown) none
take_both (suc r) zero shown n is = let none : 0 ≡ n = omega arith in ap (λ k. take k shown) none
take_both (suc r) (suc piece) [] n is = let more : suc (min piece r) ≡ n = omega arith in ap (λ k. take k []) more
take_both (suc r) (suc piece) (b ∷ shown) n is =
    let more : suc (min piece r) ≡ n = omega arith in
    ap (λ (t : List ℕ). b ∷ t) (take_both r piece shown (min piece r) refl) ∙ ap (λ k. take k (b ∷ shown)) more

-- what is kept of a piece
pub kept_of : (most : ℕ) (line shown : List ℕ) (piece n : ℕ) → length line ≤ most → n ≡ min piece (most - length line) → line ++ take n shown ≡ take most (line ++ take piece shown)
kept_of most line shown piece n room is =
    let r : ℕ = most - length line in
    let sum : length line + r ≡ most = omega arith in
    ap (λ (t : List ℕ). line ++ t) (sym (take_both r piece shown n is)) ∙ sym (take-append-add line (take piece shown) r) ∙ ap (λ k. take k (line ++ take piece shown)) sum

-- nothing is taken yet
pub takes_nothing : (most : ℕ) (known known' : Option (List ℕ)) (line : List ℕ) → length line ≤ most → Keeps known known' → TakesPiece most known known' line line More
takes_nothing most known known' line room kept = record {
  piece = [];
  clean = All-nil (λ x. x ≢ 10);
  kept = sym (ap (take most) (append-nil line) ∙ take_all most line room);
  taken = Consumes-kept _ _ _ [] (Consumes-nil _) kept;
  ended = λ e. absurd cc;
}

at_end : (known known' : Option (List ℕ)) → Keeps known known' → IsAtEnd known → OnSome known (IsAtEnd known')
at_end None known' kept none = tt
at_end (Some x) None kept none = absurd kept
at_end (Some x) (Some y) kept none = kept ∙ none

-- there is nothing left to take
pub takes_end : (most : ℕ) (known known' : Option (List ℕ)) (line : List ℕ) → length line ≤ most → Keeps known known' → IsAtEnd known → TakesPiece most known known' line line End
takes_end most known known' line room kept none = record {
  piece = [];
  clean = All-nil (λ x. x ≢ 10);
  kept = sym (ap (take most) (append-nil line) ∙ take_all most line room);
  taken = Consumes-kept _ _ _ [] (Consumes-nil _) kept;
  ended = λ e. at_end known known' kept none;
}

-- a piece is taken
pub takes_piece : (most : ℕ) (known known' : Option (List ℕ)) (line shown : List ℕ) (piece through n : ℕ) (met : Met) → length line ≤ most → n ≡ min piece (most - length line) → IsCut shown piece through met → Consumes known known' (take through shown) → TakesPiece most known known' line (line ++ take n shown) met
takes_piece most known known' line shown piece through n met room is cut taken = record {
  piece = take piece shown;
  clean = cut.clean;
  kept = kept_of most line shown piece n room is;
  taken = subst (Consumes known known') cut.cut taken;
  ended = λ e. absurd (cut.here e);
}
