-- Pieces of a line, as an input lends them.
use Rattle.std.specs.Prelude.{◌≡◌, ◌≢◌, ℕ, ◌≤◌, List, [], ◌∷◌, ◌++◌, length, take, Option, OnSome}
use Rattle.std.specs.List.{All}
use Rattle.std.specs.Io.KnownBytes.{Consumes, IsAtEnd}
use Rattle.cli_input.specs.declared.piece.Met.{Met}
use Rattle.cli_input.specs.declared.piece.Met.TheVariants.{More, LineFeed, End}

-- some bytes have no line feed
abbrev pub HasNoFeed : List ℕ → Type 0
HasNoFeed bytes = All (λ b. b ≢ 10) bytes

-- the line feed of a piece, if it has one
abbrev pub feed_of : Met → List ℕ
feed_of More = []
feed_of LineFeed = 10 ∷ []
feed_of End = []

-- some bytes are cut after their first line feed, or not at all
pub record IsCut (bytes : List ℕ) (piece through : ℕ) (met : Met) : Type 0 where
  pub within : through ≤ length bytes
  pub shorter : piece ≤ through
  pub clean : HasNoFeed (take piece bytes)
  pub cut : take through bytes ≡ take piece bytes ++ feed_of met
  pub here : met ≢ End

-- a piece of a line was taken from an input, and at most `most` bytes of the line are kept
pub record TakesPiece (most : ℕ) (known known' : Option (List ℕ)) (line line' : List ℕ) (met : Met) : Type 0 where
  pub piece : List ℕ
  pub clean : HasNoFeed piece
  pub kept : line' ≡ take most (line ++ piece)
  pub taken : Consumes known known' (piece ++ feed_of met)
  pub ended : met ≡ End → OnSome known (IsAtEnd known')

-- these first bytes of a line were taken from an input, and at most `most` of them are kept
pub record HasBegun (most : ℕ) (known known' : Option (List ℕ)) (line : List ℕ) : Type 0 where
  pub bytes : List ℕ
  pub clean : HasNoFeed bytes
  pub kept : line ≡ take most bytes
  pub taken : Consumes known known' bytes
