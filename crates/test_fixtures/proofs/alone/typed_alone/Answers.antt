use Rattle.std.proofs.Common.{◌≡◌, ◌<◌, ℕ, List, [], ◌∷◌, length, refl, ap, ◌∙◌, arith}
use Rattle.bc_syntax.specs.Children.{children_of}
use Rattle.test_fixtures.proofs.alone.typed_alone.Goals as goal

none-left : (numbers : List ℕ) → length numbers < 1 → [] ≡ numbers
none-left [] below = refl
none-left (number ∷ numbers) below = absurd (omega (arith, below))

-- the empty list of children has no number
pub type_unit-requires : goal.type_unit-requires
type_unit-requires c = record {
  kids = none-left c.as_slice.result.now c.in-empty.len_below ∙ c.as_slice.ensures.value ∙ c.in_ok-children.ensures.value ∙ ap children_of c.body.ensures.value;
}
