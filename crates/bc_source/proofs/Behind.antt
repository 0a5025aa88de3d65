-- Where points begin, with the lines and columns there.
use Rattle.std.proofs.Common.{◌≡◌, ℕ, List, Option, Some, None, map, drop, refl, sym, ap, ◌∙◌, subst}
use Rattle.std.specs.Prelude.{slice_get, IfSome}
use Rattle.std.specs.Option.{option_map}
use Rattle.std.proofs.lemmas.List.{drop-map}
use Rattle.std.proofs.lemmas.Option.{slice_get-map}
use Rattle.bc_position.specs.Positions.{position_in}
use Rattle.bc_source.specs.declared.starts.Start.{Start}
use Rattle.bc_source.specs.Points.{start_in}

-- the start at an index after the first `before`
start_behind : (text places : List ℕ) (starts : List Start) (before index : ℕ) → starts ≡ map (start_in text) places
    → slice_get (drop before starts) index ≡ option_map (start_in text) (slice_get (drop before places) index)
start_behind text places starts before index are =
    ap (λ (l : List Start). slice_get (drop before l) index) are
    ∙ ap (λ (l : List Start). slice_get l index) (drop-map (start_in text) before places)
    ∙ slice_get-map (start_in text) (drop before places) index

position_of : (text : List ℕ) (place : Option ℕ) → IfSome (option_map (start_in text) place) (λ (start : Start). start.position ≡ position_in text start.at)
position_of text None = tt
position_of text (Some at) = refl

-- the start has the line and column of its byte
pub found_position : (text places : List ℕ) (starts : List Start) (before index : ℕ) (found : Option Start) → starts ≡ map (start_in text) places → found ≡ slice_get (drop before starts) index
    → IfSome found (λ (start : Start). start.position ≡ position_in text start.at)
found_position text places starts before index found are is =
    subst (λ (r : Option Start). IfSome r (λ (start : Start). start.position ≡ position_in text start.at)) (sym (is ∙ start_behind text places starts before index are)) (position_of text (slice_get (drop before places) index))
