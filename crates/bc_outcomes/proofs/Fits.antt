-- The pieces that come with an outcome are of the bodies at their names.
use Rattle.std.proofs.Common.{◌≡◌, ℕ, zero, suc, List, [], ◌∷◌, refl, sym, ap, ◌∙◌, subst, Option, Some, None}
use Rattle.std.specs.List.{AllByRecursion, AllZip, flat_map}
use Rattle.bc_syntax.specs.Children.{children_of}
use Rattle.bc_syntax.specs.declared.syntax.Declaration.{Declaration}
use Rattle.bc_syntax.specs.declared.syntax.Body.{Body}
use Rattle.bc_names.specs.Names.{NameParts}
use Rattle.bc_prov.specs.declared.outcome.Outcome.{Outcome}
use Rattle.bc_prov.specs.declared.outcome.Outcome.TheVariants.{NoBody, Missing, BadTypes, Ill, Report}
use Rattle.bc_prov.specs.Outcome.{units_over, units_within, units_at}
use Rattle.bc_prov.specs.Pieces.{PieceView, AreOver, ArePieces, AreSomeOf, IsPieceFor}
use Rattle.bc_prov.specs.State.{State, at_name, child, levels_from, state_of}
use Rattle.bc_prov.proofs.Sets.{some_all}
use Rattle.bc_outcomes.specs.Reported.{ArePiecesOf, IsPieceAt}
use Rattle.bc_outcomes.proofs.Folding.{all-append}

-- ---- the bodies of a visit are stored

-- the body is stored at its name
abbrev IsThere : State → NameParts × Body → Type 0
IsThere state unit = state.bodies unit.0 ≡ Some unit.1

held_below : (state : State) (below : ℕ → List (NameParts × Body)) (numbers : List ℕ) → ((number : ℕ) → AllByRecursion (IsThere state) (below number)) → AllByRecursion (IsThere state) (flat_map below numbers)
held_below state below [] each = tt
held_below state below (n ∷ ns) each = all-append (IsThere state) (below n) (flat_map below ns) (each n) (held_below state below ns each)

held_over : (state : State) (name : NameParts) (below : ℕ → List (NameParts × Body)) (o : Option Body) → state.bodies name ≡ o → ((number : ℕ) → AllByRecursion (IsThere state) (below number))
    → AllByRecursion (IsThere state) (units_over name below o)
held_over state name below None is each = tt
held_over state name below (Some body) is each = (is, held_below state below (children_of body) each)

held_within : (state : State) (levels : ℕ) (name : NameParts) → AllByRecursion (IsThere state) (units_within state levels name)
unfolding units_within
held_within state zero name = tt
held_within state (suc levels) name = held_over state name (λ number. units_within state levels (child name number)) (state.bodies name) refl (λ number. held_within state levels (child name number))

held_at : (state : State) (name : NameParts) → AllByRecursion (IsThere state) (units_at state name)
unfolding units_at
held_at state name = held_within state (levels_from name) name

-- ---- their pieces are of them

pieces_fit : (state : State) (units : List (NameParts × Body)) (pieces : List (NameParts × PieceView)) → AllByRecursion (IsThere state) units → AllZip (IsPieceAt state) units pieces
    → AllByRecursion (λ (p : NameParts × PieceView). IsPieceFor state.types (state.bodies p.0) p.1) pieces
pieces_fit state [] [] held are = tt
pieces_fit state [] (p ∷ pieces) held are = absurd are
pieces_fit state (u ∷ units) [] held are = absurd are
pieces_fit state (u ∷ units) (p ∷ pieces) held are = (
  record { types = are.0.held.types; unit = ap state.bodies are.0.named ∙ held.0 ∙ are.0.held.unit },
  pieces_fit state units pieces held.1 are.1,
)

none_fit : (types : List Declaration) (units : List (NameParts × Body)) (pieces : List (NameParts × PieceView)) → pieces ≡ [] → ArePieces types units pieces
none_fit types units pieces none = subst (ArePieces types units) (sym none) tt

outcome_fits : (types : List Declaration) (units : List (NameParts × Body)) (root : NameParts) (outcome : Outcome) (pieces : List (NameParts × PieceView)) → ArePiecesOf (state_of types units) root None outcome pieces → ArePieces types units pieces
outcome_fits types units root NoBody pieces are = none_fit types units pieces are
outcome_fits types units root (Missing absent) pieces are = none_fit types units pieces are
outcome_fits types units root (BadTypes index) pieces are = none_fit types units pieces are
outcome_fits types units root (Ill name place) pieces are = none_fit types units pieces are
outcome_fits types units root (Report found) pieces are = pieces_fit (state_of types units) (units_at (state_of types units) root) pieces (held_at (state_of types units) root) are.0

-- some of the pieces that come with an outcome are of the bodies at their names
pub some_fit : (types : List Declaration) (units : List (NameParts × Body)) (root : NameParts) (outcome : Outcome) (all left : List (NameParts × PieceView)) → ArePiecesOf (state_of types units) root None outcome all → AreSomeOf all left
    → ArePieces types units left
some_fit types units root outcome all left are some =
    subst (ArePieces types units) (sym some.1) (some_all (λ (p : NameParts × PieceView). IsPieceFor types (at_name units p.0) p.1) some.0 all (outcome_fits types units root outcome all are))

-- pieces of the bodies at their names were found from the declarations
pub fit_over : (types : List Declaration) (units : List (NameParts × Body)) (pieces : List (NameParts × PieceView)) → ArePieces types units pieces → AreOver types pieces
fit_over types units [] fit = tt
fit_over types units (p ∷ pieces) fit = (fit.0.types, fit_over types units pieces fit.1)
