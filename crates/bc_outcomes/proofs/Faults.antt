-- What a fault can be.
use Rattle.std.proofs.Common.{◌≡◌, ℕ, zero, suc, List, [], ◌∷◌, subst, Option, Some, None}
use Rattle.std.specs.Option.{option_map, option_or}
use Rattle.bc_names.specs.Names.{NameParts}
use Rattle.bc_syntax.specs.Children.{children_of}
use Rattle.bc_mir.specs.Typing.{misfit}
use Rattle.bc_syntax.specs.declared.syntax.Body.{Body}
use Rattle.bc_mir.specs.declared.typed.Where.{Where}
use Rattle.bc_prov.specs.declared.outcome.Outcome.{Outcome}
use Rattle.bc_prov.specs.declared.outcome.Outcome.TheVariants.{NoBody, Missing, BadTypes, Ill, Report}
use Rattle.bc_prov.specs.State.{State, child, levels_from, mir_at}
use Rattle.bc_prov.specs.Outcome.{absent_among, own_fault, first_among, fault_over, fault_within, fault_at}
use Rattle.bc_prov.specs.Pieces.{PieceView}
use Rattle.bc_outcomes.specs.Reported.{ArePiecesOf}

-- the fault is an absent child or a misfit, if there is one
abbrev IsFault : Option Outcome → Type 0
IsFault None = Unit {0}
IsFault (Some NoBody) = ⊥
IsFault (Some (Missing absent)) = Unit {0}
IsFault (Some (BadTypes index)) = ⊥
IsFault (Some (Ill name place)) = Unit {0}
IsFault (Some (Report found)) = ⊥

or_fault : (a b : Option Outcome) → IsFault a → IsFault b → IsFault (option_or a b)
or_fault None b h k = k
or_fault (Some o) b h k = h

missing_fault : (absent : Option NameParts) → IsFault (option_map Missing absent)
missing_fault None = tt
missing_fault (Some name) = tt

ill_fault : (name : NameParts) (place : Option Where) → IsFault (option_map (Ill name) place)
ill_fault name None = tt
ill_fault name (Some place) = tt

first_fault : (f : ℕ → Option Outcome) (numbers : List ℕ) → ((number : ℕ) → IsFault (f number)) → IsFault (first_among f numbers)
first_fault f [] each = tt
first_fault f (n ∷ ns) each = or_fault (f n) (first_among f ns) (each n) (first_fault f ns each)

over_fault : (state : State) (name : NameParts) (f : ℕ → Option Outcome) (o : Option Body) → ((number : ℕ) → IsFault (f number)) → IsFault (fault_over state name f o)
over_fault state name f None each = tt
over_fault state name f (Some body) each =
    or_fault (own_fault state name body) (first_among f (children_of body))
    (or_fault (option_map Missing (absent_among state name (children_of body))) (option_map (Ill name) (misfit (mir_at state name body))) (missing_fault (absent_among state name (children_of body))) (ill_fault name (misfit (mir_at state name body))))
    (first_fault f (children_of body) each)

within_fault : (state : State) (levels : ℕ) (name : NameParts) → IsFault (fault_within state levels name)
unfolding fault_within
within_fault state zero name = tt
within_fault state (suc levels) name = over_fault state name (λ number. fault_within state levels (child name number)) (state.bodies name) (λ number. within_fault state levels (child name number))

at_fault : (state : State) (name : NameParts) → IsFault (fault_at state name)
unfolding fault_at
at_fault state name = within_fault state (levels_from name) name

no_pieces : (state : State) (root : NameParts) (fault : Outcome) (pieces : List (NameParts × PieceView)) → IsFault (Some fault) → pieces ≡ [] → ArePiecesOf state root None fault pieces
no_pieces state root NoBody pieces is e = e
no_pieces state root (Missing absent) pieces is e = e
no_pieces state root (BadTypes index) pieces is e = e
no_pieces state root (Ill name place) pieces is e = e
no_pieces state root (Report found) pieces is e = absurd is

-- a fault comes without pieces
pub pieces_of_fault : (state : State) (root : NameParts) (fault : Outcome) (pieces : List (NameParts × PieceView)) → fault_at state root ≡ Some fault → pieces ≡ [] → ArePiecesOf state root None fault pieces
pieces_of_fault state root fault pieces is e = no_pieces state root fault pieces (subst IsFault is (at_fault state root)) e
