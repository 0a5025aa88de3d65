-- Pieces that were found from the same declarations.
use Rattle.std.proofs.Common.{◌≡◌, ℕ, zero, suc, ◌<◌, Bool, true, false, List, [], ◌∷◌, ◌++◌, length, get_or, subst, arith, Option, Some, None}
use Rattle.std.specs.List.{AllByRecursion, items_where_true}
use Rattle.bc_syntax.specs.declared.syntax.Declaration.{Declaration}
use Rattle.bc_syntax.specs.declared.syntax.Body.{Body}
use Rattle.bc_names.specs.Names.{NameParts}
use Rattle.std.specs.Prelude.{IfSome}
use Rattle.std.proofs.Common.{Vec, Global}
use Rattle.bc_prov.specs.Pieces.{PieceView, AreOver, ArePieces, IsPieceFor}
use Rattle.bc_prov.specs.Snapshots.{PieceList, IsAmongPieces}
use Rattle.bc_prov.specs.State.{at_name}

-- what is true of all is true of some of them
pub some_all : {X : Type 0} (P : X → Type 0) (stays : List Bool) (all : List X) → AllByRecursion P all → AllByRecursion P (items_where_true stays all)
some_all P [] all are = tt
some_all P (b ∷ stays) [] are = tt
some_all P (true ∷ stays) (x ∷ all) are = (are.0, some_all P stays all are.1)
some_all P (false ∷ stays) (x ∷ all) are = some_all P stays all are.1

-- pieces over these declarations are of a list's bodies if the list has their units at their names
pub pieces_for : (types : List Declaration) (units : List (NameParts × Body)) (pieces : List (NameParts × PieceView)) → AreOver types pieces
    → AllByRecursion (λ (p : NameParts × PieceView). at_name units p.0 ≡ Some p.1.unit) pieces → ArePieces types units pieces
pieces_for types units [] over has = tt
pieces_for types units (p ∷ pieces) over has = (record { types = over.0; unit = has.0 }, pieces_for types units pieces over.1 has.1)

-- what is true of all elements of two lists is true of all in both together
pub all_append : {X : Type 0} (P : X → Type 0) (xs ys : List X) → AllByRecursion P xs → AllByRecursion P ys → AllByRecursion P (xs ++ ys)
all_append P [] ys one two = two
all_append P (x ∷ xs) ys one two = (one.0, all_append P xs ys one.1 two)

-- what is true of all is true at each index
pub by_index : {X : Type 0} (P : X → Type 0) (xs : List X) (i : ℕ) (d : X) → AllByRecursion P xs → i < length xs → P (get_or xs i d)
by_index P [] i d all within = absurd (omega (arith, within))
by_index P (x ∷ xs) zero d all within = all.0
by_index P (x ∷ xs) (suc i) d all within = by_index P xs i d all.1 (omega (arith, within))

-- an implication for each value holds for an optional value
pub some_map : {X : Type 0} (o : Option X) (P Q : X → Type 0) → ((x : X) → P x → Q x) → IfSome o P → IfSome o Q
some_map None P Q then is = tt
some_map (Some x) P Q then is = then x is

-- a piece among pieces of bodies is of the body at its name
pub among_for : (types : List Declaration) (units : List (NameParts × Body)) (pieces : PieceList) (name : NameParts) (piece : PieceView)
    → IfSome pieces (λ (ps : Vec (NameParts × PieceView) Global). ArePieces types units ps.items) → IsAmongPieces pieces name piece → IsPieceFor types (at_name units name) piece
among_for types units None name piece are among = absurd among
among_for types units (Some pieces) name piece are among =
    subst (λ (p : NameParts × PieceView). IsPieceFor types (at_name units p.0) p.1) among.2
    (by_index (λ (p : NameParts × PieceView). IsPieceFor types (at_name units p.0) p.1) pieces.items among.0 (name, piece) are among.1)
