-- Pieces: the verdict on one body, with all that it was found from.
use Rattle.std.specs.Prelude.{◌≡◌, ℕ, Bool, List, [], filter, map, Option, Some, None}
use Rattle.std.specs.List.{AllByRecursion, items_where_true}
use Rattle.std.specs.List.Sorted.{IsSortedByKey}
use Rattle.std.specs.Ordering.{is_eq}
use Rattle.bc_syntax.specs.declared.syntax.Declaration.{Declaration}
use Rattle.bc_syntax.specs.declared.syntax.Body.{Body}
use Rattle.bc_syntax.specs.Children.{children_of}
use Rattle.bc_names.specs.Names.{NameParts, name_order}
use Rattle.bc_bodies.specs.Mir.{Mir, mir_of}
use Rattle.bc_mir.specs.Typing.{misfit}
use Rattle.bc_cons.specs.declared.requirements.Requirements.{Requirements}
use Rattle.bc_cons.specs.Requirements.{MayGoUp}
use Rattle.bc_judge.specs.declared.verdict.Verdict.{Verdict}
use Rattle.bc_prov.specs.State.{at_name, number_of_child}
use Rattle.bc_prov.specs.Verdicts.{IsVerdictOf}

-- declarations, a unit, its MIR over them and the headers of its children, what the children require, and the verdict
pub record PieceView : Type 0 where
  pub types : List Declaration
  pub unit : Body
  pub mir : Mir
  pub kids : List (ℕ × Requirements)
  pub verdict : Verdict

-- the unit keeps every typing rule over the declarations and the header of each of its children
pub record IsFitted (types : List Declaration) (unit : Body) (mir : Mir) : Type 0 where
  pub over : mir ≡ mir_of types mir.children unit
  pub numbered : map number_of_child mir.children ≡ children_of unit
  pub fits : misfit mir ≡ None

-- the verdict is right for the unit by definition, and its creator can be asked to meet what it requires
pub record IsPiece (piece : PieceView) : Type 0 where
  pub fitted : IsFitted piece.types piece.unit piece.mir
  pub judged : IsVerdictOf piece.mir piece.kids piece.verdict
  pub goes_up : MayGoUp piece.mir.externals piece.verdict.requirements

-- the piece is right, and was found from all of these
pub record IsFoundFrom (of_types : List Declaration) (of_unit : Body) (of_mir : Mir) (of_kids : List (ℕ × Requirements)) (piece : PieceView) : Type 0 where
  pub types : piece.types ≡ of_types
  pub unit : piece.unit ≡ of_unit
  pub mir : piece.mir ≡ of_mir
  pub kids : piece.kids ≡ of_kids
  pub right : IsPiece piece

-- the piece is of the stored body, over these declarations
pub record IsPieceFor (held_types : List Declaration) (held : Option Body) (piece : PieceView) : Type 0 where
  pub types : piece.types ≡ held_types
  pub unit : held ≡ Some piece.unit

-- each piece is of the body that a list has at its name, over these declarations
abbrev pub ArePieces : List Declaration → List (NameParts × Body) → List (NameParts × PieceView) → Type 0
ArePieces types units pieces = AllByRecursion (λ (p : NameParts × PieceView). IsPieceFor types (at_name units p.0) p.1) pieces

-- the names of pieces ascend; a name may occur several times
abbrev pub AreAscending : List (NameParts × PieceView) → Type 0
AreAscending pieces = IsSortedByKey (λ (p : NameParts × PieceView). p.0) name_order pieces

-- the pieces of a name, in their order
abbrev pub pieces_at : NameParts → List (NameParts × PieceView) → List (NameParts × PieceView)
pieces_at name pieces = filter (λ (p : NameParts × PieceView). is_eq (name_order p.0 name)) pieces

-- each piece was found from these declarations
abbrev pub AreOver : List Declaration → List (NameParts × PieceView) → Type 0
AreOver types pieces = AllByRecursion (λ (p : NameParts × PieceView). p.1.types ≡ types) pieces

-- pieces that were found from the same declarations, with these
pub record PieceSetView : Type 0 where
  pub types : List Declaration
  pub rows : List (NameParts × PieceView)

-- the pieces of a set, if there is one
abbrev pub rows_of : Option PieceSetView → List (NameParts × PieceView)
rows_of None = []
rows_of (Some set) = set.rows

-- these are some of the pieces, in their order
abbrev pub AreSomeOf : List (NameParts × PieceView) → List (NameParts × PieceView) → Type 0
AreSomeOf all left = (stays : List Bool) × (left ≡ items_where_true stays all)
