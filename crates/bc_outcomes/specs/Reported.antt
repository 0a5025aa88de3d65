-- The pieces of the bodies in a report.
use Rattle.std.specs.Prelude.{◌≡◌, ℕ, List, [], map, Option, Some, None}
use Rattle.std.specs.List.{AllZip}
use Rattle.bc_syntax.specs.declared.syntax.Body.{Body}
use Rattle.bc_syntax.specs.Children.{children_of}
use Rattle.bc_names.specs.Names.{NameParts}
use Rattle.bc_bodies.specs.declared.children.Child.{Child}
use Rattle.bc_cons.specs.declared.requirements.Requirements.{Requirements}
use Rattle.bc_judge.specs.declared.verdict.Verdict.{Verdict}
use Rattle.bc_prov.specs.declared.outcome.BodyErrors.{BodyErrors}
use Rattle.bc_prov.specs.declared.outcome.Outcome.{Outcome}
use Rattle.bc_prov.specs.declared.outcome.Outcome.TheVariants.{NoBody, Missing, BadTypes, Ill, Report}
use Rattle.bc_prov.specs.State.{State, child, mir_at}
use Rattle.bc_prov.specs.Verdicts.{IsVerdictAt, requirements_by}
use Rattle.bc_prov.specs.Outcome.{units_at}
use Rattle.bc_prov.specs.Pieces.{PieceView, AreSomeOf, IsPieceFor}

-- the header of a child that comes with what it requires
abbrev pub kid_header : Child × Requirements → Child
kid_header kid = kid.0

-- the number of a child, and what it requires
abbrev pub kid_requirements : Child × Requirements → ℕ × Requirements
kid_requirements kid = (kid.0.number, kid.1)

-- the closures of a body at a name require this, each by the verdict on it
pub record AreKidsAt (state : State) (name : NameParts) (body : Body) (kids : List (ℕ × Requirements)) : Type 0 where
  pub verdicts : List Verdict
  pub judged : AllZip (λ number. IsVerdictAt state (child name number)) (children_of body) verdicts
  pub required : kids ≡ requirements_by (children_of body) verdicts

-- the entry is a piece of the visited body, and has the verdict at that name
pub record IsPieceAt (state : State) (unit : NameParts × Body) (entry : NameParts × PieceView) : Type 0 where
  pub named : entry.0 ≡ unit.0
  pub held : IsPieceFor state.types (Some unit.1) entry.1
  pub typed : entry.1.mir ≡ mir_at state unit.0 unit.1
  pub kids : AreKidsAt state unit.0 unit.1 entry.1.kids
  pub is_verdict : IsVerdictAt state unit.0 entry.1.verdict

-- the errors of a piece, under its name
abbrev pub errors_in : NameParts × PieceView → BodyErrors
errors_in entry = record { name = entry.0; errors = entry.1.verdict.errors }

-- a report that is not carried comes with the pieces of its bodies, one for each, which have the reported errors; any other outcome comes
-- with none
abbrev pub ArePiecesOf : State → NameParts → Option Outcome → Outcome → List (NameParts × PieceView) → Type 0
ArePiecesOf state root (Some carried) outcome pieces = pieces ≡ []
ArePiecesOf state root None NoBody pieces = pieces ≡ []
ArePiecesOf state root None (Missing absent) pieces = pieces ≡ []
ArePiecesOf state root None (BadTypes index) pieces = pieces ≡ []
ArePiecesOf state root None (Ill name place) pieces = pieces ≡ []
ArePiecesOf state root None (Report found) pieces = AllZip (IsPieceAt state) (units_at state root) pieces × (found ≡ map errors_in pieces)

-- these are some of the pieces that come with an outcome
abbrev pub AreAmongPiecesOf : State → NameParts → Option Outcome → Outcome → List (NameParts × PieceView) → Type 0
AreAmongPiecesOf state root carried outcome pieces = (all : List (NameParts × PieceView)) × ArePiecesOf state root carried outcome all × AreSomeOf all pieces
