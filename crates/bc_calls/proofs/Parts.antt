-- A name's part of what is stored.
use Rattle.std.proofs.Common.{◌≡◌, List, refl, sym, ap, ◌∙◌, subst, Result, Ok, Err}
use Rattle.std.specs.Prelude.{IfOk}
use Rattle.bc_names.specs.Names.{NameParts}
use Rattle.bc_prov.specs.declared.outcome.Outcome.{Outcome}
use Rattle.bc_prov.specs.State.{State, at_name, state_of}
use Rattle.bc_prov.specs.Outcome.{IsOutcomeIn}
use Rattle.bc_prov.specs.Pieces.{ArePieces}
use Rattle.bc_prov.specs.Snapshots.{SnapshotView, IsPartOf}
use Rattle.bc_syntax.specs.declared.syntax.Declaration.{Declaration}
use Rattle.bc_syntax.specs.declared.syntax.Body.{Body}
use Rattle.bc_outcomes.proofs.Local.{outcome_same}
use Rattle.bc_memo.specs.Places.{AreFitting, PieceRows, ShelfView, units_in}
use Rattle.bc_memo.proofs.Found.{fitting_part}
use Rattle.bc_memo.proofs.Places.{units_at}
use Rattle.bc_calls.specs.declared.call.Entry.{Entry}
use Rattle.bc_calls.specs.Calls.{after}
use Rattle.bc_calls.specs.Answers.{IsShelfOf}
use Rattle.bc_calls.specs.Works.{WorkView, Stood}

-- the outcome of a snapshot is the outcome of the name whose part it is
pub part_outcome : (snapshot : SnapshotView) (name : NameParts) (state : State) (outcome : Outcome) → IsPartOf snapshot name state → IsOutcomeIn (state_of snapshot.types snapshot.units) snapshot.root outcome
    → IsOutcomeIn state name outcome
part_outcome snapshot name state outcome part is =
    let here = state_of snapshot.types snapshot.units in
    outcome_same here state name outcome (record { types = part.types; bodies = part.bodies }) (subst (λ (n : NameParts). IsOutcomeIn here n outcome) part.root is)

-- and the other way round
pub outcome_part : (snapshot : SnapshotView) (name : NameParts) (state : State) (outcome : Outcome) → IsPartOf snapshot name state → IsOutcomeIn state name outcome
    → IsOutcomeIn (state_of snapshot.types snapshot.units) snapshot.root outcome
outcome_part snapshot name state outcome part is =
    let here = state_of snapshot.types snapshot.units in
    subst (λ (n : NameParts). IsOutcomeIn here n outcome) (sym part.root)
    (outcome_same state here name outcome (record { types = sym part.types; bodies = λ other within. sym (part.bodies other within) }) is)

-- a shelf's part for a name is the name's part of what the history leaves
pub copied_part : (shelf : ShelfView) (h : List Entry) (name : NameParts) (snapshot : SnapshotView) → IsShelfOf shelf h → snapshot.types ≡ shelf.types → snapshot.root ≡ name → snapshot.units ≡ units_in name shelf.places
    → IsPartOf snapshot name (after h)
copied_part shelf h name snapshot of types root units = record {
  root = root;
  types = types ∙ of.types;
  bodies = λ other within. ap (λ us. at_name us other) units ∙ units_at name shelf.places other within ∙ of.bodies other;
}

-- a snapshot that equals a name's part is that part
pub same_part_of : (one other : SnapshotView) (name : NameParts) (state : State) → other.types ≡ one.types → other.root ≡ one.root → other.units ≡ one.units → IsPartOf one name state → IsPartOf other name state
same_part_of one other name state types root units part = record {
  root = root ∙ part.root;
  types = types ∙ part.types;
  bodies = λ n within. ap (λ us. at_name us n) units ∙ part.bodies n within;
}

-- the outcome of work whose inputs are still stored is the outcome now
pub stood_outcome : (shelf : ShelfView) (h : List Entry) (work : WorkView) (outcome : Outcome) → IsShelfOf shelf h → Stood shelf work outcome → IsOutcomeIn (after h) work.snapshot.root outcome
stood_outcome shelf h work outcome of stood =
    part_outcome work.snapshot work.snapshot.root (after h) outcome (copied_part shelf h work.snapshot.root work.snapshot of stood.types refl stood.units) stood.right

-- pieces of a name's part of what is stored fit what is stored
pub part_fitting : (shelf : ShelfView) (name : NameParts) (types : List Declaration) (units : List (NameParts × Body)) (rows : PieceRows) → types ≡ shelf.types → units ≡ units_in name shelf.places
    → ArePieces types units rows → AreFitting shelf rows
part_fitting shelf name types units rows same is are =
    fitting_part name shelf rows (subst (λ (x : List Declaration × List (NameParts × Body)). ArePieces x.0 x.1 rows) (λ i. (same i, is i)) are)

pub ok_map : {A E : Type 0} (r : Result A E) (P Q : A → Type 0) → ((a : A) → P a → Q a) → IfOk r P → IfOk r Q
ok_map (Ok a) P Q f h = f a h
ok_map (Err e) P Q f h = tt
