-- `==` on outcomes decides `≡`.
use Rattle.std.proofs.Common.{◌≡◌, ◌&&◌, List, refl, ap}
use Rattle.std.specs.Bool.{Decides}
use Rattle.std.specs.Cmp.Lexicographic.{pointwise}
use Rattle.std.proofs.lemmas.Bool.Decides.{Decides-and, Decides-like, Decides-eqb}
use Rattle.std.proofs.lemmas.Slice.Eq.{slice_eq-Decides}
use Rattle.bc_syntax.proofs.Equality.{apart, declaration, region}
use Rattle.bc_names.proofs.Equality.{name}
use Rattle.bc_names.specs.Names.{NameParts, is_same_name}
use Rattle.bc_syntax.specs.declared.syntax.Declaration.{Declaration}
use Rattle.bc_bodies.specs.declared.mir.Point.{Point}
use Rattle.bc_mir.specs.declared.typed.Where.{Where}
use Rattle.bc_mir.specs.declared.typed.Where.TheVariants as wheres
use Rattle.bc_judge.specs.declared.error.BorrowError.{BorrowError}
use Rattle.bc_judge.specs.declared.error.BorrowError.TheVariants as errors
use Rattle.bc_prov.specs.Outcome.{OutcomeRows}
use Rattle.bc_prov.specs.declared.outcome.BodyErrors.{BodyErrors}
use Rattle.bc_prov.specs.declared.outcome.Outcome.{Outcome}
use Rattle.bc_prov.specs.declared.outcome.Outcome.TheVariants as outcomes
use Rattle.bc_bodies.specs.contracts.mir.PointPartialEq.TheImpl as point_impl
use Rattle.bc_mir.specs.contracts.typed.WherePartialEq.TheImpl as place_impl
use Rattle.bc_judge.specs.contracts.error.BorrowErrorPartialEq.TheImpl as error_impl
use Rattle.bc_prov.specs.contracts.outcome.BodyErrorsPartialEq.TheImpl as body_impl
use Rattle.bc_prov.specs.contracts.outcome.OutcomePartialEq.TheImpl as outcome_impl
use Rattle.bc_prov.specs.contracts.declared.DeclaredPartialEq.TheImpl as declared_impl

pub point : (a b : Point) → Decides ((point_impl.ghosts).eq a b) (a ≡ b)
point a b =
    Decides-like _ (λ p i. record { block = p.0 i; index = p.1 i }) (λ e. (ap (λ (r : Point). r.block) e, ap (λ (r : Point). r.index) e))
    (Decides-and _ _ (Decides-eqb a.block b.block) (Decides-eqb a.index b.index))

pub place : (a b : Where) → Decides ((place_impl.ghosts).eq a b) (a ≡ b)
place wheres.Header wheres.Header = (λ _. refl, λ _. refl)
place wheres.Header (wheres.At y) = apart (λ e. absurd (cc))
place (wheres.At x) wheres.Header = apart (λ e. absurd (cc))
place (wheres.At x) (wheres.At y) = Decides-like _ (λ p i. wheres.At (p i)) (λ e. cc) (point x y)

pub error : (a b : BorrowError) → Decides ((error_impl.ghosts).eq a b) (a ≡ b)
error (errors.Conflict x0 x1 x2 x3) (errors.Conflict y0 y1 y2 y3) = Decides-like _ (λ p i. errors.Conflict (p.0 i) (p.1.0 i) (p.1.1.0 i) (p.1.1.1 i)) (λ e. (cc, (cc, (cc, cc))))
    (Decides-and _ _ (point x0 y0) (Decides-and _ _ (Decides-eqb x1 y1) (Decides-and _ _ (point x2 y2) (slice_eq-Decides region x3 y3 _ refl))))
error (errors.Conflict x0 x1 x2 x3) (errors.Lifetime y0 y1 y2) = apart (λ e. absurd (cc))
error (errors.Lifetime x0 x1 x2) (errors.Conflict y0 y1 y2 y3) = apart (λ e. absurd (cc))
error (errors.Lifetime x0 x1 x2) (errors.Lifetime y0 y1 y2) = Decides-like _ (λ p i. errors.Lifetime (p.0 i) (p.1.0 i) (p.1.1 i)) (λ e. (cc, (cc, cc)))
    (Decides-and _ _ (Decides-eqb x0 y0) (Decides-and _ _ (Decides-eqb x1 y1) (slice_eq-Decides region x2 y2 _ refl)))

pub body : (a b : BodyErrors) → Decides ((body_impl.ghosts).eq a b) (a ≡ b)
body a b =
    Decides-like _ (λ p i. record { name = p.0 i; errors = p.1 i }) (λ e. (ap (λ (r : BodyErrors). r.name) e, ap (λ (r : BodyErrors). r.errors) e))
    (Decides-and _ _ (name a.name b.name) (slice_eq-Decides error a.errors b.errors _ refl))

pub outcome : (a b : Outcome) → Decides ((outcome_impl.ghosts).eq a b) (a ≡ b)
outcome outcomes.NoBody outcomes.NoBody = (λ _. refl, λ _. refl)
outcome outcomes.NoBody (outcomes.Missing y) = apart (λ e. absurd (cc))
outcome outcomes.NoBody (outcomes.BadTypes y) = apart (λ e. absurd (cc))
outcome outcomes.NoBody (outcomes.Ill y0 y1) = apart (λ e. absurd (cc))
outcome outcomes.NoBody (outcomes.Report y) = apart (λ e. absurd (cc))
outcome (outcomes.Missing x) outcomes.NoBody = apart (λ e. absurd (cc))
outcome (outcomes.Missing x) (outcomes.Missing y) = Decides-like _ (λ p i. outcomes.Missing (p i)) (λ e. cc) (name x y)
outcome (outcomes.Missing x) (outcomes.BadTypes y) = apart (λ e. absurd (cc))
outcome (outcomes.Missing x) (outcomes.Ill y0 y1) = apart (λ e. absurd (cc))
outcome (outcomes.Missing x) (outcomes.Report y) = apart (λ e. absurd (cc))
outcome (outcomes.BadTypes x) outcomes.NoBody = apart (λ e. absurd (cc))
outcome (outcomes.BadTypes x) (outcomes.Missing y) = apart (λ e. absurd (cc))
outcome (outcomes.BadTypes x) (outcomes.BadTypes y) = Decides-like _ (λ p i. outcomes.BadTypes (p i)) (λ e. cc) (Decides-eqb x y)
outcome (outcomes.BadTypes x) (outcomes.Ill y0 y1) = apart (λ e. absurd (cc))
outcome (outcomes.BadTypes x) (outcomes.Report y) = apart (λ e. absurd (cc))
outcome (outcomes.Ill x0 x1) outcomes.NoBody = apart (λ e. absurd (cc))
outcome (outcomes.Ill x0 x1) (outcomes.Missing y) = apart (λ e. absurd (cc))
outcome (outcomes.Ill x0 x1) (outcomes.BadTypes y) = apart (λ e. absurd (cc))
outcome (outcomes.Ill x0 x1) (outcomes.Ill y0 y1) = Decides-like _ (λ p i. outcomes.Ill (p.0 i) (p.1 i)) (λ e. (cc, cc)) (Decides-and _ _ (name x0 y0) (place x1 y1))
outcome (outcomes.Ill x0 x1) (outcomes.Report y) = apart (λ e. absurd (cc))
outcome (outcomes.Report x) outcomes.NoBody = apart (λ e. absurd (cc))
outcome (outcomes.Report x) (outcomes.Missing y) = apart (λ e. absurd (cc))
outcome (outcomes.Report x) (outcomes.BadTypes y) = apart (λ e. absurd (cc))
outcome (outcomes.Report x) (outcomes.Ill y0 y1) = apart (λ e. absurd (cc))
outcome (outcomes.Report x) (outcomes.Report y) = Decides-like _ (λ p i. outcomes.Report (p i)) (λ e. cc) (slice_eq-Decides body x y _ refl)

pub row : (a b : NameParts × Outcome) → Decides (is_same_name a.0 b.0 && (outcome_impl.ghosts).eq a.1 b.1) (a ≡ b)
row a b = Decides-like _ (λ p i. (p.0 i, p.1 i)) (λ e. (ap (λ (r : NameParts × Outcome). r.0) e, ap (λ (r : NameParts × Outcome). r.1) e)) (Decides-and _ _ (name a.0 b.0) (outcome a.1 b.1))

pub listing : (a b : OutcomeRows) → Decides (pointwise (λ (x y : NameParts × Outcome). is_same_name x.0 y.0 && (outcome_impl.ghosts).eq x.1 y.1) a b) (a ≡ b)
listing a b = slice_eq-Decides row a b _ refl

pub declared : (a b : List Declaration) → Decides ((declared_impl.ghosts).eq a b) (a ≡ b)
declared a b = slice_eq-Decides declaration a b _ refl
