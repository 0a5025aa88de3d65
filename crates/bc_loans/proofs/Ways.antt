-- A loan walks to the points where it is in scope.
use Rattle.std.proofs.Common.{◌≡◌, ℕ, ◌↔◌, Bool, true, not, List, [], ◌∷◌, ◌++◌, Option, Some, None, IsTrue, refl, sym, ◌∙◌, subst}
use Rattle.std.specs.Prelude.{slice_get, MatchOption}
use Rattle.std.specs.List.{All}
use Rattle.std.specs.Option.{option_map_or}
use Rattle.std.proofs.lemmas.Bool.{both_ways, not-true, not_from_false, false_from_ne_true}
use Rattle.std.proofs.lemmas.List.Elements.{All-nil, All-cons, All-head, All-tail, All-push}
use Rattle.bc_flow.specs.Graph.{HasEdge, IsPath}
use Rattle.bc_flow.specs.Reach.{Reaches, begins, goes_on}
use Rattle.bc_flow.proofs.Ways.{end_of-after, path_after}
use Rattle.bc_syntax.specs.declared.syntax.Place.{Place}
use Rattle.bc_bodies.specs.declared.mir.Step.{Step}
use Rattle.bc_bodies.specs.Mir.{Mir, edges_of}
use Rattle.bc_points.specs.declared.loan.Loan.{Loan}
use Rattle.bc_points.specs.Points.{kills, Kills}
use Rattle.bc_points.specs.Regions.{region_number}
use Rattle.bc_loans.specs.Loans.{loans_of}
use Rattle.bc_loans.specs.Overwrites.{keeps}
use Rattle.bc_loans.specs.Scope.{IsInScope}
use Rattle.bc_loans.specs.Walks.{IsWalked}
use Rattle.bc_loans.proofs.Listing.{same_found}

-- ---- what is kept is not overwritten

step_kept : (path : Place) (found : Option Step) → (option_map_or (λ (step : Step). not (kills path step.instruction)) found true ≡ true) ↔ ¬ (MatchOption found ⊥ (λ step. IsTrue (kills path step.instruction)))
step_kept path None = (λ _ h. h, λ _. refl)
step_kept path (Some step) = (
  λ h k. both_ways (kills path step.instruction) (not-true (kills path step.instruction) h) k,
  λ h. not_from_false (kills path step.instruction) (false_from_ne_true (kills path step.instruction) h),
)

kept_is : (mir : Mir) (path : Place) (p : ℕ) → (keeps mir.steps path p ≡ true) ↔ ¬ (Kills mir path p)
kept_is mir path p = step_kept path (slice_get mir.steps p)

-- ---- walks and paths

-- the points in the value of a loan's region
abbrev Inside : Mir → (ℕ → ℕ → Bool) → ℕ × Loan → ℕ → Type 0
Inside mir value made p = value (region_number mir.universals made.1.region) p ≡ true

-- the walk of a loan that is made at the point
abbrev Walked : Mir → (ℕ → ℕ → Bool) → ℕ × Loan → ℕ → Type 0
Walked mir value made = Reaches (edges_of mir) (keeps mir.steps made.1.path) (value (region_number mir.universals made.1.region)) made.0

-- a path of a loan in scope, without the loan's number
record Way (mir : Mir) (value : ℕ → ℕ → Bool) (made : ℕ × Loan) (point : ℕ) : Type 0 where
  between : List ℕ
  is_path : IsPath (edges_of mir) (made.0 ∷ (between ++ point ∷ []))
  inside : All (Inside mir value made) (between ++ point ∷ [])
  kept : All (λ p. ¬ (Kills mir made.1.path p)) (made.0 ∷ between)

way_from_walk : (mir : Mir) (value : ℕ → ℕ → Bool) (made : ℕ × Loan) (p : ℕ) → Walked mir value made p → Way mir value made p
way_from_walk mir value made p (begins n lets edge into) = record {
  between = [];
  is_path = (edge, tt);
  inside = All-cons (Inside mir value made) n [] into (All-nil (Inside mir value made));
  kept = All-cons (λ q. ¬ (Kills mir made.1.path q)) made.0 [] ((kept_is mir made.1.path made.0).0 lets) (All-nil (λ q. ¬ (Kills mir made.1.path q)));
}
way_from_walk mir value made p (goes_on m n before lets edge into) =
    let way = way_from_walk mir value made m before in
    record {
      between = way.between ++ m ∷ [];
      is_path = path_after (edges_of mir) made.0 (way.between ++ m ∷ []) n way.is_path (rw (end_of-after made.0 way.between m) edge);
      inside = All-push (Inside mir value made) (way.between ++ m ∷ []) n way.inside into;
      kept = All-push (λ q. ¬ (Kills mir made.1.path q)) (made.0 ∷ way.between) m way.kept ((kept_is mir made.1.path m).0 lets);
    }

-- from a point whose edges the walk follows
walk_along : (mir : Mir) (value : ℕ → ℕ → Bool) (made : ℕ × Loan) (a : ℕ) (between : List ℕ) (q : ℕ) →
    ((n : ℕ) → HasEdge (edges_of mir) a n → Inside mir value made n → Walked mir value made n) →
    IsPath (edges_of mir) (a ∷ (between ++ q ∷ [])) → All (Inside mir value made) (between ++ q ∷ []) → All (λ p. ¬ (Kills mir made.1.path p)) between → Walked mir value made q
walk_along mir value made a [] q follows path inside kept = follows q path.0 (All-head (Inside mir value made) q [] inside)
walk_along mir value made a (b ∷ rest) q follows path inside kept =
    let here : Walked mir value made b = follows b path.0 (All-head (Inside mir value made) b (rest ++ q ∷ []) inside) in
    let lets = (kept_is mir made.1.path b).1 (All-head (λ p. ¬ (Kills mir made.1.path p)) b rest kept) in
    walk_along mir value made b rest q (λ n edge into. goes_on b n here lets edge into) path.1
    (All-tail (Inside mir value made) b (rest ++ q ∷ []) inside) (All-tail (λ p. ¬ (Kills mir made.1.path p)) b rest kept)

walk_from_way : (mir : Mir) (value : ℕ → ℕ → Bool) (made : ℕ × Loan) (p : ℕ) → Way mir value made p → Walked mir value made p
walk_from_way mir value made p way =
    let lets = (kept_is mir made.1.path made.0).1 (All-head (λ q. ¬ (Kills mir made.1.path q)) made.0 way.between way.kept) in
    walk_along mir value made made.0 way.between p (λ n edge into. begins n lets edge into) way.is_path way.inside
    (All-tail (λ q. ¬ (Kills mir made.1.path q)) made.0 way.between way.kept)

-- ---- scopes

scope_of : (mir : Mir) (value : ℕ → ℕ → Bool) (l p : ℕ) (found : Option (ℕ × Loan)) → slice_get (loans_of mir) l ≡ found →
    MatchOption found ⊥ (λ made. Walked mir value made p) ↔ IsInScope mir value l p
scope_of mir value l p None is = (λ h. absurd h, λ h. absurd (let bad : None ≡ Some h.made = sym is ∙ h.is_loan in cc))
scope_of mir value l p (Some made) is = (
  λ h.
      let way = way_from_walk mir value made p h in
      record { made = made; is_loan = is; between = way.between; is_path = way.is_path; inside = way.inside; kept = way.kept },
  λ h.
      let same : h.made ≡ made = same_found (slice_get (loans_of mir) l) h.made made h.is_loan is in
      let way : Way mir value h.made p = record { between = h.between; is_path = h.is_path; inside = h.inside; kept = h.kept } in
      walk_from_way mir value made p (subst (λ (m : ℕ × Loan). Way mir value m p) same way),
)

pub walked_is_scope : (mir : Mir) (value : ℕ → ℕ → Bool) (l p : ℕ) → IsWalked (edges_of mir) mir.steps mir.universals value (loans_of mir) l p ↔ IsInScope mir value l p
walked_is_scope mir value l p = scope_of mir value l p (slice_get (loans_of mir) l) refl
