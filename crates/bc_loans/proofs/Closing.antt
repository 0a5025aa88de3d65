-- Swept rows have a loan exactly where it walks to within its region's value.
use Rattle.std.proofs.Common.{◌≡◌, ℕ, ◌/◌, ◌<◌, ◌↔◌, Bool, true, false, not, List, length, Option, Some, None, refl, sym, ap, ◌∙◌}
use Rattle.std.specs.Prelude.{slice_get, MatchOption}
use Rattle.std.specs.Option.{option_map_or}
use Rattle.std.proofs.lemmas.Bool.{and_from, not-true, not-false, not_from_false}
use Rattle.std.proofs.lemmas.List.Elements.{All-contains}
use Rattle.bc_flow.specs.declared.graph.Edge.{Edge}
use Rattle.bc_flow.specs.Graph.{HasEdge, AreWithin}
use Rattle.bc_flow.specs.Flow.{holds}
use Rattle.bc_flow.specs.Reach.{Reaches, begins, goes_on}
use Rattle.bc_bodies.specs.declared.mir.Step.{Step}
use Rattle.bc_points.specs.declared.loan.Loan.{Loan}
use Rattle.bc_points.specs.Points.{kills}
use Rattle.bc_points.specs.Regions.{region_number}
use Rattle.bc_loans.specs.Inside.{inside_at}
use Rattle.bc_loans.specs.Overwrites.{keeps, is_overwritten, is_overwritten_at}
use Rattle.bc_loans.specs.Walks.{IsWalked}
use Rattle.bc_loans.specs.Sweeps.{WalksTo, IsSeed, passes, IsClosed}
use Rattle.bc_loans.proofs.Regions.{inside_of}

edge_within : (edges : List Edge) (count m n : ℕ) → AreWithin edges count → HasEdge edges m n → (m < count) × (n < count)
edge_within edges count m n within edge = All-contains (λ (e : Edge). (e.from < count) × (e.to < count)) edges (record { from = m; to = n }) within edge

-- ---- what is overwritten is not kept

twice : (b : Bool) → b ≡ not (not b)
twice true = refl
twice false = refl

overwritten_not_kept : (loans : List (ℕ × Loan)) (l : ℕ) (made : ℕ × Loan) → slice_get loans l ≡ Some made → (found : Option Step) →
    option_map_or (λ (step : Step). is_overwritten loans step.instruction l) found false ≡ not (option_map_or (λ (step : Step). not (kills made.1.path step.instruction)) found true)
overwritten_not_kept loans l made is None = refl
overwritten_not_kept loans l made is (Some step) =
    let here : is_overwritten loans step.instruction l ≡ kills made.1.path step.instruction = rw is refl in
    here ∙ twice (kills made.1.path step.instruction)

not_kept : (loans : List (ℕ × Loan)) (steps : List Step) (l : ℕ) (made : ℕ × Loan) → slice_get loans l ≡ Some made → (p : ℕ) → is_overwritten_at loans steps p l ≡ not (keeps steps made.1.path p)
not_kept loans steps l made is p = overwritten_not_kept loans l made is (slice_get steps p)

-- a loan that is not overwritten is kept
pub kept_there : (loans : List (ℕ × Loan)) (steps : List Step) (l : ℕ) (made : ℕ × Loan) → slice_get loans l ≡ Some made → (p : ℕ) → not (is_overwritten_at loans steps p l) ≡ true → keeps steps made.1.path p ≡ true
kept_there loans steps l made is p left = not-false (keeps steps made.1.path p) (sym (not_kept loans steps l made is p) ∙ not-true (is_overwritten_at loans steps p l) left)

passed_from : (loans : List (ℕ × Loan)) (steps : List Step) (rows : List (List Bool)) (p l : ℕ) (made : ℕ × Loan) → slice_get loans l ≡ Some made → holds rows p l ≡ true → keeps steps made.1.path p ≡ true → passes loans steps rows p l ≡ true
passed_from loans steps rows p l made is there kept =
    and_from (holds rows p l) (not (is_overwritten_at loans steps p l)) there (not_from_false (is_overwritten_at loans steps p l) (not_kept loans steps l made is p ∙ ap not kept))

-- ---- the same test at all points

reached_same : (edges : List Edge) (lets_pass one other : ℕ → Bool) (start count : ℕ) → AreWithin edges count → ((p : ℕ) → p < count → one p ≡ other p) → (n : ℕ) → Reaches edges lets_pass one start n → Reaches edges lets_pass other start n
reached_same edges lets_pass one other start count within same n (begins m lets edge into) = begins m lets edge (sym (same m (edge_within edges count start m within edge).1) ∙ into)
reached_same edges lets_pass one other start count within same n (goes_on m q before lets edge into) =
    goes_on m q (reached_same edges lets_pass one other start count within same m before) lets edge (sym (same q (edge_within edges count m q within edge).1) ∙ into)

-- ---- rows that are closed

in_row : (edges : List Edge) (steps : List Step) (loans : List (ℕ × Loan)) (inside : ℕ → ℕ → Bool) (word : ℕ) (rows : List (List Bool)) (l : ℕ) (made : ℕ × Loan) → l / 64 ≡ word → slice_get loans l ≡ Some made → AreWithin edges (length steps) →
    ((n k : ℕ) → k / 64 ≡ word → IsSeed edges steps loans inside n k → holds rows n k ≡ true) → ((m : ℕ) → m < length steps → IsClosed edges steps loans inside word rows m) →
    (n : ℕ) → Reaches edges (keeps steps made.1.path) (λ (p : ℕ). inside p l) made.0 n → holds rows n l ≡ true
in_row edges steps loans inside word rows l made at is within seeds closed n (begins m lets edge into) =
    let seed : IsSeed edges steps loans inside m l = rw is (lets, edge, into) in
    seeds m l at seed
in_row edges steps loans inside word rows l made at is within seeds closed n (goes_on m q before lets edge into) =
    closed m (edge_within edges (length steps) m q within edge).0 q l at edge
    (passed_from loans steps rows m l made is (in_row edges steps loans inside word rows l made at is within seeds closed m before) lets) into

row_found : (edges : List Edge) (steps : List Step) (loans : List (ℕ × Loan)) (inside : ℕ → ℕ → Bool) (word : ℕ) (rows : List (List Bool)) (n l : ℕ) (found : Option (ℕ × Loan)) → l / 64 ≡ word → slice_get loans l ≡ found → AreWithin edges (length steps) →
    ((m k : ℕ) → k / 64 ≡ word → IsSeed edges steps loans inside m k → holds rows m k ≡ true) → ((m : ℕ) → m < length steps → IsClosed edges steps loans inside word rows m) →
    MatchOption found ⊥ (λ (made : ℕ × Loan). Reaches edges (keeps steps made.1.path) (λ (p : ℕ). inside p l) made.0 n) → holds rows n l ≡ true
row_found edges steps loans inside word rows n l None at is within seeds closed h = absurd h
row_found edges steps loans inside word rows n l (Some made) at is within seeds closed h = in_row edges steps loans inside word rows l made at is within seeds closed n h

-- they have each loan of the word that walks there
pub walks_in_rows : (edges : List Edge) (steps : List Step) (loans : List (ℕ × Loan)) (inside : ℕ → ℕ → Bool) (word : ℕ) (rows : List (List Bool)) → AreWithin edges (length steps) →
    ((m k : ℕ) → k / 64 ≡ word → IsSeed edges steps loans inside m k → holds rows m k ≡ true) → ((m : ℕ) → m < length steps → IsClosed edges steps loans inside word rows m) →
    (n l : ℕ) → l / 64 ≡ word → WalksTo edges steps loans inside n l → holds rows n l ≡ true
walks_in_rows edges steps loans inside word rows within seeds closed n l at h = row_found edges steps loans inside word rows n l (slice_get loans l) at refl within seeds closed h

-- ---- within the loans' values

walks_found : (edges : List Edge) (steps : List Step) (universals : ℕ) (value : ℕ → ℕ → Bool) (loans : List (ℕ × Loan)) (l n : ℕ) (found : Option (ℕ × Loan)) → slice_get loans l ≡ found → AreWithin edges (length steps) →
    MatchOption found ⊥ (λ (made : ℕ × Loan). Reaches edges (keeps steps made.1.path) (λ (p : ℕ). inside_at universals loans value p l) made.0 n)
    ↔ MatchOption found ⊥ (λ (made : ℕ × Loan). Reaches edges (keeps steps made.1.path) (value (region_number universals made.1.region)) made.0 n)
walks_found edges steps universals value loans l n None is within = (λ h. h, λ h. h)
walks_found edges steps universals value loans l n (Some made) is within =
    let region : ℕ = region_number universals made.1.region in
    let same : (p : ℕ) → p < length steps → inside_at universals loans value p l ≡ value region p = λ p low. sym (inside_of universals loans value l made region is refl p) in (
      λ h. reached_same edges (keeps steps made.1.path) (λ (p : ℕ). inside_at universals loans value p l) (value region) made.0 (length steps) within same n h,
      λ h. reached_same edges (keeps steps made.1.path) (value region) (λ (p : ℕ). inside_at universals loans value p l) made.0 (length steps) within (λ p low. sym (same p low)) n h,
    )

pub walks_is_walked : (edges : List Edge) (steps : List Step) (universals : ℕ) (value : ℕ → ℕ → Bool) (loans : List (ℕ × Loan)) → AreWithin edges (length steps) → (l n : ℕ) →
    WalksTo edges steps loans (inside_at universals loans value) n l ↔ IsWalked edges steps universals value loans l n
walks_is_walked edges steps universals value loans within l n = walks_found edges steps universals value loans l n (slice_get loans l) refl within
