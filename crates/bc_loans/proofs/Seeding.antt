-- Loans that flow from the points that make them, one loan after another.
use Rattle.std.proofs.Common.{◌≡◌, ℕ, ◌+◌, ◌<◌, ◌≤◌, ◌⊎◌, inl, inr, ◌↔◌, Bool, true, false, not, List, length, Some, refl, sym, ◌∙◌, arith}
use Rattle.std.specs.Prelude.{slice_get}
use Rattle.std.proofs.lemmas.Bool.{cases_eq, cases_lt, both_ways}
use Rattle.std.proofs.lemmas.Option.{slice_get_past}
use Rattle.bc_flow.specs.declared.graph.Edge.{Edge}
use Rattle.bc_flow.specs.Graph.{HasEdge}
use Rattle.bc_flow.specs.Reach.{Spreads}
use Rattle.bc_flow.specs.Flow.{holds, HaveSize}
use Rattle.bc_bodies.specs.declared.mir.Step.{Step}
use Rattle.bc_points.specs.declared.loan.Loan.{Loan}
use Rattle.bc_points.specs.Points.{kills}
use Rattle.bc_syntax.specs.declared.syntax.Place.{Place}
use Rattle.bc_loans.specs.Overwrites.{keeps}
use Rattle.bc_loans.specs.Sweeps.{IsSeed}
use Rattle.bc_loans.proofs.Regions.{no_place}

-- the loans below a number have flowed, and the others are in no row
pub record AreSeeded (edges : List Edge) (steps : List Step) (loans : List (ℕ × Loan)) (inside : ℕ → ℕ → Bool) (count : ℕ) (rows : List (List Bool)) : Type 0 where
  pub seeds : (n l : ℕ) → l < count → (holds rows n l ≡ true) ↔ IsSeed edges steps loans inside n l
  pub fresh : (n l : ℕ) → count ≤ l → holds rows n l ≡ false

pub AreSeeded-none : (edges : List Edge) (steps : List Step) (loans : List (ℕ × Loan)) (inside : ℕ → ℕ → Bool) (rows : List (List Bool)) → ((n l : ℕ) → holds rows n l ≡ false) → AreSeeded edges steps loans inside 0 rows
AreSeeded-none edges steps loans inside rows none = record {
  seeds = λ n l below. absurd (omega (arith, below));
  fresh = λ n l _. none n l;
}

pub AreSeeded-more : (edges : List Edge) (steps : List Step) (loans : List (ℕ × Loan)) (inside : ℕ → ℕ → Bool) (number : ℕ) (old new : List (List Bool)) →
    ((n l : ℕ) → (l ≡ number → ⊥) → holds new n l ≡ holds old n l) → ((n : ℕ) → (holds new n number ≡ true) ↔ ((holds old n number ≡ true) ⊎ IsSeed edges steps loans inside n number)) →
    AreSeeded edges steps loans inside number old → AreSeeded edges steps loans inside (number + 1) new
AreSeeded-more edges steps loans inside number old new others seeded before = record {
  seeds = λ n l below. elim (cases_eq l number) [
    | inr apart ↦
        let earlier = before.seeds n l (omega (arith, below, apart)) in
        let same = others n l apart in (λ h. earlier.0 (sym same ∙ h), λ h. same ∙ earlier.1 h)
    | inl this ↦ rw this (
      λ h. elim ((seeded n).0 h) [
        | inl was ↦ absurd (both_ways (holds old n number) (before.fresh n number (omega arith)) was)
        | inr now ↦ now
      ],
      λ h. (seeded n).1 (inr h),
    )
  ];
  fresh = λ n l past. others n l (λ this. omega (arith, this, past)) ∙ before.fresh n l (omega (arith, past));
}

pub AreSeeded-all : (edges : List Edge) (steps : List Step) (loans : List (ℕ × Loan)) (inside : ℕ → ℕ → Bool) (count : ℕ) (rows : List (List Bool)) → length loans ≤ count → HaveSize (length loans) rows →
    AreSeeded edges steps loans inside count rows → (n l : ℕ) → (holds rows n l ≡ true) ↔ IsSeed edges steps loans inside n l
AreSeeded-all edges steps loans inside count rows all sizes below n l = elim (cases_lt l (length loans)) [
  | inl loan ↦ below.seeds n l (omega (arith, loan, all))
  | inr past ↦ (
    λ h. absurd (both_ways (holds rows n l) (no_place rows (length loans) l n sizes past) h),
    rw (slice_get_past loans l past) (λ h. absurd h),
  )
]

-- ---- one loan

-- it flows from the point that makes it
pub seeded_by : (edges : List Edge) (maker number : ℕ) (enters : ℕ → Bool) (old new : List (List Bool)) (before after : List ℕ) (lets : Bool) → lets ≡ true →
    Spreads edges maker number enters old new before after → (n : ℕ) → (holds new n number ≡ true) ↔ ((holds old n number ≡ true) ⊎ ((lets ≡ true) × HasEdge edges maker n × (enters n ≡ true)))
seeded_by edges maker number enters old new before after lets is spreads n = (
  λ h. elim (spreads.no_more n h) [ inl was ↦ inl was | inr t ↦ inr (is, t.0, t.1) ],
  λ h. elim h [ inl was ↦ spreads.kept n was | inr t ↦ spreads.spread n t.1 t.2 ],
)

-- the point overwrites it
pub seeded_not : (edges : List Edge) (maker number : ℕ) (enters : ℕ → Bool) (rows : List (List Bool)) (lets : Bool) → lets ≡ false →
    (n : ℕ) → (holds rows n number ≡ true) ↔ ((holds rows n number ≡ true) ⊎ ((lets ≡ true) × HasEdge edges maker n × (enters n ≡ true)))
seeded_not edges maker number enters rows lets is n = (
  λ h. inl h,
  λ h. elim h [ inl was ↦ was | inr t ↦ absurd (both_ways lets is t.0) ],
)

-- the same points let it enter
pub seeded_same : (edges : List Edge) (maker number : ℕ) (one other : ℕ → Bool) (old new : List (List Bool)) (lets : Bool) → ((n : ℕ) → one n ≡ other n) →
    ((n : ℕ) → (holds new n number ≡ true) ↔ ((holds old n number ≡ true) ⊎ ((lets ≡ true) × HasEdge edges maker n × (one n ≡ true)))) →
    (n : ℕ) → (holds new n number ≡ true) ↔ ((holds old n number ≡ true) ⊎ ((lets ≡ true) × HasEdge edges maker n × (other n ≡ true)))
seeded_same edges maker number one other old new lets same seeded n = (
  λ h. elim ((seeded n).0 h) [ inl was ↦ inl was | inr t ↦ inr (t.0, t.1, sym (same n) ∙ t.2) ],
  λ h. (seeded n).1 (elim h [ inl was ↦ inl was | inr t ↦ inr (t.0, t.1, same n ∙ t.2) ]),
)

-- no point lets it enter
pub seeded_nowhere : (edges : List Edge) (maker number : ℕ) (enters : ℕ → Bool) (rows : List (List Bool)) (lets : Bool) → ((n : ℕ) → enters n ≡ false) →
    (n : ℕ) → (holds rows n number ≡ true) ↔ ((holds rows n number ≡ true) ⊎ ((lets ≡ true) × HasEdge edges maker n × (enters n ≡ true)))
seeded_nowhere edges maker number enters rows lets none n = (
  λ h. inl h,
  λ h. elim h [ inl was ↦ was | inr t ↦ absurd (both_ways (enters n) (none n) t.2) ],
)

-- a step keeps a path
pub keeps_is : (steps : List Step) (path : Place) (point : ℕ) (step : Step) → slice_get steps point ≡ Some step → not (kills path step.instruction) ≡ keeps steps path point
keeps_is steps path point step is = rw is refl

-- where a loan flows from the point that makes it
pub seeded_is : (edges : List Edge) (steps : List Step) (loans : List (ℕ × Loan)) (inside : ℕ → ℕ → Bool) (number : ℕ) (made : ℕ × Loan) (old new : List (List Bool)) → slice_get loans number ≡ Some made →
    ((n : ℕ) → (holds new n number ≡ true) ↔ ((holds old n number ≡ true) ⊎ ((keeps steps made.1.path made.0 ≡ true) × HasEdge edges made.0 n × (inside n number ≡ true)))) →
    (n : ℕ) → (holds new n number ≡ true) ↔ ((holds old n number ≡ true) ⊎ IsSeed edges steps loans inside n number)
seeded_is edges steps loans inside number made old new is seeded n = rw is (seeded n)
