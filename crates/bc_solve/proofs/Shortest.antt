-- The way along the least steps is the first of the shortest chains.
use Rattle.std.proofs.Common.{◌≡◌, ℕ, zero, suc, ◌+◌, ◌<◌, ◌≤◌, Bool, List, [], ◌∷◌, length, map, get_or, inl, inr, refl, sym, ap, ◌∙◌, subst, arith}
use Rattle.std.proofs.lemmas.Bool.{cases_lt, cases_eq}
use Rattle.std.proofs.lemmas.List.{get_or_past}
use Rattle.bc_syntax.specs.declared.syntax.Region.{Region}
use Rattle.bc_flow.specs.Flow.{holds}
use Rattle.bc_points.specs.Regions.{region_of_number}
use Rattle.bc_cons.specs.declared.facts.NumberedConstraint.{NumberedConstraint}
use Rattle.bc_cons.specs.Facts.{RegionFacts, MustOutlive}
use Rattle.bc_solve.specs.Chains.{IsChain, IsBefore, IsFirstShortest, ExplainsOver}
use Rattle.bc_solve.specs.Ways.{AreLengths, AreSteps, AreWays, way}

pub length-way : (steps : List ℕ) (k r : ℕ) → length (way steps k r) ≡ k
length-way steps zero r = refl
length-way steps (suc k) r = ap suc (length-way steps k (get_or steps r 0))

-- the first region of a chain has a length, and the chain is no shorter
pub no_shorter : (starts : ℕ → ℕ → Bool) (pairs : List NumberedConstraint) (e : ℕ) (lengths : List ℕ) → AreLengths starts pairs e lengths → (chain : List ℕ) (r : ℕ) → IsChain starts pairs r e chain →
    (0 < get_or lengths r 0) × (get_or lengths r 0 ≤ length chain)
no_shorter starts pairs e lengths are [] r h = absurd h
no_shorter starts pairs e lengths are (a ∷ []) r h =
    let one : get_or lengths a 0 ≡ 1 = are.begins a h.1 in
    let here : get_or lengths r 0 ≡ 1 = rw (← h.0) one in
    (omega (arith, here), omega (arith, here))
no_shorter starts pairs e lengths are (a ∷ (b ∷ rest)) r h =
    let later = no_shorter starts pairs e lengths are (b ∷ rest) b h.2 in
    let here : (0 < get_or lengths a 0) × (get_or lengths a 0 ≤ get_or lengths b 0 + 1) = are.closed a b h.1 later.0 in
    rw (← h.0) (here.0, omega (arith, here.1, later.1))

pub way_is_chain : (starts : ℕ → ℕ → Bool) (pairs : List NumberedConstraint) (e : ℕ) (lengths steps : List ℕ) → AreLengths starts pairs e lengths → AreSteps (MustOutlive pairs) lengths steps →
    (k r : ℕ) → get_or lengths r 0 ≡ suc k → IsChain starts pairs r e (way steps (suc k) r)
way_is_chain starts pairs e lengths steps are leads zero r h = (refl, are.first r h)
way_is_chain starts pairs e lengths steps are leads (suc k) r h =
    let next = leads.leads r (omega (arith, h)) in
    (refl, next.0, way_is_chain starts pairs e lengths steps are leads k (get_or steps r 0) (omega (arith, h, next.1)))

pub none_before : (starts : ℕ → ℕ → Bool) (pairs : List NumberedConstraint) (e : ℕ) (lengths steps : List ℕ) → AreLengths starts pairs e lengths → AreSteps (MustOutlive pairs) lengths steps →
    (k r : ℕ) → get_or lengths r 0 ≡ suc k → (other : List ℕ) → IsChain starts pairs r e other → length other ≡ suc k → IsBefore other (way steps (suc k) r) → ⊥
none_before starts pairs e lengths steps are leads k r h [] chain long before = absurd chain
none_before starts pairs e lengths steps are leads zero r h (a ∷ []) chain long before = elim before [
  | inl less ↦ absurd (omega (arith, less, chain.0))
  | inr more ↦ absurd more.1
]
none_before starts pairs e lengths steps are leads (suc k) r h (a ∷ []) chain long before = absurd (omega (arith, long))
none_before starts pairs e lengths steps are leads zero r h (a ∷ (b ∷ rest)) chain long before = absurd (omega (arith, long))
none_before starts pairs e lengths steps are leads (suc k) r h (a ∷ (b ∷ rest)) chain long before = elim before [
  | inl less ↦ absurd (omega (arith, less, chain.0))
  | inr more ↦
      let later = no_shorter starts pairs e lengths are (b ∷ rest) b chain.2 in
      let pair : MustOutlive pairs r b = rw (← chain.0) chain.1 in
      let closed : get_or lengths r 0 ≤ get_or lengths b 0 + 1 = (are.closed r b pair later.0).1 in
      let behind : get_or lengths b 0 + 1 ≡ get_or lengths r 0 = omega (arith, later.1, long, h, closed) in
      let least : get_or steps r 0 ≤ b = leads.least r b (omega (arith, h)) pair behind in
      let next = leads.leads r (omega (arith, h)) in
      elim more.1 [
        | inl less ↦ absurd (omega (arith, less, least))
        | inr same ↦ none_before starts pairs e lengths steps are leads k (get_or steps r 0) (omega (arith, h, next.1)) (b ∷ rest)
            (subst (λ n. IsChain starts pairs n e (b ∷ rest)) same.0 chain.2) (omega (arith, long)) (inr same)
      ]
]

-- the way of a region's length is the first of its shortest chains
pub way_is_first : (starts : ℕ → ℕ → Bool) (pairs : List NumberedConstraint) (e : ℕ) (lengths steps : List ℕ) → AreLengths starts pairs e lengths → AreSteps (MustOutlive pairs) lengths steps →
    (k r : ℕ) → get_or lengths r 0 ≡ suc k → IsFirstShortest starts pairs r e (way steps (suc k) r)
way_is_first starts pairs e lengths steps are leads k r h = record {
  is_chain = way_is_chain starts pairs e lengths steps are leads k r h;
  first = λ other chain.
      let long = length-way steps (suc k) r in
      let no_less = no_shorter starts pairs e lengths are other r chain in
      elim (cases_lt (suc k) (length other)) [
        | inl longer ↦ inl (omega (arith, longer, long))
        | inr not_longer ↦
            let same : length other ≡ suc k = omega (arith, no_less.1, not_longer, h) in
            inr (omega (arith, same, long), λ before. none_before starts pairs e lengths steps are leads k r h other chain same before)
      ];
}

-- two lists of the same length are equal if neither is before the other
neither_before : (xs ys : List ℕ) → length xs ≡ length ys → ¬ (IsBefore xs ys) → ¬ (IsBefore ys xs) → xs ≡ ys
neither_before [] [] long one other = refl
neither_before [] (y ∷ ys) long one other = absurd (omega (arith, long))
neither_before (x ∷ xs) [] long one other = absurd (omega (arith, long))
neither_before (x ∷ xs) (y ∷ ys) long one other = elim (cases_eq x y) [
  | inl same ↦
      let rest : xs ≡ ys = neither_before xs ys (omega (arith, long)) (λ h. one (inr (same, h))) (λ h. other (inr (sym same, h))) in
      cc
  | inr apart ↦ elim (cases_lt x y) [
    | inl less ↦ absurd (one (inl less))
    | inr more ↦ absurd (other (inl (omega (arith, apart, more))))
  ]
]

-- there is only one first shortest chain
pub only_one : (starts : ℕ → ℕ → Bool) (pairs : List NumberedConstraint) (r e : ℕ) (chain other : List ℕ) →
    IsFirstShortest starts pairs r e chain → IsFirstShortest starts pairs r e other → chain ≡ other
only_one starts pairs r e chain other is are = elim (is.first other are.is_chain) [
  | inl longer ↦ elim (are.first chain is.is_chain) [
    | inl shorter ↦ absurd (omega (arith, longer, shorter))
    | inr same ↦ absurd (omega (arith, longer, same.0))
  ]
  | inr same ↦ elim (are.first chain is.is_chain) [
    | inl shorter ↦ absurd (omega (arith, same.0, shorter))
    | inr again ↦ neither_before chain other again.0 again.1 same.1
  ]
]

-- there is only one explanation
pub explained_once : (universals : ℕ) (starts : ℕ → ℕ → Bool) (pairs : List NumberedConstraint) (r e : ℕ) (chain other : List Region) →
    ExplainsOver universals starts pairs r e chain → ExplainsOver universals starts pairs r e other → chain ≡ other
explained_once universals starts pairs r e chain other is are =
    is.2 ∙ (ap (map (region_of_number universals)) (only_one starts pairs r e is.0 are.0 is.1 are.1) ∙ sym are.2)

-- a region without a length has no chain
pub no_chain : (starts : ℕ → ℕ → Bool) (pairs : List NumberedConstraint) (e : ℕ) (lengths : List ℕ) → AreLengths starts pairs e lengths → (r : ℕ) → get_or lengths r 0 ≡ 0 →
    (chain : List ℕ) → IsChain starts pairs r e chain → ⊥
no_chain starts pairs e lengths are r none chain is = let some = no_shorter starts pairs e lengths are chain r is in omega (arith, some.0, none)

-- a way of a region's length is the first of its shortest chains
pub first_way : (starts : ℕ → ℕ → Bool) (pairs : List NumberedConstraint) (e : ℕ) (lengths steps : List ℕ) → AreLengths starts pairs e lengths → AreSteps (MustOutlive pairs) lengths steps →
    (k r : ℕ) → get_or lengths r 0 ≡ k → 0 < k → IsFirstShortest starts pairs r e (way steps k r)
first_way starts pairs e lengths steps are leads zero r h positive = absurd (omega (arith, positive))
first_way starts pairs e lengths steps are leads (suc k) r h positive = way_is_first starts pairs e lengths steps are leads k r h

pub no_chain_past : (facts : RegionFacts) (e : ℕ) (lengths steps : List ℕ) → AreWays facts e lengths steps → (r : ℕ) → length facts.starts ≤ r →
    (chain : List ℕ) → IsChain (holds facts.starts) facts.pairs r e chain → ⊥
no_chain_past facts e lengths steps ways r past = no_chain (holds facts.starts) facts.pairs e lengths ways.are_lengths r (get_or_past lengths r 0 (omega (arith, past, ways.length_count)))
