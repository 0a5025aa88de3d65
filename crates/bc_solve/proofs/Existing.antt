-- An element is in the value of a region exactly if there is a chain.
use Rattle.std.proofs.Common.{◌≡◌, ℕ, ◌↔◌, Bool, true, false, ◌||◌, ◌&&◌, eqb, List, [], ◌∷◌, inl, inr, refl, sym, ap, ◌∙◌, subst}
use Rattle.std.proofs.lemmas.Bool.{or_cases, or_left, or_right, and_parts, and_from, eq-eqb, eqb-true, false≢true}
use Rattle.bc_syntax.specs.declared.syntax.Region.{Region}
use Rattle.bc_flow.specs.Flow.{holds}
use Rattle.bc_flow.proofs.Membership.{Contains-nil, Contains-cons, Contains-head, Contains-later}
use Rattle.bc_cons.specs.declared.facts.NumberedConstraint.{NumberedConstraint}
use Rattle.bc_cons.specs.Facts.{RegionFacts, MustOutlive}
use Rattle.bc_solve.specs.Values.{IsInValue}
use Rattle.bc_solve.specs.Chains.{IsChain, Explains}

-- a region reaches one that passes: without the first pair, or through it
abbrev pub reaches : List NumberedConstraint → (ℕ → Bool) → ℕ → Bool
reaches [] start r = start r
reaches (pair ∷ pairs) start r = reaches pairs start r || (reaches pairs (λ n. eqb n pair.longer) r && reaches pairs start pair.shorter)

reaches_start : (pairs : List NumberedConstraint) (start : ℕ → Bool) (r : ℕ) → start r ≡ true → reaches pairs start r ≡ true
reaches_start [] start r h = h
reaches_start (pair ∷ pairs) start r h =
    or_left (reaches pairs start r) (reaches pairs (λ n. eqb n pair.longer) r && reaches pairs start pair.shorter) (reaches_start pairs start r h)

reaches_on : (pairs : List NumberedConstraint) (start : ℕ → Bool) (a b : ℕ) → MustOutlive pairs a b → reaches pairs start b ≡ true → reaches pairs start a ≡ true
reaches_on [] start a b outlives h = absurd (Contains-nil (record { longer = a; shorter = b }) outlives)
reaches_on (pair ∷ pairs) start a b outlives h =
    let along : ℕ → Bool = λ n. eqb n pair.longer in
    elim (Contains-cons pair pairs (record { longer = a; shorter = b }) outlives) [
      | inl same ↦
          let here : a ≡ pair.longer = ap (λ (c : NumberedConstraint). c.longer) (sym same) in
          let there : pair.shorter ≡ b = ap (λ (c : NumberedConstraint). c.shorter) same in
          let from : reaches pairs start pair.shorter ≡ true = elim (or_cases (reaches pairs start b) (reaches pairs along b && reaches pairs start pair.shorter) h) [
            | inl direct ↦ rw there direct
            | inr both ↦ (and_parts (reaches pairs along b) (reaches pairs start pair.shorter) both).1
          ] in
          or_right (reaches pairs start a) (reaches pairs along a && reaches pairs start pair.shorter)
          (and_from (reaches pairs along a) (reaches pairs start pair.shorter) (reaches_start pairs along a (eq-eqb a pair.longer here)) from)
      | inr later ↦ elim (or_cases (reaches pairs start b) (reaches pairs along b && reaches pairs start pair.shorter) h) [
        | inl direct ↦ or_left (reaches pairs start a) (reaches pairs along a && reaches pairs start pair.shorter) (reaches_on pairs start a b later direct)
        | inr both ↦
            let parts = and_parts (reaches pairs along b) (reaches pairs start pair.shorter) both in
            or_right (reaches pairs start a) (reaches pairs along a && reaches pairs start pair.shorter)
            (and_from (reaches pairs along a) (reaches pairs start pair.shorter) (reaches_on pairs along a b later parts.0) parts.1)
      ]
    ]

-- one more region before a chain
pub chain_before : (starts : ℕ → ℕ → Bool) (pairs : List NumberedConstraint) (e a b : ℕ) → MustOutlive pairs a b → (chain : List ℕ) → IsChain starts pairs b e chain → IsChain starts pairs a e (a ∷ chain)
chain_before starts pairs e a b outlives [] h = absurd h
chain_before starts pairs e a b outlives (c ∷ []) h = (refl, rw h.0 outlives, (refl, h.1))
chain_before starts pairs e a b outlives (c ∷ (d ∷ rest)) h = (refl, rw h.0 outlives, (refl, h.1, h.2))

abbrev Chain : (ℕ → Bool) → List NumberedConstraint → ℕ → ℕ → Type 0
Chain start pairs e r = (chain : List ℕ) × IsChain (λ n _. start n) pairs r e chain

more_pairs : (start : ℕ → Bool) (pair : NumberedConstraint) (pairs : List NumberedConstraint) (e : ℕ) (chain : List ℕ) (r : ℕ) → IsChain (λ n _. start n) pairs r e chain → IsChain (λ n _. start n) (pair ∷ pairs) r e chain
more_pairs start pair pairs e [] r h = absurd h
more_pairs start pair pairs e (a ∷ []) r h = h
more_pairs start pair pairs e (a ∷ (b ∷ rest)) r h = (h.0, Contains-later pair pairs (record { longer = a; shorter = b }) h.1, more_pairs start pair pairs e (b ∷ rest) b h.2)

-- a chain to the longer region of a pair, continued by one from the shorter region
joined : (start : ℕ → Bool) (pair : NumberedConstraint) (pairs : List NumberedConstraint) (e : ℕ) (other : List ℕ) → IsChain (λ n _. start n) (pair ∷ pairs) pair.shorter e other →
    (chain : List ℕ) (r : ℕ) → IsChain (λ n _. eqb n pair.longer) pairs r e chain → Chain start (pair ∷ pairs) e r
joined start pair pairs e other on [] r h = absurd h
joined start pair pairs e other on (a ∷ []) r h =
    let here : pair.longer ≡ r = sym (eqb-true a pair.longer h.1) ∙ h.0 in
    (r ∷ other, chain_before (λ n _. start n) (pair ∷ pairs) e r pair.shorter (subst (λ n. MustOutlive (pair ∷ pairs) n pair.shorter) here (Contains-head pair pairs)) other on)
joined start pair pairs e other on (a ∷ (b ∷ rest)) r h =
    let later = joined start pair pairs e other on (b ∷ rest) b h.2 in
    (r ∷ later.0, chain_before (λ n _. start n) (pair ∷ pairs) e r b (Contains-later pair pairs (record { longer = r; shorter = b }) (rw h.0 at h.1)) later.0 later.1)

chain_of : (pairs : List NumberedConstraint) (start : ℕ → Bool) (e r : ℕ) → reaches pairs start r ≡ true → Chain start pairs e r
chain_of [] start e r h = (r ∷ [], (refl, h))
chain_of (pair ∷ pairs) start e r h =
    elim (or_cases (reaches pairs start r) (reaches pairs (λ n. eqb n pair.longer) r && reaches pairs start pair.shorter) h) [
      | inl direct ↦ let old = chain_of pairs start e r direct in (old.0, more_pairs start pair pairs e old.0 r old.1)
      | inr both ↦
          let parts = and_parts (reaches pairs (λ n. eqb n pair.longer) r) (reaches pairs start pair.shorter) both in
          let way = chain_of pairs (λ n. eqb n pair.longer) e r parts.0 in
          let on = chain_of pairs start e pair.shorter parts.1 in
          joined start pair pairs e on.0 (more_pairs start pair pairs e on.0 pair.shorter on.1) way.0 r way.1
    ]

restated : (starts : ℕ → ℕ → Bool) (pairs : List NumberedConstraint) (e : ℕ) (chain : List ℕ) (r : ℕ) → IsChain (λ n _. starts n e) pairs r e chain → IsChain starts pairs r e chain
restated starts pairs e [] r h = h
restated starts pairs e (a ∷ []) r h = h
restated starts pairs e (a ∷ (b ∷ rest)) r h = (h.0, h.1, restated starts pairs e (b ∷ rest) b h.2)

in_every_lawful : (starts : ℕ → ℕ → Bool) (pairs : List NumberedConstraint) (e : ℕ) (chain : List ℕ) (r : ℕ) → IsChain starts pairs r e chain → IsInValue starts pairs r e
in_every_lawful starts pairs e [] r h assignment lawful = absurd h
in_every_lawful starts pairs e (a ∷ []) r h assignment lawful = rw (← h.0) (lawful.has_starts a e h.1)
in_every_lawful starts pairs e (a ∷ (b ∷ rest)) r h assignment lawful =
    rw (← h.0) (lawful.has_shorter a b e h.1 (in_every_lawful starts pairs e (b ∷ rest) b h.2 assignment lawful))

pub value_is_reached : (starts : ℕ → ℕ → Bool) (pairs : List NumberedConstraint) (r e : ℕ) → IsInValue starts pairs r e → reaches pairs (λ n. starts n e) r ≡ true
value_is_reached starts pairs r e h = h (λ region element. reaches pairs (λ n. starts n element) region) (record {
  has_starts = λ region element t. reaches_start pairs (λ n. starts n element) region t;
  has_shorter = λ longer shorter element pair there. reaches_on pairs (λ n. starts n element) longer shorter pair there;
})

pub some_chain : (starts : ℕ → ℕ → Bool) (pairs : List NumberedConstraint) (r e : ℕ) → reaches pairs (λ n. starts n e) r ≡ true → (chain : List ℕ) × IsChain starts pairs r e chain
some_chain starts pairs r e reached =
    let found = chain_of pairs (λ n. starts n e) e r reached in
    (found.0, restated starts pairs e found.0 r found.1)

-- an element is in the value exactly if there is a chain
pub value_is_chain : (starts : ℕ → ℕ → Bool) (pairs : List NumberedConstraint) (r e : ℕ) → IsInValue starts pairs r e ↔ ((chain : List ℕ) × IsChain starts pairs r e chain)
value_is_chain starts pairs r e = (
  λ h. some_chain starts pairs r e (value_is_reached starts pairs r e h),
  λ (chain, is). in_every_lawful starts pairs e chain r is,
)

-- what an answer says of the value
pub value_of_none : (starts : ℕ → ℕ → Bool) (pairs : List NumberedConstraint) (r e : ℕ) → ((chain : List ℕ) → IsChain starts pairs r e chain → ⊥) → (false ≡ true) ↔ IsInValue starts pairs r e
value_of_none starts pairs r e none = (
  λ h. absurd (false≢true h),
  λ h. let (chain, is) = (value_is_chain starts pairs r e).0 h in absurd (none chain is),
)

pub value_of_some : (facts : RegionFacts) (r e : ℕ) (chain : List Region) → Explains facts r e chain → (true ≡ true) ↔ IsInValue (holds facts.starts) facts.pairs r e
value_of_some facts r e chain explains = (λ _. (value_is_chain (holds facts.starts) facts.pairs r e).1 (explains.0, explains.1.is_chain), λ _. refl)
