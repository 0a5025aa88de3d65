-- The regions that start with an element, the lengths of chains by the levels of a search, and the steps of the chains.
use Rattle.std.proofs.Common.{◌≡◌, ℕ, zero, suc, ◌+◌, ◌-◌, ◌<◌, ◌≤◌, ◌↔◌, ◌⊎◌, min, Bool, true, false, List, [], ◌∷◌, ◌++◌, length, get_or, set, take, inl, inr, refl, sym, ap, ◌∙◌, subst, arith}
use Rattle.std.specs.List.{Contains}
use Rattle.std.proofs.lemmas.Bool.{cases_eq, cases_lt, both_ways}
use Rattle.std.proofs.lemmas.List.{get_or-set_same, get_or-set_other, length-set, get_or_past, take_more, take_all}
use Rattle.std.proofs.lemmas.List.Elements.{All-contains, Contains-push, Contains-append_left, Contains-push_cases}
use Rattle.bc_flow.specs.declared.graph.Edge.{Edge}
use Rattle.bc_flow.specs.Graph.{HasEdge, AreWithin}
use Rattle.bc_flow.specs.Flow.{holds}
use Rattle.bc_flow.proofs.Membership.{Contains-nil}
use Rattle.bc_cons.specs.declared.facts.NumberedConstraint.{NumberedConstraint}
use Rattle.bc_cons.specs.Facts.{MustOutlive}
use Rattle.bc_flow.specs.Levels.{AreLevels}
use Rattle.bc_solve.specs.Ways.{AreLengths, AreSteps, AreStepsSoFar, LeadsBelow, IsOnward, AreEdgesOf, way}
use Rattle.bc_flow.specs.Chains.{IsNext}
use Rattle.bc_flow.proofs.Chains.{skipped}
use Rattle.bc_flow.proofs.BreadthFirst.{edge_eq, reached_within}

-- ---- sources

pub one_more : (p : ℕ → Bool) (found : List ℕ) (n : ℕ) → p n ≡ true → ((r : ℕ) → Contains found r ↔ ((r < n) × (p r ≡ true))) → (r : ℕ) → Contains (found ++ n ∷ []) r ↔ ((r < n + 1) × (p r ≡ true))
one_more p found n passes old r = (
  λ h. elim (Contains-push_cases found n r h) [
    | inl before ↦ let was = (old r).0 before in (omega (arith, was.0), was.1)
    | inr same ↦ (omega (arith, same), rw (← same) passes)
  ],
  λ h. elim (cases_eq r n) [
    | inl same ↦ rw same (Contains-push found n)
    | inr other ↦ Contains-append_left found (n ∷ []) r ((old r).1 (omega (arith, h.0, other), h.1))
  ],
)

pub none_more : (p : ℕ → Bool) (found : List ℕ) (n : ℕ) → p n ≡ false → ((r : ℕ) → Contains found r ↔ ((r < n) × (p r ≡ true))) → (r : ℕ) → Contains found r ↔ ((r < n + 1) × (p r ≡ true))
none_more p found n fails old r = (
  λ h. let was = (old r).0 h in (omega (arith, was.0), was.1),
  λ h. elim (cases_eq r n) [
    | inl same ↦ absurd (both_ways (p r) (rw same fails) h.1)
    | inr other ↦ (old r).1 (omega (arith, h.0, other), h.1)
  ],
)

-- a region that starts with an element is one of the regions
pub starts_within : (rows : List (List Bool)) (r e : ℕ) → holds rows r e ≡ true → r < length rows
starts_within rows r e h = elim (cases_lt r (length rows)) [
  | inl within ↦ within
  | inr past ↦ absurd (both_ways (holds rows r e) (ap (λ (set : List Bool). get_or set e false) (get_or_past rows r [] past)) h)
]

-- ---- lengths

pub AreLengths-from_levels : (starts : ℕ → ℕ → Bool) (pairs : List NumberedConstraint) (e : ℕ) (edges : List Edge) (sources levels : List ℕ) → AreEdgesOf pairs edges → ((r : ℕ) → Contains sources r ↔ (starts r e ≡ true)) →
    AreLevels edges sources levels → AreLengths starts pairs e levels
AreLengths-from_levels starts pairs e edges sources levels are_edges same are = record {
  begins = λ r h. are.begins r ((same r).1 h);
  first = λ r h. (same r).0 (are.first r h);
  goes_on = λ a h. let way = are.goes_on a h in (way.0, (are_edges a way.0).0 way.1, way.2);
  closed = λ a b outlives h. are.closed b a ((are_edges a b).1 outlives) h;
}

-- ---- steps

-- to a lesser region, or along one of the first edges that leave this one
abbrev pub LeadsSoFar : List Edge → ℕ → ℕ → ℕ → ℕ → Type 0
LeadsSoFar edges i shorter a b = LeadsBelow edges shorter a b ⊎ ((b ≡ shorter) × HasEdge (take i edges) shorter a)

onward_or_not : (lengths : List ℕ) (longer shorter : ℕ) → IsOnward lengths longer shorter ⊎ (IsOnward lengths longer shorter → ⊥)
onward_or_not lengths longer shorter = elim (cases_lt 1 (get_or lengths longer 0)) [
  | inl long ↦ elim (cases_eq (get_or lengths shorter 0 + 1) (get_or lengths longer 0)) [
    | inl same ↦ inl (long, same)
    | inr other ↦ inr (λ onward. other onward.1)
  ]
  | inr short ↦ inr (λ onward. omega (arith, short, onward.0))
]

pub AreStepsSoFar-same : (P R : ℕ → ℕ → Type 0) (lengths steps : List ℕ) → ((a b : ℕ) → P a b → R a b) → ((a b : ℕ) → R a b → P a b) → AreStepsSoFar P lengths steps → AreStepsSoFar R lengths steps
AreStepsSoFar-same P R lengths steps forth back old = record {
  count = old.count;
  leads = λ a within here. let was = old.leads a within here in (forth a (get_or steps a 0) was.0, was.1);
  least = λ a b long leads onward. old.least a b long (back a b leads) onward;
}

-- what continues no shortest chain may be left out
pub AreStepsSoFar-skip : (P R : ℕ → ℕ → Type 0) (lengths steps : List ℕ) → ((a b : ℕ) → P a b → R a b) → ((a b : ℕ) → R a b → P a b ⊎ (IsOnward lengths a b → ⊥)) →
    AreStepsSoFar P lengths steps → AreStepsSoFar R lengths steps
AreStepsSoFar-skip P R lengths steps forth back old = record {
  count = old.count;
  leads = λ a within here. let was = old.leads a within here in (forth a (get_or steps a 0) was.0, was.1);
  least = λ a b long leads onward. elim (back a b leads) [
    | inl before ↦ old.least a b long before onward
    | inr fails ↦ absurd (fails (long, onward))
  ];
}

-- one more region that continues a chain
pub AreStepsSoFar-take : (P R : ℕ → ℕ → Type 0) (lengths steps : List ℕ) (longer shorter : ℕ) → longer < length lengths → shorter < length lengths → IsOnward lengths longer shorter →
    ((a b : ℕ) → P a b → R a b) → R longer shorter → ((a b : ℕ) → R a b → P a b ⊎ ((a ≡ longer) × (b ≡ shorter))) →
    AreStepsSoFar P lengths steps → AreStepsSoFar R lengths (set steps longer (min (get_or steps longer 0) shorter))
AreStepsSoFar-take P R lengths steps longer shorter in_longer in_shorter onward forth now back old =
    let was : ℕ = get_or steps longer 0 in
    let new : List ℕ = set steps longer (min was shorter) in
    let within : longer < length steps = omega (arith, in_longer, old.count) in
    let here : get_or new longer 0 ≡ min was shorter = get_or-set_same steps longer (min was shorter) 0 within in
    let falls : (a : ℕ) → get_or new a 0 ≤ get_or steps a 0 = λ a. elim (cases_eq a longer) [
      | inl same ↦ rw same (omega (arith, here))
      | inr other ↦ let kept = get_or-set_other steps longer a (min was shorter) 0 other in omega (arith, kept)
    ] in
    let leads_here : (s : ℕ) → s ≡ min was shorter → R longer s × (get_or lengths s 0 + 1 ≡ get_or lengths longer 0) = λ s is. elim (cases_lt shorter was) [
      | inl less ↦ let same : shorter ≡ s = omega (arith, is, less) in rw (← same) (now, onward.1)
      | inr more ↦
          let same : was ≡ s = omega (arith, is, more) in
          let lead = old.leads longer in_longer (omega (arith, more, in_shorter)) in
          rw (← same) (forth longer was lead.0, lead.1)
    ] in
    record {
      count = length-set steps longer (min was shorter) ∙ old.count;
      leads = λ a inside below. elim (cases_eq a longer) [
        | inl same ↦ rw same (leads_here (get_or new longer 0) here)
        | inr other ↦
            let kept : get_or new a 0 ≡ get_or steps a 0 = get_or-set_other steps longer a (min was shorter) 0 other in
            let lead = old.leads a inside (omega (arith, kept, below)) in
            rw kept (forth a (get_or steps a 0) lead.0, lead.1)
      ];
      least = λ a b long leads on. elim (back a b leads) [
        | inl before ↦ let was_least = old.least a b long before on in let fall = falls a in omega (arith, was_least, fall)
        | inr same ↦ rw same.0 (omega (arith, here, same.1))
      ];
    }

-- one more of the edges that leave a region
pub AreStepsSoFar-edge : (edges : List Edge) (lengths old new : List ℕ) (i shorter next : ℕ) (e : Edge) → i < length edges → get_or edges i e ≡ e → e.from ≡ shorter → IsNext edges shorter (i + 1) next →
    e.to < length lengths → shorter < length lengths →
    (IsOnward lengths e.to shorter → new ≡ set old e.to (min (get_or old e.to 0) shorter)) → ((IsOnward lengths e.to shorter → ⊥) → new ≡ old) →
    AreStepsSoFar (LeadsSoFar edges i shorter) lengths old → AreStepsSoFar (LeadsSoFar edges next shorter) lengths new
AreStepsSoFar-edge edges lengths old new i shorter next e within is from skip in_longer in_shorter taken kept before =
    let more : take (i + 1) edges ≡ take i edges ++ e ∷ [] = take_more edges i e within ∙ ap (λ x. take i edges ++ x ∷ []) is in
    let forth : (a b : ℕ) → LeadsSoFar edges i shorter a b → LeadsSoFar edges next shorter a b = λ a b leads. elim leads [
      | inl early ↦ inl early
      | inr here ↦ inr (here.0, (skipped edges shorter (i + 1) next skip a).0 (rw more (Contains-append_left (take i edges) (e ∷ []) (record { from = shorter; to = a }) here.1)))
    ] in
    let now : LeadsSoFar edges next shorter e.to shorter =
    inr (refl, (skipped edges shorter (i + 1) next skip e.to).0 (rw more (subst (λ (v : Edge). Contains (take i edges ++ e ∷ []) v) (edge_eq e shorter e.to from refl) (Contains-push (take i edges) e)))) in
    let back : (a b : ℕ) → LeadsSoFar edges next shorter a b → LeadsSoFar edges i shorter a b ⊎ ((a ≡ e.to) × (b ≡ shorter)) = λ a b leads. elim leads [
      | inl early ↦ inl (inl early)
      | inr here ↦ elim (Contains-push_cases (take i edges) e (record { from = shorter; to = a }) (rw more at ((skipped edges shorter (i + 1) next skip a).1 here.1))) [
        | inl old_edge ↦ inl (inr (here.0, old_edge))
        | inr same ↦ inr (sym (ap (λ (v : Edge). v.to) same), here.0)
      ]
    ] in
    elim (onward_or_not lengths e.to shorter) [
      | inl onward ↦ rw (taken onward) (AreStepsSoFar-take (LeadsSoFar edges i shorter) (LeadsSoFar edges next shorter) lengths old e.to shorter in_longer in_shorter onward forth now back before)
      | inr fails ↦ rw (kept fails) (AreStepsSoFar-skip (LeadsSoFar edges i shorter) (LeadsSoFar edges next shorter) lengths old forth
          (λ a b leads. elim (back a b leads) [
            | inl early ↦ inl early
            | inr same ↦ inr (λ onward. fails (rw (same.0, same.1) at onward))
          ])
          before)
    ]

-- no region has a step yet
pub AreStepsSoFar-none : (edges : List Edge) (lengths steps : List ℕ) → length steps ≡ length lengths → ((a : ℕ) → a < length lengths → get_or steps a 0 ≡ length lengths) → AreStepsSoFar (LeadsBelow edges 0) lengths steps
AreStepsSoFar-none edges lengths steps count none = record {
  count = count;
  leads = λ a within here. absurd (let is = none a within in omega (arith, is, here));
  least = λ a b long leads on. absurd (omega (arith, leads.0));
}

-- before the first edge that leaves a region
pub AreStepsSoFar-first : (edges : List Edge) (lengths steps : List ℕ) (shorter first : ℕ) → IsNext edges shorter 0 first → AreStepsSoFar (LeadsBelow edges shorter) lengths steps → AreStepsSoFar (LeadsSoFar edges first shorter) lengths steps
AreStepsSoFar-first edges lengths steps shorter first is = AreStepsSoFar-same (LeadsBelow edges shorter) (LeadsSoFar edges first shorter) lengths steps
    (λ a b leads. inl leads)
    (λ a b leads. elim leads [
      | inl early ↦ early
      | inr here ↦ absurd (Contains-nil (record { from = shorter; to = a }) ((skipped edges shorter 0 first is a).1 here.1))
    ])

-- after the last edge
pub AreStepsSoFar-last : (edges : List Edge) (lengths steps : List ℕ) (shorter last : ℕ) → length edges ≤ last → AreStepsSoFar (LeadsSoFar edges last shorter) lengths steps → AreStepsSoFar (LeadsBelow edges (shorter + 1)) lengths steps
AreStepsSoFar-last edges lengths steps shorter last past =
    let all = take_all last edges past in
    AreStepsSoFar-same (LeadsSoFar edges last shorter) (LeadsBelow edges (shorter + 1)) lengths steps
    (λ a b leads. elim leads [
      | inl early ↦ (omega (arith, early.0), early.1)
      | inr here ↦ (omega (arith, here.0), rw here.0 (rw all at here.1))
    ])
    (λ a b leads. elim (cases_eq b shorter) [
      | inl same ↦ inr (same, rw all (rw same at leads.1))
      | inr other ↦ inl (omega (arith, leads.0, other), leads.1)
    ])

-- a region without a chain
pub AreStepsSoFar-unreached : (edges : List Edge) (lengths steps : List ℕ) (shorter : ℕ) → get_or lengths shorter 0 ≡ 0 → AreStepsSoFar (LeadsBelow edges shorter) lengths steps → AreStepsSoFar (LeadsBelow edges (shorter + 1)) lengths steps
AreStepsSoFar-unreached edges lengths steps shorter none = AreStepsSoFar-skip (LeadsBelow edges shorter) (LeadsBelow edges (shorter + 1)) lengths steps
    (λ a b leads. (omega (arith, leads.0), leads.1))
    (λ a b leads. elim (cases_eq b shorter) [
      | inl same ↦ inr (λ onward. let zero_length : get_or lengths b 0 ≡ 0 = rw same none in omega (arith, onward.0, onward.1, zero_length))
      | inr other ↦ inl (omega (arith, leads.0, other), leads.1)
    ])

pub AreSteps-end : (pairs : List NumberedConstraint) (edges : List Edge) (lengths steps : List ℕ) → AreEdgesOf pairs edges → AreWithin edges (length lengths) →
    ((a : ℕ) → 1 < get_or lengths a 0 → (b : ℕ) × MustOutlive pairs a b × (get_or lengths b 0 + 1 ≡ get_or lengths a 0)) →
    AreStepsSoFar (LeadsBelow edges (length lengths)) lengths steps → AreSteps (MustOutlive pairs) lengths steps
AreSteps-end pairs edges lengths steps are_edges within onward so_far =
    let inside : (a b : ℕ) → MustOutlive pairs a b → b < length lengths = λ a b outlives.
    (All-contains (λ (e : Edge). (e.from < length lengths) × (e.to < length lengths)) edges (record { from = b; to = a }) within ((are_edges a b).1 outlives)).0 in
    let least : (a b : ℕ) → 1 < get_or lengths a 0 → MustOutlive pairs a b → get_or lengths b 0 + 1 ≡ get_or lengths a 0 → get_or steps a 0 ≤ b = λ a b long outlives on.
    so_far.least a b long (inside a b outlives, (are_edges a b).1 outlives) on in
    record {
      leads = λ a long.
          let next = onward a long in
          let below = least a next.0 long next.1 next.2 in
          let in_next = inside a next.0 next.1 in
          let lead = so_far.leads a (reached_within lengths a (omega (arith, long))) (omega (arith, below, in_next)) in
          ((are_edges a (get_or steps a 0)).0 lead.0.1, lead.1);
      least = least;
    }

-- ---- the way

pub way_more : (steps : List ℕ) (k r : ℕ) → 0 < k → way steps k r ≡ r ∷ way steps (k - 1) (get_or steps r 0)
way_more steps zero r h = absurd (omega (arith, h))
way_more steps (suc k) r h =
    let one : k ≡ suc k - 1 = omega arith in
    ap (λ n. r ∷ way steps n (get_or steps r 0)) one
