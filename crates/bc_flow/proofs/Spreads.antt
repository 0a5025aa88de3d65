-- A fact handed on, along one edge after another and from one node after another.
use Rattle.std.proofs.Common.{◌≡◌, ℕ, ◌+◌, ◌<◌, ◌⊎◌, inl, inr, Bool, true, false, List, [], ◌∷◌, ◌++◌, ◌↔◌, length, set, refl, sym, ap, ◌∙◌, arith}
use Rattle.std.specs.List.{Contains, sum_by}
use Rattle.std.proofs.lemmas.Bool.{cases_eq, both_ways}
use Rattle.std.proofs.lemmas.List.{length-append}
use Rattle.std.proofs.lemmas.List.Elements.{Contains-push, Contains-push_cases, Contains-append_left, Contains-append_right, Contains-append_cases}
use Rattle.std.proofs.lemmas.List.Sums.{sum_by-set}
use Rattle.bc_flow.specs.declared.graph.Edge.{Edge}
use Rattle.bc_flow.specs.Graph.{HasEdge}
use Rattle.bc_flow.specs.BitSet.{has, absent_count}
use Rattle.bc_flow.specs.Flow.{row, holds}
use Rattle.bc_flow.specs.Reach.{Reaches, begins, goes_on, Spreads}
use Rattle.bc_flow.proofs.Membership.{Contains-nil}
use Rattle.bc_flow.proofs.Entries.{entered}
use Rattle.bc_flow.proofs.DepthFirst.{marked}
use Rattle.bc_flow.proofs.Visits.{itself, only}

-- before anything is handed on
pub Spreads-none : (node fact : ℕ) (enters : ℕ → Bool) (rows : List (List Bool)) (pending : List ℕ) → Spreads [] node fact enters rows rows pending pending
Spreads-none node fact enters rows pending = record {
  others = λ n f apart. refl;
  kept = λ n h. h;
  spread = λ n e _. absurd (Contains-nil (record { from = node; to = n }) e);
  no_more = λ n h. inl h;
  pending_kept = λ n h. h;
  pending_new = λ n h. inl h;
  pending_only = λ n h. inl h;
  progress = omega arith;
}

-- an edge into a node of `enters` that does not have the fact
pub Spreads-entered : (node next fact : ℕ) (enters : ℕ → Bool) (old new : List (List Bool)) (old_pending pending : List ℕ) → next < length old → fact < length (row old next) →
    enters next ≡ true → holds old next fact ≡ false → new ≡ set old next (row new next) → row new next ≡ set (row old next) fact true → pending ≡ old_pending ++ next ∷ [] →
    Spreads (record { from = node; to = next } ∷ []) node fact enters old new old_pending pending
Spreads-entered node next fact enters old new old_pending pending within small lets absent written row_is pushed =
    let is = entered old new (record { node = next; fact = fact }) small written row_is in
    record {
      others = λ n f apart. is.elsewhere n f (λ _ same. apart same);
      kept = λ n h. elim (cases_eq n next) [
        | inl at ↦ is.here n fact at refl
        | inr apart ↦ is.elsewhere n fact (λ at _. apart at) ∙ h
      ];
      spread = λ n e _. is.here n fact (only node next n e) refl;
      no_more = λ n h. elim (cases_eq n next) [
        | inl at ↦ inr (itself node next n at, rw at lets)
        | inr apart ↦ inl (sym (is.elsewhere n fact (λ at _. apart at)) ∙ h)
      ];
      pending_kept = λ n h. rw pushed (Contains-append_left old_pending (next ∷ []) n h);
      pending_new = λ n h. elim (cases_eq n next) [
        | inl at ↦ inr (rw (pushed, at) (Contains-push old_pending next))
        | inr apart ↦ inl (sym (is.elsewhere n fact (λ at _. apart at)) ∙ h)
      ];
      pending_only = λ n h. elim (Contains-push_cases old_pending next n (rw pushed at h)) [
        | inl old ↦ inl old
        | inr at ↦ inr (is.here n fact (sym at) refl)
      ];
      progress =
          let s = sum_by-set absent_count old next (row new next) [] within in
          let t : sum_by absent_count new ≡ sum_by absent_count (set old next (row new next)) = ap (sum_by absent_count) written in
          let one = marked (row old next) fact small absent in
          let fewer : absent_count (row new next) ≡ absent_count (set (row old next) fact true) = ap absent_count row_is in
          let longer : length pending ≡ length old_pending + 1 = ap length pushed ∙ length-append old_pending (next ∷ []) in
          omega (arith, s, t, one, fewer, longer);
    }

-- one more edge
pub Spreads-more : (node fact : ℕ) (enters : ℕ → Bool) (edges : List Edge) (e : Edge) (old mid new : List (List Bool)) (old_pending mid_pending pending : List ℕ) →
    Spreads edges node fact enters old mid old_pending mid_pending → Spreads (e ∷ []) node fact enters mid new mid_pending pending →
    Spreads (edges ++ e ∷ []) node fact enters old new old_pending pending
Spreads-more node fact enters edges e old mid new old_pending mid_pending pending p q = record {
  others = λ n f apart. q.others n f apart ∙ p.others n f apart;
  kept = λ n h. q.kept n (p.kept n h);
  spread = λ n t lets. elim (Contains-append_cases edges (e ∷ []) (record { from = node; to = n }) t) [
    | inl earlier ↦ q.kept n (p.spread n earlier lets)
    | inr now ↦ q.spread n now lets
  ];
  no_more = λ n h. elim (q.no_more n h) [
    | inl before ↦ elim (p.no_more n before) [
      | inl first ↦ inl first
      | inr t ↦ inr (Contains-append_left edges (e ∷ []) (record { from = node; to = n }) t.0, t.1)
    ]
    | inr t ↦ inr (Contains-append_right edges (e ∷ []) (record { from = node; to = n }) t.0, t.1)
  ];
  pending_kept = λ n h. q.pending_kept n (p.pending_kept n h);
  pending_new = λ n h. elim (q.pending_new n h) [
    | inl before ↦ elim (p.pending_new n before) [ inl first ↦ inl first | inr waits ↦ inr (q.pending_kept n waits) ]
    | inr waits ↦ inr waits
  ];
  pending_only = λ n h. elim (q.pending_only n h) [
    | inl before ↦ elim (p.pending_only n before) [ inl first ↦ inl first | inr has ↦ inr (q.kept n has) ]
    | inr has ↦ inr has
  ];
  progress = let a = p.progress in let b = q.progress in omega arith;
}

-- other edges lead from the node to the same targets
pub Spreads-same : (node fact : ℕ) (enters : ℕ → Bool) (edges others : List Edge) (old new : List (List Bool)) (old_pending pending : List ℕ) →
    ((b : ℕ) → HasEdge edges node b ↔ HasEdge others node b) → Spreads edges node fact enters old new old_pending pending → Spreads others node fact enters old new old_pending pending
Spreads-same node fact enters edges others old new old_pending pending same p = record {
  others = p.others;
  kept = p.kept;
  spread = λ n t. p.spread n ((same n).1 t);
  no_more = λ n h. elim (p.no_more n h) [ inl before ↦ inl before | inr t ↦ inr ((same n).0 t.0, t.1) ];
  pending_kept = p.pending_kept;
  pending_new = p.pending_new;
  pending_only = p.pending_only;
  progress = p.progress;
}

-- A walk of a fact from `start`: each node that has it was reached, and each handed it on or is still to be visited.
pub record IsWalk (edges : List Edge) (passes enters : ℕ → Bool) (start fact : ℕ) (rows : List (List Bool)) (pending : List ℕ) : Type 0 where
  pub reached : (n : ℕ) → holds rows n fact ≡ true → Reaches edges passes enters start n
  pub known : (n : ℕ) → Contains pending n → (n ≡ start) ⊎ (holds rows n fact ≡ true)
  pub handed_on : (m n : ℕ) → (m ≡ start) ⊎ (holds rows m fact ≡ true) → passes m ≡ true → HasEdge edges m n → enters n ≡ true → (holds rows n fact ≡ true) ⊎ Contains pending m

-- the node that was taken from the list, or one of the rest
taken : (node m : ℕ) (before rest : List ℕ) → before ≡ rest ++ node ∷ [] → Contains before m → Contains rest m ⊎ (m ≡ node)
taken node m before rest is h = elim (Contains-push_cases rest node m (rw is at h)) [ inl later ↦ inl later | inr now ↦ inr (sym now) ]

known_from : (edges : List Edge) (passes enters : ℕ → Bool) (start fact node : ℕ) (rows : List (List Bool)) (before rest : List ℕ) → before ≡ rest ++ node ∷ [] →
    IsWalk edges passes enters start fact rows before → (n : ℕ) → Contains rest n → (n ≡ start) ⊎ (holds rows n fact ≡ true)
known_from edges passes enters start fact node rows before rest is walk n h = walk.known n (rw is (Contains-append_left rest (node ∷ []) n h))

-- a visit of a node that hands nothing on
pub IsWalk-stays : (edges : List Edge) (passes enters : ℕ → Bool) (start fact node : ℕ) (rows : List (List Bool)) (before rest : List ℕ) → before ≡ rest ++ node ∷ [] → passes node ≡ false →
    IsWalk edges passes enters start fact rows before → IsWalk edges passes enters start fact rows rest
IsWalk-stays edges passes enters start fact node rows before rest is shut walk = record {
  reached = walk.reached;
  known = known_from edges passes enters start fact node rows before rest is walk;
  handed_on = λ m n from lets e into. elim (walk.handed_on m n from lets e into) [
    | inl there ↦ inl there
    | inr waits ↦ elim (taken node m before rest is waits) [
      | inl later ↦ inr later
      | inr now ↦ absurd (both_ways (passes node) shut (rw now at lets))
    ]
  ];
}

-- a visit of a node that hands the fact on
pub IsWalk-visit : (edges : List Edge) (passes enters : ℕ → Bool) (start fact node : ℕ) (old new : List (List Bool)) (before rest pending : List ℕ) → before ≡ rest ++ node ∷ [] → passes node ≡ true →
    Spreads edges node fact enters old new rest pending → IsWalk edges passes enters start fact old before → IsWalk edges passes enters start fact new pending
IsWalk-visit edges passes enters start fact node old new before rest pending is lets spreads walk =
    let here : (node ≡ start) ⊎ (holds old node fact ≡ true) = walk.known node (rw is (Contains-push rest node)) in
    record {
      reached = λ n h. elim (spreads.no_more n h) [
        | inl was ↦ walk.reached n was
        | inr t ↦ elim here [
          | inl at ↦ begins n (rw at at lets) (rw at at t.0) t.1
          | inr had ↦ goes_on node n (walk.reached node had) lets t.0 t.1
        ]
      ];
      known = λ n h. elim (spreads.pending_only n h) [
        | inl later ↦ elim (known_from edges passes enters start fact node old before rest is walk n later) [
          | inl at ↦ inl at
          | inr had ↦ inr (spreads.kept n had)
        ]
        | inr has ↦ inr has
      ];
      handed_on = λ m n from passed e into. elim (cases_eq m node) [
        | inl at ↦ inl (spreads.spread n (rw at at e) into)
        | inr apart ↦
            let waits_or_was : ((m ≡ start) ⊎ (holds old m fact ≡ true)) ⊎ Contains pending m = elim from [
              | inl first ↦ inl (inl first)
              | inr has ↦ elim (spreads.pending_new m has) [ inl was ↦ inl (inr was) | inr waits ↦ inr waits ]
            ] in
            elim waits_or_was [
              | inr waits ↦ inr waits
              | inl was ↦ elim (walk.handed_on m n was passed e into) [
                | inl there ↦ inl (spreads.kept n there)
                | inr waited ↦ elim (taken node m before rest is waited) [
                  | inl later ↦ inr (spreads.pending_kept m later)
                  | inr now ↦ absurd (apart now)
                ]
              ]
            ]
      ];
    }

-- at the end each reachable node has the fact
all_reached : (edges : List Edge) (passes enters : ℕ → Bool) (start fact : ℕ) (rows : List (List Bool)) (pending : List ℕ) → length pending ≡ 0 → IsWalk edges passes enters start fact rows pending →
    (n : ℕ) → Reaches edges passes enters start n → holds rows n fact ≡ true
all_reached edges passes enters start fact rows pending none walk n (begins m lets e into) =
    elim (walk.handed_on start m (inl refl) lets e into) [ inl there ↦ there | inr (i, within, at) ↦ absurd (omega (arith, none, within)) ]
all_reached edges passes enters start fact rows pending none walk n (goes_on m q before lets e into) =
    elim (walk.handed_on m q (inr (all_reached edges passes enters start fact rows pending none walk m before)) lets e into) [ inl there ↦ there | inr (i, within, at) ↦ absurd (omega (arith, none, within)) ]

-- at the end exactly the reachable nodes have the fact
pub IsWalk-end : (edges : List Edge) (passes enters : ℕ → Bool) (start fact : ℕ) (rows : List (List Bool)) (pending : List ℕ) → length pending ≡ 0 → IsWalk edges passes enters start fact rows pending →
    (n : ℕ) → (holds rows n fact ≡ true) ↔ Reaches edges passes enters start n
IsWalk-end edges passes enters start fact rows pending none walk n = (walk.reached n, all_reached edges passes enters start fact rows pending none walk n)
