-- A breadth-first search, level by level.
use Rattle.std.proofs.Common.{◌≡◌, ℕ, zero, suc, ◌+◌, ◌<◌, ◌≤◌, ◌⊎◌, List, [], ◌∷◌, ◌++◌, cond, length, get_or, set, take, replicate, inl, inr, refl, sym, ap, ◌∙◌, subst, arith}
use Rattle.std.specs.List.{All, Contains, sum_by}
use Rattle.std.proofs.lemmas.Bool.{cases_eq, cases_lt, ne_eqb}
use Rattle.std.proofs.lemmas.List.{get_or-set_same, get_or-set_other, length_push, get_or_past, take_more}
use Rattle.std.proofs.lemmas.List.Elements.{Contains-get_or, Contains-push, Contains-append_left, Contains-push_cases}
use Rattle.std.proofs.lemmas.List.Sums.{sum_by-cons, sum_by-set}
use Rattle.bc_flow.specs.declared.graph.Edge.{Edge}
use Rattle.bc_flow.specs.Graph.{HasEdge}
use Rattle.bc_flow.specs.Chains.{IsNext}
use Rattle.bc_flow.proofs.Chains.{skipped}
use Rattle.bc_flow.proofs.Membership.{Contains-nil}
use Rattle.bc_flow.specs.Levels.{is_unreached, unreached, GivesLevel, IsSuccessor, AreLevelsUpTo, AreLevels}

-- ---- what was reached

abbrev one_unreached : ℕ → ℕ
one_unreached level = cond (is_unreached level) 1 0

-- one unreached node less
pub unreached-set : (levels : List ℕ) (n level : ℕ) → n < length levels → get_or levels n 0 ≡ 0 → 0 < level → unreached (set levels n level) + 1 ≡ unreached levels
unreached-set levels n level within is positive =
    let whole : sum_by one_unreached (set levels n level) + one_unreached (get_or levels n 0) ≡ sum_by one_unreached levels + one_unreached level = sum_by-set one_unreached levels n level 0 within in
    let one : one_unreached (get_or levels n 0) ≡ 1 = ap one_unreached is in
    let none : one_unreached level ≡ 0 = ap (λ b. cond b 1 0) (ne_eqb level 0 (λ same. omega (arith, same, positive))) in
    let counts : sum_by one_unreached (set levels n level) + 1 ≡ sum_by one_unreached levels = omega (arith, whole, one, none) in
    counts

pub unreached-replicate : (n : ℕ) → unreached (replicate n 0) ≡ n
unreached-replicate zero = refl
unreached-replicate (suc n) =
    let one : sum_by one_unreached (0 ∷ replicate n 0) ≡ 1 + sum_by one_unreached (replicate n 0) = sum_by-cons one_unreached 0 (replicate n 0) in
    let rest : sum_by one_unreached (replicate n 0) ≡ n = unreached-replicate n in
    let whole : sum_by one_unreached (0 ∷ replicate n 0) ≡ suc n = omega (arith, one, rest) in
    whole

-- ---- marks

pub edge_eq : (e : Edge) (from to : ℕ) → e.from ≡ from → e.to ≡ to → e ≡ record { from = from; to = to }
edge_eq e from to f t =
    let edge : ℕ → ℕ → Edge = λ x y. record { from = x; to = y } in
    ap (λ x. edge x e.to) f ∙ ap (λ y. edge from y) t

pub GivesLevel-none : (P : ℕ → Type 0) (level : ℕ) (levels found : List ℕ) → ((n : ℕ) → P n → 0 < get_or levels n 0) → GivesLevel P level levels levels found found
GivesLevel-none P level levels found passed = record {
  kept = λ n h. refl;
  passed = passed;
  changed = λ n. inl refl;
  found_kept = λ n h. h;
  found_new = λ n h. inl h;
  counted = refl;
}

-- an unreached target got the level
pub GivesLevel-one : (level node : ℕ) (levels found : List ℕ) → 0 < level → node < length levels → get_or levels node 0 ≡ 0 →
    GivesLevel (λ n. n ≡ node) level levels (set levels node level) found (found ++ node ∷ [])
GivesLevel-one level node levels found positive within is =
    let here : get_or (set levels node level) node 0 ≡ level = get_or-set_same levels node level 0 within in
    record {
      kept = λ n h. elim (cases_eq n node) [
        | inl same ↦ absurd (let unset : get_or levels n 0 ≡ 0 = rw same is in omega (arith, h, unset))
        | inr other ↦ get_or-set_other levels node n level 0 other
      ];
      passed = λ n same. rw same (omega (arith, here, positive));
      changed = λ n. elim (cases_eq n node) [
        | inl same ↦ inr (same, rw same here, rw same (Contains-push found node))
        | inr other ↦ inl (get_or-set_other levels node n level 0 other)
      ];
      found_kept = λ n h. Contains-append_left found (node ∷ []) n h;
      found_new = λ n h. elim (Contains-push_cases found node n h) [
        | inl before ↦ inl before
        | inr same ↦ inr (rw (← same) here)
      ];
      counted = let one = unreached-set levels node level within is positive in omega (arith, one, length_push found node);
    }

-- first some targets got the level, then the others
pub GivesLevel-then : (P Q R : ℕ → Type 0) (level : ℕ) (a b c fa fb fc : List ℕ) → 0 < level → ((n : ℕ) → P n → R n) → ((n : ℕ) → Q n → R n) → ((n : ℕ) → R n → P n ⊎ Q n) →
    GivesLevel P level a b fa fb → GivesLevel Q level b c fb fc → GivesLevel R level a c fa fc
GivesLevel-then P Q R level a b c fa fb fc positive left right either one two = record {
  kept = λ n h. two.kept n (let same = one.kept n h in omega (arith, same, h)) ∙ one.kept n h;
  passed = λ n target. elim (either n target) [
    | inl early ↦ let was = one.passed n early in let same = two.kept n was in omega (arith, was, same)
    | inr late ↦ two.passed n late
  ];
  changed = λ n. elim (two.changed n) [
    | inl same ↦ elim (one.changed n) [
      | inl again ↦ inl (same ∙ again)
      | inr new ↦ inr (left n new.0, same ∙ new.1, two.found_kept n new.2)
    ]
    | inr new ↦ inr (right n new.0, new.1, new.2)
  ];
  found_kept = λ n h. two.found_kept n (one.found_kept n h);
  found_new = λ n h. elim (two.found_new n h) [
    | inl before ↦ elim (one.found_new n before) [
      | inl old ↦ inl old
      | inr at ↦ inr (two.kept n (omega (arith, at, positive)) ∙ at)
    ]
    | inr at ↦ inr at
  ];
  counted = omega (arith, one.counted, two.counted);
}

pub GivesLevel-same : (P Q : ℕ → Type 0) (level : ℕ) (a b fa fb : List ℕ) → ((n : ℕ) → P n → Q n) → ((n : ℕ) → Q n → P n) → GivesLevel P level a b fa fb → GivesLevel Q level a b fa fb
GivesLevel-same P Q level a b fa fb forth back one = record {
  kept = one.kept;
  passed = λ n target. one.passed n (back n target);
  changed = λ n. elim (one.changed n) [
    | inl same ↦ inl same
    | inr new ↦ inr (forth n new.0, new.1, new.2)
  ];
  found_kept = one.found_kept;
  found_new = one.found_new;
  counted = one.counted;
}

-- one more of the edges that leave a node
pub GivesLevel-edge : (edges : List Edge) (node i next level : ℕ) (e : Edge) (a b c fa fb fc : List ℕ) → 0 < level → i < length edges → get_or edges i e ≡ e → e.from ≡ node → IsNext edges node (i + 1) next →
    GivesLevel (HasEdge (take i edges) node) level a b fa fb → GivesLevel (λ n. n ≡ e.to) level b c fb fc → GivesLevel (HasEdge (take next edges) node) level a c fa fc
GivesLevel-edge edges node i next level e a b c fa fb fc positive within is from skip one two =
    let more : take (i + 1) edges ≡ take i edges ++ e ∷ [] = take_more edges i e within ∙ ap (λ x. take i edges ++ x ∷ []) is in
    let both = GivesLevel-then (HasEdge (take i edges) node) (λ n. n ≡ e.to) (HasEdge (take i edges ++ e ∷ []) node) level a b c fa fb fc positive
    (λ n h. Contains-append_left (take i edges) (e ∷ []) (record { from = node; to = n }) h)
    (λ n same. subst (λ (v : Edge). Contains (take i edges ++ e ∷ []) v) (edge_eq e node n from (sym same)) (Contains-push (take i edges) e))
    (λ n h. elim (Contains-push_cases (take i edges) e (record { from = node; to = n }) h) [
      | inl before ↦ inl before
      | inr here ↦ inr (sym (ap (λ (v : Edge). v.to) here))
    ])
    one two in
    GivesLevel-same (HasEdge (take i edges ++ e ∷ []) node) (HasEdge (take next edges) node) level a c fa fc
    (λ n h. (skipped edges node (i + 1) next skip n).0 (rw more h))
    (λ n h. rw more at ((skipped edges node (i + 1) next skip n).1 h))
    both

-- one more node of a front
pub GivesLevel-front : (edges : List Edge) (front : List ℕ) (i level : ℕ) (a b c fa fb fc : List ℕ) → 0 < level → i < length front →
    GivesLevel (IsSuccessor edges (take i front)) level a b fa fb → GivesLevel (HasEdge edges (get_or front i 0)) level b c fb fc → GivesLevel (IsSuccessor edges (take (i + 1) front)) level a c fa fc
GivesLevel-front edges front i level a b c fa fb fc positive within one two =
    let x : ℕ = get_or front i 0 in
    rw (take_more front i 0 within)
    (GivesLevel-then (IsSuccessor edges (take i front)) (HasEdge edges x) (IsSuccessor edges (take i front ++ x ∷ [])) level a b c fa fb fc positive
    (λ n h. (h.0, Contains-append_left (take i front) (x ∷ []) h.0 h.1, h.2))
    (λ n h. (x, Contains-push (take i front) x, h))
    (λ n h. elim (Contains-push_cases (take i front) x h.0 h.1) [
      | inl before ↦ inl (h.0, before, h.2)
      | inr same ↦ inr (rw same h.2)
    ])
    one two)

-- one more source
pub GivesLevel-source : (sources : List ℕ) (i level : ℕ) (a b c fa fb fc : List ℕ) → 0 < level → i < length sources →
    GivesLevel (Contains (take i sources)) level a b fa fb → GivesLevel (λ n. n ≡ get_or sources i 0) level b c fb fc → GivesLevel (Contains (take (i + 1) sources)) level a c fa fc
GivesLevel-source sources i level a b c fa fb fc positive within one two =
    let x : ℕ = get_or sources i 0 in
    rw (take_more sources i 0 within)
    (GivesLevel-then (Contains (take i sources)) (λ n. n ≡ x) (Contains (take i sources ++ x ∷ [])) level a b c fa fb fc positive
    (λ n h. Contains-append_left (take i sources) (x ∷ []) n h)
    (λ n same. rw same (Contains-push (take i sources) x))
    (λ n h. elim (Contains-push_cases (take i sources) x n h) [
      | inl before ↦ inl before
      | inr same ↦ inr (sym same)
    ])
    one two)

-- ---- levels

-- the sources are the first level
pub AreLevelsUpTo-first : (edges : List Edge) (sources : List ℕ) (empty levels front : List ℕ) → ((n : ℕ) → get_or empty n 0 ≡ 0) → GivesLevel (Contains sources) 1 empty levels [] front →
    AreLevelsUpTo edges sources 1 levels front
AreLevelsUpTo-first edges sources empty levels front none marks =
    let cases : (n : ℕ) → (get_or levels n 0 ≡ 0) ⊎ (Contains sources n × (get_or levels n 0 ≡ 1) × Contains front n) = λ n. elim (marks.changed n) [
      | inl same ↦ inl (same ∙ none n)
      | inr new ↦ inr new
    ] in
    let deep : (n : ℕ) → get_or levels n 0 ≤ 1 = λ n. elim (cases n) [
      | inl unset ↦ omega (arith, unset)
      | inr new ↦ omega (arith, new.1)
    ] in
    record {
      onward = omega arith;
      deep = deep;
      begins = λ n h. omega (arith, marks.passed n h, deep n);
      first = λ n h. elim (cases n) [
        | inl unset ↦ absurd (omega (arith, unset, h))
        | inr new ↦ new.0
      ];
      goes_on = λ n h. absurd (omega (arith, h, deep n));
      listed = λ n h. elim (cases n) [
        | inl unset ↦ absurd (omega (arith, unset, h))
        | inr new ↦ new.2
      ];
      at_level = λ n h. elim (marks.found_new n h) [
        | inl old ↦ absurd (Contains-nil n old)
        | inr at ↦ at
      ];
      closed = λ m n edge positive below. absurd (omega (arith, positive, below));
    }

-- one more level
pub AreLevelsUpTo-more : (edges : List Edge) (sources : List ℕ) (level : ℕ) (levels new front found : List ℕ) → AreLevelsUpTo edges sources level levels front →
    GivesLevel (IsSuccessor edges front) (level + 1) levels new [] found → AreLevelsUpTo edges sources (level + 1) new found
AreLevelsUpTo-more edges sources level levels new front found old marks =
    let deep : (n : ℕ) → get_or new n 0 ≤ level + 1 = λ n. elim (marks.changed n) [
      | inl same ↦ omega (arith, same, old.deep n)
      | inr change ↦ omega (arith, change.1)
    ] in
    record {
      onward = omega arith;
      deep = deep;
      begins = λ n h. let was = old.begins n h in marks.kept n (omega (arith, was)) ∙ was;
      first = λ n h. elim (marks.changed n) [
        | inl same ↦ old.first n (sym same ∙ h)
        | inr change ↦ absurd (omega (arith, change.1, h, old.onward))
      ];
      goes_on = λ n h. elim (marks.changed n) [
        | inl same ↦
            let way = old.goes_on n (omega (arith, same, h)) in
            let kept = marks.kept way.0 (omega (arith, way.2, same, h)) in
            (way.0, way.1, omega (arith, way.2, same, kept))
        | inr change ↦
            let behind = change.0 in
            let at = old.at_level behind.0 behind.1 in
            let kept = marks.kept behind.0 (omega (arith, at, old.onward)) in
            (behind.0, behind.2, omega (arith, at, kept, change.1))
      ];
      listed = λ n h. elim (marks.changed n) [
        | inl same ↦ absurd (omega (arith, same, h, old.deep n))
        | inr change ↦ change.2
      ];
      at_level = λ n h. elim (marks.found_new n h) [
        | inl before ↦ absurd (Contains-nil n before)
        | inr at ↦ at
      ];
      closed = λ m n edge positive below. elim (marks.changed m) [
        | inl same ↦ elim (cases_lt (get_or levels m 0) level) [
          | inl less ↦
              let was = old.closed m n edge (omega (arith, same, positive)) less in
              let kept = marks.kept n was.0 in
              (omega (arith, was.0, kept), omega (arith, was.1, kept, same))
          | inr more ↦
              let at : get_or levels m 0 ≡ level = omega (arith, more, old.deep m) in
              (marks.passed n (m, old.listed m at, edge), omega (arith, deep n, same, at))
        ]
        | inr change ↦ absurd (omega (arith, below, change.1))
      ];
    }

-- the search ends at a level without nodes
pub AreLevels-end : (edges : List Edge) (sources : List ℕ) (level : ℕ) (levels front : List ℕ) → length front ≡ 0 → AreLevelsUpTo edges sources level levels front → AreLevels edges sources levels
AreLevels-end edges sources level levels front none spread = record {
  begins = spread.begins;
  first = spread.first;
  goes_on = spread.goes_on;
  closed = λ m n edge positive. elim (cases_lt (get_or levels m 0) level) [
    | inl less ↦ spread.closed m n edge positive less
    | inr more ↦
        let at : get_or levels m 0 ≡ level = omega (arith, more, spread.deep m) in
        let (k, within, _) = spread.listed m at in
        absurd (omega (arith, within, none))
  ];
}

-- a reached node is one of the nodes
pub reached_within : (levels : List ℕ) (n : ℕ) → 0 < get_or levels n 0 → n < length levels
reached_within levels n h = elim (cases_lt n (length levels)) [
  | inl within ↦ within
  | inr past ↦ absurd (let none = get_or_past levels n 0 past in omega (arith, h, none))
]

pub front_within : (edges : List Edge) (sources : List ℕ) (level : ℕ) (levels front : List ℕ) → AreLevelsUpTo edges sources level levels front → All (λ n. n < length levels) front
front_within edges sources level levels front spread = λ k d within.
    let at = spread.at_level (get_or front k d) (Contains-get_or front k d within) in
    reached_within levels (get_or front k d) (omega (arith, at, spread.onward))
