-- The same facts flow between groups of nodes as between the nodes.
use Rattle.std.proofs.Common.{◌≡◌, ℕ, ◌+◌, ◌<◌, inl, inr, Bool, true, ◌||◌, List, [], map, length, get_or, refl, sym, ap, ◌∙◌, arith}
use Rattle.std.specs.List.{All, range_with_len}
use Rattle.std.proofs.lemmas.Bool.{cases_eq, cases_lt, both_ways, or_cases, or_left, or_right}
use Rattle.std.proofs.lemmas.List.{get_or-map, get_or_past, length-map}
use Rattle.std.proofs.lemmas.List.Elements.{All-contains, All-map, All-weaker, All-get_or, All-from_get_or}
use Rattle.std.proofs.lemmas.List.FromFn.{fill_by_all}
use Rattle.bc_flow.specs.declared.graph.Edge.{Edge}
use Rattle.bc_flow.specs.BitSet.{has}
use Rattle.bc_flow.specs.Graph.{AreWithin, Leads, at_once, further, turned}
use Rattle.bc_flow.specs.Flow.{row, holds, HaveSize, Flows, begins, goes_on, IsFlow}
use Rattle.bc_flow.proofs.Membership.{from_map, in_map}
use Rattle.bc_flow.proofs.Ways.{edge_is_turned}
use Rattle.bc_groups.specs.Groups.{AreGroups, AreMutual, IsAgreed, group_edge, AreGathered, rows_by}

pub leads_on : (edges : List Edge) (a b c : ℕ) → Leads edges a b → Leads edges b c → Leads edges a c
leads_on edges a b c first at_once = first
leads_on edges a b c first (further m n before edge) = further m n (leads_on edges a b m first before) edge

pub leads_back : (edges : List Edge) (a b : ℕ) → Leads (map turned edges) a b → Leads edges b a
leads_back edges a b at_once = at_once
leads_back edges a b (further m n before edge) =
    leads_on edges n m a (further n m at_once ((edge_is_turned edges n m).0 edge)) (leads_back edges a m before)

flows_along : (edges : List Edge) (seeds : List (List Bool)) (f a b : ℕ) → Flows edges seeds [] f a → Leads edges a b → Flows edges seeds [] f b
flows_along edges seeds f a b flow at_once = flow
flows_along edges seeds f a b flow (further m n before edge) = goes_on m n (flows_along edges seeds f a m flow before) edge refl

-- what flows to a group flows to each of its nodes
from_group : (edges : List Edge) (seeds : List (List Bool)) (nodes groups : ℕ) (group_of : List ℕ) (gathered : List (List Bool)) →
    AreWithin edges nodes → AreGroups edges nodes groups group_of → AreGathered nodes seeds group_of gathered →
    (f g : ℕ) → Flows (map (group_edge group_of) edges) gathered [] f g → (n : ℕ) → n < nodes → get_or group_of n 0 ≡ g → Flows edges seeds [] f n
from_group edges seeds nodes groups group_of gathered within grouped all f g (begins k h) n inside is =
    let start = (all k f).0 h in
    flows_along edges seeds f start.0 n (begins start.0 start.3) (grouped.together start.0 n start.1 inside (start.2 ∙ sym is))
from_group edges seeds nodes groups group_of gathered within grouped all f g (goes_on a b before edge alive) n inside is =
    let way = from_map (group_edge group_of) edges (record { from = a; to = b }) edge in
    let e : Edge = way.0 in
    let ends = All-contains (λ (x : Edge). (x.from < nodes) × (x.to < nodes)) edges e within way.1 in
    let there : Flows edges seeds [] f e.from = from_group edges seeds nodes groups group_of gathered within grouped all f a before e.from ends.0 (ap (λ (x : Edge). x.from) way.2) in
    flows_along edges seeds f e.to n (goes_on e.from e.to there way.1 refl) (grouped.together e.to n ends.1 inside (ap (λ (x : Edge). x.to) way.2 ∙ sym is))

pub row_by : (rows : List (List Bool)) (row_of : List ℕ) (n : ℕ) → n < length row_of → row (rows_by rows row_of) n ≡ row rows (get_or row_of n 0)
row_by rows row_of n h = get_or-map (row rows) row_of n 0 [] h

pub holds_by : (rows : List (List Bool)) (row_of : List ℕ) (n f : ℕ) → n < length row_of → holds (rows_by rows row_of) n f ≡ holds rows (get_or row_of n 0) f
holds_by rows row_of n f h = ap (λ t. has t f) (row_by rows row_of n h)

holds_within : (rows : List (List Bool)) (n f : ℕ) → holds rows n f ≡ true → n < length rows
holds_within rows n f h = elim (cases_lt n (length rows)) [
  | inl inside ↦ inside
  | inr past ↦ absurd (both_ways (holds rows n f) (ap (λ t. has t f) (get_or_past rows n [] past)) h)
]

pub flow_by_groups : (edges : List Edge) (seeds : List (List Bool)) (nodes groups : ℕ) (group_of : List ℕ) (gathered rows : List (List Bool)) →
    AreWithin edges nodes → length seeds ≡ nodes → AreGroups edges nodes groups group_of → AreGathered nodes seeds group_of gathered →
    IsFlow (map (group_edge group_of) edges) gathered [] rows → IsFlow edges seeds [] (rows_by rows group_of)
flow_by_groups edges seeds nodes groups group_of gathered rows within same grouped all flow = record {
  begins = λ n f h.
      let inside : n < nodes = omega (arith, holds_within seeds n f h, same) in
      holds_by rows group_of n f (omega (arith, inside, grouped.count)) ∙ flow.begins (get_or group_of n 0) f ((all (get_or group_of n 0) f).1 (n, inside, refl, h));
  goes_on = λ m n f h e k.
      let ends = All-contains (λ (x : Edge). (x.from < nodes) × (x.to < nodes)) edges (record { from = m; to = n }) within e in
      let from : m < length group_of = omega (arith, ends.0, grouped.count) in
      let to : n < length group_of = omega (arith, ends.1, grouped.count) in
      holds_by rows group_of n f to
      ∙ flow.goes_on (get_or group_of m 0) (get_or group_of n 0) f (sym (holds_by rows group_of m f from) ∙ h) (in_map (group_edge group_of) edges (record { from = m; to = n }) e) refl;
  least = λ n f h.
      let inside : n < length group_of = omega (arith, holds_within (rows_by rows group_of) n f h, length-map group_of (row rows)) in
      from_group edges seeds nodes groups group_of gathered within grouped all f (get_or group_of n 0)
      (flow.least (get_or group_of n 0) f (sym (holds_by rows group_of n f inside) ∙ h)) n (omega (arith, inside, grouped.count)) refl;
}

-- a table whose rows are numbered in order
pub rows_by_themselves : (rows : List (List Bool)) (row_of : List ℕ) → row_of ≡ range_with_len 0 (length rows) → rows_by rows row_of ≡ rows
rows_by_themselves rows row_of is = ap (rows_by rows) is ∙ sym (fill_by_all (row rows) rows (length rows) [] refl (λ k h. refl))

pub rows_by_size : (facts : ℕ) (seeds rows : List (List Bool)) (row_of : List ℕ) → HaveSize facts seeds → HaveSize (length (row seeds 0)) rows → length rows ≡ length seeds →
    All (λ n. n < length rows) row_of → HaveSize facts (rows_by rows row_of)
rows_by_size facts seeds rows row_of sized kept same all =
    All-map (λ (set : List Bool). length set ≡ facts) (row rows) row_of
    (λ k d h. let inside = all k d h in kept (get_or row_of k d) [] inside ∙ sized 0 [] (omega (arith, inside, same)))

-- the edges between groups are within the groups
pub group_edges_within : (edges : List Edge) (nodes groups : ℕ) (group_of : List ℕ) → AreWithin edges nodes → length group_of ≡ nodes → All (λ g. g < groups) group_of → AreWithin (map (group_edge group_of) edges) groups
group_edges_within edges nodes groups group_of within count all =
    All-map (λ (e : Edge). (e.from < groups) × (e.to < groups)) (group_edge group_of) edges
    (All-weaker (λ (e : Edge). (e.from < nodes) × (e.to < nodes)) (λ (e : Edge). (get_or group_of e.from 0 < groups) × (get_or group_of e.to 0 < groups))
    (λ e h. (all e.from 0 (omega (arith, h.0, count)), all e.to 0 (omega (arith, h.1, count)))) edges within)

-- one more node was gathered
pub gathered_more : (rows gathered new : List (List Bool)) (group_of : List ℕ) (k : ℕ) → ((g : ℕ) → (g ≡ get_or group_of k 0 → ⊥) → row new g ≡ row gathered g) →
    ((f : ℕ) → holds new (get_or group_of k 0) f ≡ (holds gathered (get_or group_of k 0) f || holds rows k f)) → AreGathered k rows group_of gathered → AreGathered (k + 1) rows group_of new
gathered_more rows gathered new group_of k others joined before g f =
    let own : ℕ = get_or group_of k 0 in
    elim (cases_eq g own) [
      | inl same ↦
          let written : holds new g f ≡ (holds gathered own f || holds rows k f) = ap (λ i. holds new i f) same ∙ joined f in (
            λ h. elim (or_cases (holds gathered own f) (holds rows k f) (sym written ∙ h)) [
              | inl old ↦ let n = (before own f).0 old in let below : n.0 < k = n.1 in (n.0, omega (arith, below), n.2 ∙ sym same, n.3)
              | inr late ↦ (k, omega arith, sym same, late)
            ],
            λ (n, below, is, h). written ∙ elim (cases_lt n k) [
              | inl early ↦ or_left (holds gathered own f) _ ((before own f).1 (n, early, is ∙ same, h))
              | inr late ↦ let at : n ≡ k = omega (arith, below, late) in or_right (holds gathered own f) _ (ap (λ i. holds rows i f) (sym at) ∙ h)
            ],
          )
      | inr other ↦
          let kept : holds new g f ≡ holds gathered g f = ap (λ t. has t f) (others g other) in (
            λ h. let n = (before g f).0 (sym kept ∙ h) in let below : n.0 < k = n.1 in (n.0, omega (arith, below), n.2, n.3),
            λ (n, below, is, h). elim (cases_lt n k) [
              | inl early ↦ kept ∙ (before g f).1 (n, early, is, h)
              | inr late ↦ let at : n ≡ k = omega (arith, below, late) in absurd (other (sym is ∙ ap (λ i. get_or group_of i 0) at))
            ],
          )
    ]

-- a node and its label are reachable from each other
pub mutual_with_label : (edges : List Edge) (before behind labels : List ℕ) (n : ℕ) → Leads edges (get_or before n 0) n → Leads edges n (get_or behind n 0) → IsAgreed before behind labels n →
    AreMutual edges n (get_or labels n 0)
mutual_with_label edges before behind labels n ahead back agreed = elim agreed [
  | inl own ↦ rw own (at_once, at_once)
  | inr t ↦ (rw t.1 back, rw t.0 ahead)
]

pub labels_within : (nodes : ℕ) (before behind labels : List ℕ) → length labels ≡ nodes → length before ≡ nodes → All (λ n. n < nodes) before → ((n : ℕ) → n < nodes → IsAgreed before behind labels n) →
    All (λ n. n < nodes) labels
labels_within nodes before behind labels count same within agreed = All-from_get_or (λ n. n < nodes) labels 0 (λ n h.
    let inside : n < nodes = omega (arith, h, count) in
    elim (agreed n inside) [
      | inl own ↦ omega (arith, own, inside)
      | inr t ↦ omega (arith, t.0, All-get_or (λ n. n < nodes) before n 0 (omega (arith, inside, same)) within)
    ])

-- nodes with one number have one label
pub together : (edges : List Edge) (nodes : ℕ) (labels group_of : List ℕ) → ((n : ℕ) → n < nodes → AreMutual edges n (get_or labels n 0)) →
    ((a b : ℕ) → a < nodes → b < nodes → get_or group_of a 0 ≡ get_or group_of b 0 → get_or labels a 0 ≡ get_or labels b 0) →
    (a b : ℕ) → a < nodes → b < nodes → get_or group_of a 0 ≡ get_or group_of b 0 → Leads edges a b
together edges nodes labels group_of paired same a b inside within is =
    leads_on edges a (get_or labels b 0) b (rw (same a b inside within is) at (paired a inside)).0 (paired b within).1
