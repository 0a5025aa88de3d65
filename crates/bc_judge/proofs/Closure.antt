-- What is known flows from the shorter regions of clauses, and of what types demand, to the longer ones.
use Rattle.std.proofs.Common.{◌≡◌, ℕ, ◌<◌, ◌⊎◌, inl, inr, Bool, true, List, [], ◌∷◌, ◌++◌, map, refl, sym, ap, subst, arith}
use Rattle.std.specs.Prelude.{nat_lt}
use Rattle.std.specs.List.{Contains, flat_map, range_with_len, list_all}
use Rattle.std.proofs.lemmas.Bool.{and_parts, ltb-true}
use Rattle.std.proofs.lemmas.List.Elements.{All-nil, All-cons, All-append, All-contains_itself, All-map, All-weaker, Contains-append_left, Contains-append_right, Contains-append_cases}
use Rattle.std.proofs.lemmas.List.Sums.{AllPass-from_list_all}
use Rattle.bc_syntax.specs.declared.syntax.Outlives.{Outlives}
use Rattle.bc_syntax.specs.declared.syntax.Region.{Region}
use Rattle.bc_syntax.specs.declared.syntax.Region.TheVariants.{Universal, Variable}
use Rattle.bc_syntax.specs.Fits.{region_fits, clause_fits}
use Rattle.bc_flow.specs.declared.graph.Edge.{Edge}
use Rattle.bc_flow.specs.declared.tables.Entry.{Entry}
use Rattle.bc_flow.specs.Graph.{AreWithin}
use Rattle.bc_flow.specs.Flow.{holds, AreEntriesWithin, HaveEntries, Flows, begins, goes_on, IsFlow}
use Rattle.bc_flow.proofs.Membership.{Contains-nil, Contains-one, Contains-cons, Contains-head, Contains-later, from_flat_map, in_flat_map, from_map, in_map, from_range, in_range}
use Rattle.bc_types.specs.declared.subtype.Constraint.{Constraint}
use Rattle.bc_types.specs.Subtype.{outlives}
use Rattle.bc_bodies.specs.Mir.{Mir}
use Rattle.bc_mir.specs.WellFormed.{implied_pairs, is_declared_pair}
use Rattle.bc_judge.specs.Known.{edge_of, edges_between, pair_edges, known_edges, entry, entries_of}
use Rattle.bc_judge.specs.Lifetimes.{IsKnown, same, static, clause, implied, join, TellsKnown}

-- the entries before any clause
abbrev pub first : ℕ → List Entry
first count = flat_map entries_of (range_with_len 0 count)

-- an entry is that a region outlives itself, or that 'static outlives it
abbrev pub IsFirst : ℕ → Entry → Type 0
IsFirst count e = (e.fact < count) × ((e.node ≡ e.fact) ⊎ (e.node ≡ 0))

pub from_first : (count : ℕ) (e : Entry) → Contains (first count) e → IsFirst count e
from_first count e h =
    let found = from_flat_map entries_of (range_with_len 0 count) e h in
    let below : found.0 < count = omega (arith, (from_range 0 count found.0 found.1).1) in
    elim (Contains-cons (entry found.0 found.0) (entry 0 found.0 ∷ []) e found.2) [
      | inl itself ↦ subst (IsFirst count) itself (below, inl refl)
      | inr other ↦ subst (IsFirst count) (Contains-one (entry 0 found.0) e other) (below, inr refl)
    ]

itself_first : (count u : ℕ) → u < count → Contains (first count) (entry u u)
itself_first count u below =
    in_flat_map entries_of (range_with_len 0 count) u (entry u u) (in_range 0 count u (omega arith) (omega arith)) (Contains-head (entry u u) (entry 0 u ∷ []))

static_first : (count u : ℕ) → u < count → Contains (first count) (entry 0 u)
static_first count u below =
    in_flat_map entries_of (range_with_len 0 count) u (entry 0 u) (in_range 0 count u (omega arith) (omega arith))
    (Contains-later (entry u u) (entry 0 u ∷ []) (entry 0 u) (Contains-head (entry 0 u) []))

first_within : (count : ℕ) (e : Entry) → IsFirst count e → (e.node < count) × (e.fact < count)
first_within count e (below, inl itself) = (omega arith, below)
first_within count e (below, inr zeroth) = (omega arith, below)

pub firsts_within : (count : ℕ) → AreEntriesWithin (first count) count count
firsts_within count =
    All-weaker (Contains (first count)) (λ e. (e.node < count) × (e.fact < count)) (λ e is. first_within count e (from_first count e is)) (first count) (All-contains_itself (first count))

clause_within : (count : ℕ) (c : Outlives) → clause_fits count c ≡ true → (c.shorter < count) × (c.longer < count)
clause_within count c named =
    let parts = and_parts (nat_lt c.longer count) (nat_lt c.shorter count) named in
    (ltb-true c.shorter count parts.1, ltb-true c.longer count parts.0)

pub clauses_within : (clauses : List Outlives) (count : ℕ) → list_all (clause_fits count) clauses ≡ true → AreWithin (map edge_of clauses) count
clauses_within clauses count named =
    All-map (λ (e : Edge). (e.from < count) × (e.to < count)) edge_of clauses
    (All-weaker (λ c. clause_fits count c ≡ true) (λ c. (c.shorter < count) × (c.longer < count)) (clause_within count) clauses (AllPass-from_list_all (clause_fits count) clauses named))

between_within : (count : ℕ) (longer shorter : Region) → region_fits true count longer ≡ true → region_fits true count shorter ≡ true → AreWithin (edges_between longer shorter) count
between_within count (Universal l) (Universal s) one other =
    All-cons (λ (e : Edge). (e.from < count) × (e.to < count)) (record { from = s; to = l }) [] (ltb-true s count other, ltb-true l count one) (All-nil _)
between_within count (Universal l) (Variable s) one other = All-nil _
between_within count (Variable l) shorter one other = All-nil _

pub pairs_within : (pairs : List Constraint) (count : ℕ) → list_all (is_declared_pair count) pairs ≡ true → AreWithin (flat_map pair_edges pairs) count
pairs_within [] count declared = All-nil _
pairs_within (pair ∷ pairs) count declared =
    let all = and_parts (is_declared_pair count pair) (list_all (is_declared_pair count) pairs) declared in
    let both = and_parts (region_fits true count pair.longer) (region_fits true count pair.shorter) all.0 in
    All-append (λ (e : Edge). (e.from < count) × (e.to < count)) (pair_edges pair) (flat_map pair_edges pairs) (between_within count pair.longer pair.shorter both.0 both.1) (pairs_within pairs count all.1)

pub edges_within : (one other : List Edge) (count : ℕ) → AreWithin one count → AreWithin other count → AreWithin (one ++ other) count
edges_within one other count = All-append (λ (e : Edge). (e.from < count) × (e.to < count)) one other

from_between : (longer shorter : Region) (e : Edge) → Contains (edges_between longer shorter) e → outlives longer shorter ≡ outlives (Universal e.to) (Universal e.from)
from_between (Universal l) (Universal s) e h = ap (λ (v : Edge). outlives (Universal v.to) (Universal v.from)) (Contains-one (record { from = s; to = l }) e h)
from_between (Universal l) (Variable s) e h = absurd (Contains-nil e h)
from_between (Variable l) shorter e h = absurd (Contains-nil e h)

-- an edge is from a region to one that is known to outlive it
known_from_edge : (mir : Mir) (m n : ℕ) → Contains (known_edges mir) (record { from = m; to = n }) → IsKnown mir n m
known_from_edge mir m n h = elim (Contains-append_cases (map edge_of mir.clauses) (flat_map pair_edges (implied_pairs mir)) (record { from = m; to = n }) h) [
  | inl one ↦
      let found = from_map edge_of mir.clauses (record { from = m; to = n }) one in
      let longer : found.0.longer ≡ n = ap (λ (e : Edge). e.to) found.2 in
      let shorter : found.0.shorter ≡ m = ap (λ (e : Edge). e.from) found.2 in
      clause n m (subst (λ l. Contains mir.clauses (record { longer = l; shorter = m })) longer (subst (λ s. Contains mir.clauses (record { longer = found.0.longer; shorter = s })) shorter found.1))
  | inr other ↦
      let found = from_flat_map pair_edges (implied_pairs mir) (record { from = m; to = n }) other in
      implied n m (subst (Contains (implied_pairs mir)) (from_between found.0.longer found.0.shorter (record { from = m; to = n }) found.2) found.1)
]

-- what flows to a region is known of it
known_from_flow : (mir : Mir) (count : ℕ) (seeds : List (List Bool)) → HaveEntries seeds (first count) → (b a : ℕ) → Flows (known_edges mir) seeds [] b a → IsKnown mir a b
known_from_flow mir count seeds listed b a (begins n h) =
    let is = from_first count (entry n b) ((listed n b).0 h) in
    elim (is.1) [
      | inl itself ↦ subst (λ k. IsKnown mir k b) (sym itself) (same b)
      | inr zeroth ↦ subst (λ k. IsKnown mir k b) (sym zeroth) (static b)
    ]
known_from_flow mir count seeds listed b a (goes_on m n before edge alive) =
    join n m b (known_from_edge mir m n edge) (known_from_flow mir count seeds listed b m before)

-- only declared regions flow
flows_below : (edges : List Edge) (count : ℕ) (seeds : List (List Bool)) → HaveEntries seeds (first count) → (b a : ℕ) → Flows edges seeds [] b a → b < count
flows_below edges count seeds listed b a (begins n h) = (from_first count (entry n b) ((listed n b).0 h)).0
flows_below edges count seeds listed b a (goes_on m n before edge alive) = flows_below edges count seeds listed b m before

-- what the shorter region outlives flows along what is known
handed_on : (mir : Mir) (count : ℕ) (seeds after : List (List Bool)) → HaveEntries seeds (first count) → IsFlow (known_edges mir) seeds [] after →
    (a b : ℕ) → IsKnown mir a b → (c : ℕ) → holds after b c ≡ true → holds after a c ≡ true
handed_on mir count seeds after listed flow a b (same k) c h = h
handed_on mir count seeds after listed flow a b (static k) c h =
    flow.begins 0 c ((listed 0 c).1 (static_first count c (flows_below (known_edges mir) count seeds listed c k (flow.least k c h))))
handed_on mir count seeds after listed flow a b (clause l s there) c h =
    let edge = in_map edge_of mir.clauses (record { longer = l; shorter = s }) there in
    flow.goes_on s l c h (Contains-append_left (map edge_of mir.clauses) (flat_map pair_edges (implied_pairs mir)) (record { from = s; to = l }) edge) refl
handed_on mir count seeds after listed flow a b (implied l s there) c h =
    let edge = in_flat_map pair_edges (implied_pairs mir) (outlives (Universal l) (Universal s)) (record { from = s; to = l }) there (Contains-head (record { from = s; to = l }) []) in
    flow.goes_on s l c h (Contains-append_right (map edge_of mir.clauses) (flat_map pair_edges (implied_pairs mir)) (record { from = s; to = l }) edge) refl
handed_on mir count seeds after listed flow a b (join l m s one two) c h =
    handed_on mir count seeds after listed flow l m one c (handed_on mir count seeds after listed flow m s two c h)

pub tells_known : (mir : Mir) (seeds after : List (List Bool)) → HaveEntries seeds (first mir.universals) → IsFlow (known_edges mir) seeds [] after → TellsKnown mir (holds after)
tells_known mir seeds after listed flow a b a_declared b_declared = (
  λ h. known_from_flow mir mir.universals seeds listed b a (flow.least a b h),
  λ k. handed_on mir mir.universals seeds after listed flow a b k b (flow.begins b b ((listed b b).1 (itself_first mir.universals b b_declared))),
)
