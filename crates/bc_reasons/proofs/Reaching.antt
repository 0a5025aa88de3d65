-- A path to a use is a chain, and a local is live exactly where there is one.
use Rattle.std.proofs.Common.{◌≡◌, ℕ, ◌<◌, ◌-◌, ◌↔◌, Bool, true, false, cond, ltb, not, Option, Some, None, List, [], ◌∷◌, ◌++◌, map, filter, refl, ap, ◌∙◌, subst, arith}
use Rattle.std.specs.Prelude.{slice_get, MatchOption}
use Rattle.std.specs.List.{All, Contains}
use Rattle.std.specs.Option.{option_map_or}
use Rattle.std.proofs.lemmas.Bool.{eqb-true, eq-eqb, false_from_ne_true, both_ways, false≢true}
use Rattle.std.proofs.lemmas.Option.{same_Some}
use Rattle.std.proofs.lemmas.List.Elements.{All-head, All-tail, All-map, All-filter}
use Rattle.bc_flow.specs.declared.graph.Edge.{Edge}
use Rattle.bc_flow.specs.Graph.{AreWithin, IsPath}
use Rattle.bc_flow.specs.Flow.{holds}
use Rattle.bc_flow.proofs.Membership.{from_map, in_map, from_filter, in_filter}
use Rattle.bc_syntax.specs.declared.syntax.Region.{Region}
use Rattle.bc_syntax.specs.declared.syntax.Region.TheVariants.{Universal, Variable}
use Rattle.bc_bodies.specs.declared.mir.Step.{Step}
use Rattle.bc_bodies.specs.Mir.{Mir, edges_of}
use Rattle.bc_points.specs.Accesses.{defines_of}
use Rattle.bc_points.specs.Points.{Uses, Defines}
use Rattle.bc_points.specs.Regions.{region_number, region_of_number}
use Rattle.bc_live.specs.Live.{IsLive}
use Rattle.bc_cons.specs.declared.facts.NumberedConstraint.{NumberedConstraint}
use Rattle.bc_cons.specs.Facts.{RegionFacts, MustOutlive, ArePairsWithin}
use Rattle.bc_solve.specs.Chains.{IsChain, IsFirstShortest, Explains}
use Rattle.bc_reasons.specs.Paths.{GoesOn, IsUsePath, IsFirstUsePath, is_local, defines, link_of, keeps, links_of}

-- ---- definitions

local_is : (local : ℕ) (other : Option ℕ) → is_local local other ≡ true → other ≡ Some local
local_is local None h = absurd (false≢true h)
local_is local (Some other) h = ap (λ l. Some l) (eqb-true other local h)

is_the_local : (local : ℕ) (other : Option ℕ) → other ≡ Some local → is_local local other ≡ true
is_the_local local other is = rw is (eq-eqb local local refl)

defined_in : (local : ℕ) (found : Option Step) → option_map_or (λ (step : Step). is_local local (defines_of step.instruction)) found false ≡ true →
    MatchOption found ⊥ (λ step. defines_of step.instruction ≡ Some local)
defined_in local None h = absurd (false≢true h)
defined_in local (Some step) h = local_is local (defines_of step.instruction) h

in_defined : (local : ℕ) (found : Option Step) → MatchOption found ⊥ (λ step. defines_of step.instruction ≡ Some local) →
    option_map_or (λ (step : Step). is_local local (defines_of step.instruction)) found false ≡ true
in_defined local None h = absurd h
in_defined local (Some step) h = is_the_local local (defines_of step.instruction) h

-- ---- edges

module _ (mir : Mir) (local : ℕ) where
  -- an edge is kept exactly if it does not leave a point that defines the local
  kept_undefined : (edge : Edge) → keeps mir local edge ≡ true → ¬ (Defines mir local edge.from)
  kept_undefined edge kept defined = both_ways (keeps mir local edge) (ap not (in_defined local (slice_get mir.steps edge.from) defined)) kept

  undefined_kept : (edge : Edge) → ¬ (Defines mir local edge.from) → keeps mir local edge ≡ true
  undefined_kept edge undefined = ap not (false_from_ne_true (defines mir local edge.from) (λ h. undefined (defined_in local (slice_get mir.steps edge.from) h)))

  -- the links are the edges along which a path goes on
  from_link : (a b : ℕ) → MustOutlive (links_of mir local) a b → GoesOn mir local a b
  from_link a b h =
      let edge = from_map link_of (filter (keeps mir local) (edges_of mir)) (record { longer = a; shorter = b }) h in
      let kept = from_filter (keeps mir local) (edges_of mir) edge.0 edge.1 in
      let from : edge.0.from ≡ a = ap (λ (c : NumberedConstraint). c.longer) edge.2 in
      let to : edge.0.to ≡ b = ap (λ (c : NumberedConstraint). c.shorter) edge.2 in
      let made : ℕ → ℕ → Edge = λ x y. record { from = x; to = y } in
      let same : edge.0 ≡ made a b = ap (λ x. made x edge.0.to) from ∙ ap (λ y. made a y) to in
      (subst (λ (e : Edge). Contains (edges_of mir) e) same kept.0, subst (λ n. ¬ (Defines mir local n)) from (kept_undefined edge.0 kept.1))

  to_link : (a b : ℕ) → GoesOn mir local a b → MustOutlive (links_of mir local) a b
  to_link a b h =
      let edge : Edge = record { from = a; to = b } in
      in_map link_of (filter (keeps mir local) (edges_of mir)) edge (in_filter (keeps mir local) (edges_of mir) edge h.0 (undefined_kept edge h.1))

  pub links_within : (points : ℕ) → AreWithin (edges_of mir) points → ArePairsWithin points (links_of mir local)
  links_within points within =
      All-map (λ (c : NumberedConstraint). (c.longer < points) × (c.shorter < points)) link_of (filter (keeps mir local) (edges_of mir))
      (All-filter (keeps mir local) (λ (edge : Edge). (edge.from < points) × (edge.to < points)) (edges_of mir) within)

  -- ---- chains

  module _ (starts : ℕ → ℕ → Bool) (used : (p l : ℕ) → (starts p l ≡ true) ↔ Uses mir l p) where
    from_chain : (point : ℕ) (path : List ℕ) → IsChain starts (links_of mir local) point local path → IsUsePath mir local point path
    from_chain point [] h = h
    from_chain point (a ∷ []) h = (h.0, (used a local).0 h.1)
    from_chain point (a ∷ (b ∷ rest)) h = (h.0, from_link a b h.1, from_chain b (b ∷ rest) h.2)

    to_chain : (point : ℕ) (path : List ℕ) → IsUsePath mir local point path → IsChain starts (links_of mir local) point local path
    to_chain point [] h = h
    to_chain point (a ∷ []) h = (h.0, (used a local).1 h.1)
    to_chain point (a ∷ (b ∷ rest)) h = (h.0, to_link a b h.1, to_chain b (b ∷ rest) h.2)

    first_path : (point : ℕ) (path : List ℕ) → IsFirstShortest starts (links_of mir local) point local path → IsFirstUsePath mir local point path
    first_path point path is = record {
      is_path = from_chain point path is.is_chain;
      first = λ other h. is.first other (to_chain point other h);
    }

  -- ---- liveness

  -- a path whose earlier points do not define the local
  path_of : (point last : ℕ) (earlier : List ℕ) → IsPath (edges_of mir) (earlier ++ last ∷ []) → slice_get (earlier ++ last ∷ []) 0 ≡ Some point → Uses mir local last →
      All (λ p. ¬ (Defines mir local p)) earlier → IsUsePath mir local point (earlier ++ last ∷ [])
  path_of point last [] path from uses undefined = (same_Some last point from, uses)
  path_of point last (a ∷ []) path from uses undefined =
      (same_Some a point from, (path.0, All-head (λ p. ¬ (Defines mir local p)) a [] undefined), (refl, uses))
  path_of point last (a ∷ (b ∷ rest)) path from uses undefined = (
    same_Some a point from,
    (path.0, All-head (λ p. ¬ (Defines mir local p)) a (b ∷ rest) undefined),
    path_of b last (b ∷ rest) path.1 refl uses (All-tail (λ p. ¬ (Defines mir local p)) a (b ∷ rest) undefined),
  )

  pub live_path : (point : ℕ) → IsLive mir local point → (path : List ℕ) × IsUsePath mir local point path
  live_path point live = (live.earlier ++ live.last ∷ [], path_of point live.last live.earlier live.is_path live.from_point live.used live.undefined)

-- ---- numbers

number_of_region : (n : ℕ) → region_number 0 (region_of_number 0 n) ≡ n
number_of_region n = elim (ltb n 0) as (λ b. region_number 0 (cond b (Universal n) (Variable (n - 0))) ≡ n) [
  | true ↦ refl
  | false ↦ omega arith
]

numbers_of_regions : (numbers : List ℕ) → map (region_number 0) (map (region_of_number 0) numbers) ≡ numbers
numbers_of_regions [] = refl
numbers_of_regions (n ∷ numbers) = ap (λ k. k ∷ map (region_number 0) (map (region_of_number 0) numbers)) (number_of_region n) ∙ ap (λ l. n ∷ l) (numbers_of_regions numbers)

-- ---- answers

-- what the answer about a chain says of a path, over facts that tell the uses and the edges
pub none_live : (mir : Mir) (local point : ℕ) (facts : RegionFacts) → ((p l : ℕ) → (holds facts.starts p l ≡ true) ↔ Uses mir l p) → facts.pairs ≡ links_of mir local →
    ((chain : List ℕ) → ¬ (IsChain (holds facts.starts) facts.pairs point local chain)) → ¬ (IsLive mir local point)
none_live mir local point facts used links none live =
    let path = live_path mir local point live in
    none path.0 (rw links (to_chain mir local (holds facts.starts) used point path.0 path.1))

pub first_of_chain : (mir : Mir) (local point : ℕ) (facts : RegionFacts) → facts.universals ≡ 0 → ((p l : ℕ) → (holds facts.starts p l ≡ true) ↔ Uses mir l p) → facts.pairs ≡ links_of mir local →
    (chain : List Region) (path : List ℕ) → path ≡ map (region_number 0) chain → Explains facts point local chain → IsFirstUsePath mir local point path
first_of_chain mir local point facts none used links chain path numbered (numbers, is, explained) =
    let same : path ≡ numbers = numbered ∙ ap (map (region_number 0)) (explained ∙ ap (λ u. map (region_of_number u) numbers) none) ∙ numbers_of_regions numbers in
    rw same (first_path mir local (holds facts.starts) used point numbers (subst (λ pairs. IsFirstShortest (holds facts.starts) pairs point local numbers) links is))
