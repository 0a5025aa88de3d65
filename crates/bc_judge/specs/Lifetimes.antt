-- Which universal region is known to outlive which, and which failures there are.
use Rattle.std.specs.Prelude.{◌≡◌, ℕ, ◌+◌, ◌<◌, ◌↔◌, Bool, true, false, ◌&&◌, not, if◌then◌else◌, List, [], ◌∷◌, length, filter}
use Rattle.std.specs.List.{flat_map, Contains, range_with_len}
use Rattle.bc_syntax.specs.declared.syntax.Outlives.{Outlives}
use Rattle.bc_syntax.specs.declared.syntax.Region.TheVariants.{Universal}
use Rattle.bc_syntax.specs.declared.syntax.UnitKind.{UnitKind}
use Rattle.bc_syntax.specs.declared.syntax.UnitKind.TheVariants.{Function, Closure}
use Rattle.bc_cons.specs.Requirements.{may_go_up}
use Rattle.bc_bodies.specs.Mir.{Mir}
use Rattle.bc_mir.specs.WellFormed.{implied_pairs}
use Rattle.bc_types.specs.Subtype.{outlives}

-- a is known to outlive b: the least relation that is reflexive and transitive, in which 'static outlives all, and that has the `where`
-- clauses and what the types of the captures and the parameters demand to be well-formed (RFC 2094, "Named lifetimes"; RFC 1214, "implied
-- bounds")
pub data IsKnown (mir : Mir) : ℕ → ℕ → Type 0 where
  same : (a : ℕ) → IsKnown mir a a
  static : (b : ℕ) → IsKnown mir 0 b
  clause : (a b : ℕ) → Contains mir.clauses (record { longer = a; shorter = b }) → IsKnown mir a b
  implied : (a b : ℕ) → Contains (implied_pairs mir) (outlives (Universal a) (Universal b)) → IsKnown mir a b
  join : (a b c : ℕ) → IsKnown mir a b → IsKnown mir b c → IsKnown mir a c

-- a test is true of two universal regions of a body exactly if the first is known to outlive the second
abbrev pub TellsKnown : Mir → (ℕ → ℕ → Bool) → Type 0
TellsKnown mir known =
    (a b : ℕ) → a < mir.universals → b < mir.universals → (known a b ≡ true) ↔ IsKnown mir a b

-- a test of whether an element is in the value of a region, by the region's number and the element's
abbrev pub ValueTest : Type 0
ValueTest = ℕ → ℕ → Bool

-- the number of the element end(u) of a universal region; the points come before all ends
abbrev pub end_of : Mir → ℕ → ℕ
end_of mir u = length mir.steps + u

-- a failure: end(b) is in the value of a, and a is not known to outlive b
abbrev pub failure_of : Mir → ValueTest → (ℕ → ℕ → Bool) → ℕ → ℕ → List Outlives
failure_of mir value known a b =
    if value a (end_of mir b) && not (known a b) then record { longer = a; shorter = b } ∷ [] else []

-- the failures in which this region is the longer one, by the shorter
abbrev pub failures_from : Mir → ValueTest → (ℕ → ℕ → Bool) → ℕ → List Outlives
failures_from mir value known a = flat_map (failure_of mir value known a) (range_with_len 0 mir.universals)

-- the failures of a body, by the longer region and then by the shorter (RFC 2094, "Named lifetimes")
abbrev pub failures_of : Mir → ValueTest → (ℕ → ℕ → Bool) → List Outlives
failures_of mir value known = flat_map (failures_from mir value known) (range_with_len 0 mir.universals)

-- in a closure, a failure between external regions and `'static` alone is a requirement; in a function, none is
abbrev pub is_required_in : UnitKind → List ℕ → Outlives → Bool
is_required_in Function externals failure = false
is_required_in Closure externals failure = may_go_up externals failure

-- the failure is a requirement: the body's creator has to meet it
abbrev pub is_required : Mir → Outlives → Bool
is_required mir failure = is_required_in mir.kind mir.externals failure

-- the failure is an error, since it is no requirement
abbrev pub is_lifetime_error : Mir → Outlives → Bool
is_lifetime_error mir failure = not (is_required mir failure)

-- the lifetime errors of a body, in the order of the failures: the failures that are not requirements
abbrev pub lifetimes_of : Mir → ValueTest → (ℕ → ℕ → Bool) → List Outlives
lifetimes_of mir value known = filter (is_lifetime_error mir) (failures_of mir value known)

-- what a body requires of its creator, in the order of the failures (rustc-dev-guide, "Propagating closure constraints")
abbrev pub requirements_of : Mir → ValueTest → (ℕ → ℕ → Bool) → List Outlives
requirements_of mir value known = filter (is_required mir) (failures_of mir value known)
