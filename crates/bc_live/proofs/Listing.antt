-- The entries are what the points use and define.
use Rattle.std.proofs.Common.{◌≡◌, ℕ, ◌+◌, ◌↔◌, List, [], Option, Some, None, refl, ap, subst, arith}
use Rattle.std.specs.Prelude.{slice_get, MatchOption}
use Rattle.std.specs.List.{Contains, flat_map, enumerate_from}
use Rattle.bc_flow.specs.declared.tables.Entry.{Entry}
use Rattle.bc_flow.specs.Flow.{Lists}
use Rattle.bc_flow.proofs.Membership.{Contains-nil, Contains-one, Contains-head, from_flat_map, in_flat_map, from_map, in_map, from_enumerate, in_enumerate}
use Rattle.bc_bodies.specs.declared.mir.Step.{Step}
use Rattle.bc_bodies.specs.declared.mir.Instruction.{Instruction}
use Rattle.bc_bodies.specs.Mir.{Mir}
use Rattle.bc_points.specs.Points.{Uses, Defines}
use Rattle.bc_points.specs.Accesses.{uses_of, defines_of}
use Rattle.bc_live.specs.Entries.{entries_at, listed, use_entries, definition_entries}

-- the locals that each point has, as entries
abbrev pub entries_by : (Instruction → List ℕ) → List Step → List Entry
entries_by g steps = flat_map (λ (here : ℕ × Step). entries_at here.0 (g here.1.instruction)) (enumerate_from 0 steps)

-- the point has the local
abbrev pub HasAt : (Instruction → List ℕ) → List Step → ℕ → ℕ → Type 0
HasAt g steps p l = (step : Step) × (slice_get steps p ≡ Some step) × Contains (g step.instruction) l

pub from_entries : (g : Instruction → List ℕ) (steps : List Step) (e : Entry) → Contains (entries_by g steps) e → HasAt g steps e.node e.fact
from_entries g steps e h =
    let a = from_flat_map (λ (here : ℕ × Step). entries_at here.0 (g here.1.instruction)) (enumerate_from 0 steps) e h in
    let b = from_enumerate 0 steps a.0 a.1 in
    let c = from_map (λ (local : ℕ). let x : Entry = record { node = a.0.0; fact = local } in x) (g a.0.1.instruction) e a.2 in
    let number : b.0 ≡ a.0.0 = omega (arith, b.1) in
    subst (λ (x : Entry). HasAt g steps x.node x.fact) c.2 (a.0.1, subst (λ k. slice_get steps k ≡ Some a.0.1) number b.2, c.1)

pub in_entries : (g : Instruction → List ℕ) (steps : List Step) (p l : ℕ) → HasAt g steps p l → Contains (entries_by g steps) (record { node = p; fact = l })
in_entries g steps p l (step, is, has) =
    let number : 0 + p ≡ p = omega arith in
    in_flat_map (λ (here : ℕ × Step). entries_at here.0 (g here.1.instruction)) (enumerate_from 0 steps) (p, step) (record { node = p; fact = l })
    (subst (λ k. Contains (enumerate_from 0 steps) (k, step)) number (in_enumerate 0 steps p step is))
    (in_map (λ (local : ℕ). let x : Entry = record { node = p; fact = local } in x) (g step.instruction) l has)

to_match : (P : Instruction → Type 0) (found : Option Step) (step : Step) → found ≡ Some step → P step.instruction → MatchOption found ⊥ (λ s. P s.instruction)
to_match P found step is holds = rw is holds

from_match : (P : Instruction → Type 0) (found : Option Step) → MatchOption found ⊥ (λ s. P s.instruction) → (step : Step) × (found ≡ Some step) × P step.instruction
from_match P None h = absurd h
from_match P (Some step) h = (step, refl, h)

pub use_is_listed : (mir : Mir) (p l : ℕ) → Lists (use_entries mir) p l ↔ Uses mir l p
use_is_listed mir p l = (
  λ h. let a = from_entries (uses_of mir) mir.steps (record { node = p; fact = l }) h in to_match (λ here. Contains (uses_of mir here) l) (slice_get mir.steps p) a.0 a.1 a.2,
  λ h. in_entries (uses_of mir) mir.steps p l (from_match (λ here. Contains (uses_of mir here) l) (slice_get mir.steps p) h),
)

from_listed : (o : Option ℕ) (l : ℕ) → Contains (listed o) l → o ≡ Some l
from_listed None l h = absurd (Contains-nil l h)
from_listed (Some k) l h = ap (λ i. Some i) (Contains-one k l h)

in_listed : (o : Option ℕ) (l : ℕ) → o ≡ Some l → Contains (listed o) l
in_listed o l is = rw is (Contains-head l [])

pub definition_is_listed : (mir : Mir) (p l : ℕ) → Lists (definition_entries mir) p l ↔ Defines mir l p
definition_is_listed mir p l = (
  λ h. let a = from_entries (λ here. listed (defines_of here)) mir.steps (record { node = p; fact = l }) h in to_match (λ here. defines_of here ≡ Some l) (slice_get mir.steps p) a.0 a.1 (from_listed (defines_of a.0.instruction) l a.2),
  λ h. let a = from_match (λ here. defines_of here ≡ Some l) (slice_get mir.steps p) h in in_entries (λ here. listed (defines_of here)) mir.steps p l (a.0, a.1, in_listed (defines_of a.0.instruction) l a.2),
)
