-- A region that is not in use at a point does not start with it.
use Rattle.std.proofs.Common.{◌≡◌, ℕ, suc, ◌+◌, ◌≤◌, ◌<◌, Bool, true, false, ◌&&◌, cond, ltb, Option, Some, None, List, [], ◌∷◌, length, inl, inr, refl, sym, ap, ◌∙◌, subst, arith}
use Rattle.std.specs.Prelude.{slice_get}
use Rattle.std.specs.List.{list_any, enumerate_from}
use Rattle.std.specs.Option.{option_map_or}
use Rattle.std.proofs.lemmas.Option.{slice_get_within}
use Rattle.std.proofs.lemmas.Bool.{and_parts, and_right, or_from, le-ltb, false_from_ne_true, both_ways, cases_eq, false≢true}
use Rattle.bc_syntax.specs.declared.syntax.Ty.{Ty}
use Rattle.bc_bodies.specs.Mir.{Mir}
use Rattle.bc_live.specs.Live.{IsLive}
use Rattle.bc_cons.specs.Starts.{mentions, universal_start, variable_start, starts_with}
use Rattle.bc_reasons.specs.Uses.{has_region, AreDeadBelow, IsUnused, TellsLive}

-- no local has the region and is live
none_starts : (universals region point : ℕ) (live : ℕ → ℕ → Bool) (n : ℕ) (locals : List Ty) →
    ((k : ℕ) (ty : Ty) → slice_get locals k ≡ Some ty → mentions universals region ty ≡ true → live (n + k) point ≡ true → ⊥) →
    list_any (λ (here : ℕ × Ty). mentions universals region here.1 && live here.0 point) (enumerate_from n locals) ≡ false
none_starts universals region point live n [] none = refl
none_starts universals region point live n (ty ∷ tys) none =
    let here : (mentions universals region ty && live n point) ≡ false = false_from_ne_true (mentions universals region ty && live n point) (λ h.
    let parts = and_parts (mentions universals region ty) (live n point) h in
    let number : n ≡ n + 0 = omega arith in
    none 0 ty refl parts.0 (subst (λ k. live k point ≡ true) number parts.1)) in
    or_from (mentions universals region ty && live n point) _ here
    (none_starts universals region point live (n + 1) tys (λ k t is has alive.
    let number : n + 1 + k ≡ n + suc k = omega arith in
    none (suc k) t is has (subst (λ m. live m point ≡ true) number alive)))

pub unused_starts : (mir : Mir) (region point : ℕ) → IsUnused mir region point → (live : ℕ → ℕ → Bool) → TellsLive mir live → starts_with mir live region point ≡ true → ⊥
unused_starts mir region point unused live tells starts =
    let none : variable_start mir.universals mir.locals live region point ≡ false =
    none_starts mir.universals region point live 0 mir.locals (λ k ty is has alive.
    let number : 0 + k ≡ k = omega arith in
    unused.dead k (rw is has) ((tells k point).0 (subst (λ m. live m point ≡ true) number alive))) in
    let variable : ltb region mir.universals ≡ false = le-ltb region mir.universals unused.variable in
    let inside : Bool = ltb point (length mir.steps) && variable_start mir.universals mir.locals live region point in
    both_ways inside (and_right (ltb point (length mir.steps)) (variable_start mir.universals mir.locals live region point) none)
    (sym (ap (λ b. cond b (universal_start mir.universals (length mir.steps) region point) inside) variable) ∙ starts)

-- ---- the walk over the locals

-- what has a region is a local
found_within : (universals region : ℕ) (found : Option Ty) → option_map_or (mentions universals region) found false ≡ true → (ty : Ty) × (found ≡ Some ty)
found_within universals region None h = absurd (false≢true h)
found_within universals region (Some ty) h = (ty, refl)

has_region-within : (mir : Mir) (region local : ℕ) → has_region mir region local ≡ true → local < length mir.locals
has_region-within mir region local h =
    let found = found_within mir.universals region (slice_get mir.locals local) h in
    slice_get_within mir.locals local found.0 found.1

-- no local before the first
pub none_below : (mir : Mir) (region point : ℕ) → AreDeadBelow mir region point 0
none_below mir region point = λ local below. absurd (omega (arith, below))

-- one more local that is dead or does not have the region
pub one_more_dead : (mir : Mir) (region point count : ℕ) → (has_region mir region count ≡ true → ¬ (IsLive mir count point)) → AreDeadBelow mir region point count → AreDeadBelow mir region point (count + 1)
one_more_dead mir region point count dead before = λ local below has. elim (cases_eq local count) [
  | inl same ↦ subst (λ l. ¬ (IsLive mir l point)) (sym same) (dead (subst (λ l. has_region mir region l ≡ true) same has))
  | inr other ↦ before local (omega (arith, below, other)) has
]

-- after the last local
pub all_dead : (mir : Mir) (region point count : ℕ) → mir.universals ≤ region → length mir.locals ≤ count → AreDeadBelow mir region point count → IsUnused mir region point
all_dead mir region point count variable past before = record {
  variable = variable;
  dead = λ local has. before local (let within = has_region-within mir region local has in omega (arith, within, past)) has;
}
