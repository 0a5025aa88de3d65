-- Rows to which elements were added.
use Rattle.std.proofs.Common.{◌≡◌, ℕ, suc, ◌-◌, ◌≤◌, ◌==◌, Bool, true, false, not, ◌||◌, ◌&&◌, nat_lt, if◌then◌else◌, ◌+◌, List, [], ◌∷◌, length, get_or, take, drop, refl, ap, subst, ◌∙◌, arith}
use Rattle.std.specs.List.{list_any, enumerate_from}
use Rattle.std.proofs.lemmas.List.{take_all}
use Rattle.std.proofs.Math.Bool.{or-false, or_assoc}
use Rattle.bc_syntax.specs.declared.syntax.Ty.{Ty}
use Rattle.bc_flow.specs.Flow.{row, holds}
use Rattle.bc_cons.specs.Starts.{AreGrown, mentions, goes_to_variable}

-- elements are added twice
pub AreGrown-then : {old mid new : List (List Bool)} (first second both : ℕ → ℕ → Bool) → ((r e : ℕ) → (first r e || second r e) ≡ both r e) → AreGrown old mid first → AreGrown mid new second → AreGrown old new both
AreGrown-then {old} first second both joins a b = record {
  rows = b.rows ∙ a.rows;
  sizes = λ r. b.sizes r ∙ a.sizes r;
  members = λ r e. b.members r e ∙ (ap (λ t. t || second r e) (a.members r e) ∙ (or_assoc (holds old r e) (first r e) (second r e) ∙ ap (λ t. holds old r e || t) (joins r e)));
}

-- ---- what is added together

pub both_go : (x y g : Bool) → ((x && g) || (y && g)) ≡ ((x || y) && g)
both_go true true true = refl
both_go true true false = refl
both_go true false true = refl
both_go true false false = refl
both_go false y g = refl

pub starts_go : (universal start variable : Bool) → ((universal && start) || (not universal && variable)) ≡ (if universal then start else variable)
starts_go true start variable = or-false start
starts_go false start variable = refl

-- elements are added for the first of a list, and then for the others
pub grown-each : {A : Type 0} {old mid new : List (List Bool)} (number : A → ℕ) (goes : ℕ → ℕ → Bool) (xs : List A) (d : A) → 1 ≤ length xs → AreGrown old mid (λ r e. number (get_or xs 0 d) == r && goes r e)
    → AreGrown mid new (λ r e. list_any (λ x. number x == r) (take (length xs - 1) (drop 1 xs)) && goes r e) → AreGrown old new (λ r e. list_any (λ x. number x == r) xs && goes r e)
grown-each number goes [] d some first others = absurd (omega (arith, some))
grown-each number goes (x ∷ xs) d some first others =
    AreGrown-then (λ r e. number x == r && goes r e) (λ r e. list_any (λ y. number y == r) xs && goes r e) (λ r e. list_any (λ y. number y == r) (x ∷ xs) && goes r e) (λ r e. both_go (number x == r) (list_any (λ y. number y == r) xs) (goes r e)) first
    (rw (take_all (suc (length xs) - 1) xs (omega arith)) at others)

locals_go : (mentioned variable point live later : Bool) → ((mentioned && (variable && (point && live))) || (variable && (point && later))) ≡ (variable && (point && ((mentioned && live) || later)))
locals_go mentioned false point live later = by mentioned
  where
    by : (b : Bool) → ((b && false) || false) ≡ false
    by true = refl
    by false = refl
locals_go true true true live later = refl
locals_go true true false live later = refl
locals_go false true point live later = refl

-- what is added for the locals from a number on
abbrev locals_added : ℕ → ℕ → List (List Bool) → ℕ → List Ty → ℕ → ℕ → Bool
locals_added universals points live local tys r e =
    not (nat_lt r universals) && (nat_lt e points && list_any (λ (here : ℕ × Ty). mentions universals r here.1 && holds live here.0 e) (enumerate_from local tys))

-- elements are added for the first of the locals, and then for the others
pub grown-locals : {old mid new : List (List Bool)} (universals points : ℕ) (live : List (List Bool)) (local : ℕ) (tys : List Ty) (ty d : Ty) → 1 ≤ length tys → ty ≡ get_or tys 0 d
    → AreGrown old mid (λ r e. mentions universals r ty && goes_to_variable universals points (row live local) r e) → AreGrown mid new (locals_added universals points live (local + 1) (take (length tys - 1) (drop 1 tys)))
    → AreGrown old new (locals_added universals points live local tys)
grown-locals universals points live local [] ty d some is first others = absurd (omega (arith, some))
grown-locals {old} {mid} universals points live local (t ∷ tys) ty d some is first others =
    let goes = goes_to_variable universals points (row live local) in
    AreGrown-then (λ r e. mentions universals r t && goes r e) (locals_added universals points live (local + 1) tys) (locals_added universals points live local (t ∷ tys))
    (λ r e. locals_go (mentions universals r t) (not (nat_lt r universals)) (nat_lt e points) (holds live local e) (list_any (λ (here : ℕ × Ty). mentions universals r here.1 && holds live here.0 e) (enumerate_from (local + 1) tys)))
    (subst (λ (t : Ty). AreGrown old mid (λ r e. mentions universals r t && goes r e)) is first) (rw (take_all (suc (length tys) - 1) tys (omega arith)) at others)
