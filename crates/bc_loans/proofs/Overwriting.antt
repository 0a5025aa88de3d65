-- The loans whose paths have a place as a prefix: by the local, and then by one projection after another.
use Rattle.std.proofs.Common.{◌≡◌, ℕ, ◌+◌, ◌<◌, ◌≤◌, inl, inr, Bool, true, false, cond, ◌&&◌, ◌==◌, List, [], ◌∷◌, ◌++◌, length, take, get_or, Option, Some, None, is_some, refl, sym, ap, ◌∙◌, subst, arith}
use Rattle.std.specs.Prelude.{slice_get}
use Rattle.std.specs.Option.{option_map_or}
use Rattle.std.proofs.lemmas.Bool.{cases_lt, both_ways}
use Rattle.std.proofs.lemmas.List.{get_or_past, take_more, take_all, length-take-le}
use Rattle.bc_flow.specs.BitSet.{has}
use Rattle.bc_flow.specs.Flow.{holds}
use Rattle.bc_syntax.specs.declared.syntax.Place.{Place}
use Rattle.bc_syntax.specs.declared.syntax.Projection.{Projection}
use Rattle.bc_points.specs.declared.loan.Loan.{Loan}
use Rattle.bc_bodies.specs.declared.mir.Step.{Step}
use Rattle.bc_bodies.specs.declared.mir.Instruction.{Instruction}
use Rattle.bc_points.specs.Accesses.{overwritten}
use Rattle.bc_points.specs.Prefixes.{is_prefix, rest_after, same_projection}
use Rattle.bc_loans.specs.Overwrites.{begins_with, projects, has_prefix, is_overwritten, is_overwritten_at}

-- a member is a number below the size
pub member_within : (set : List Bool) (i : ℕ) → has set i ≡ true → i < length set
member_within set i there = elim (cases_lt i (length set)) [
  | inl within ↦ within
  | inr past ↦ absurd (both_ways (has set i) (get_or_past set i false past) there)
]

-- ---- prefixes and locals

local_first : (b : Bool) (rest : Option (List Projection)) → is_some (cond b rest None) ≡ (b && is_some (cond b rest None))
local_first true rest = refl
local_first false rest = refl

-- a path begins with the local of its prefixes
prefix_begins : (loans : List (ℕ × Loan)) (place : Place) (found : Option (ℕ × Loan)) →
    option_map_or (λ (made : ℕ × Loan). is_prefix place made.1.path) found false
    ≡ (option_map_or (λ (made : ℕ × Loan). place.local == made.1.path.local) found false && option_map_or (λ (made : ℕ × Loan). is_prefix place made.1.path) found false)
prefix_begins loans place None = refl
prefix_begins loans place (Some made) = local_first (place.local == made.1.path.local) (rest_after place.projections made.1.path.projections)

pub only_of_local : (loans : List (ℕ × Loan)) (place : Place) (l : ℕ) → has_prefix loans place l ≡ (begins_with loans place.local l && has_prefix loans place l)
only_of_local loans place l = prefix_begins loans place (slice_get loans l)

whole : (b : Bool) (rest : List Projection) → is_some (cond b (Some rest) None) ≡ b
whole true rest = refl
whole false rest = refl

-- a local alone is a prefix of each path that begins with it
whole_found : (place : Place) (found : Option (ℕ × Loan)) → place.projections ≡ [] →
    option_map_or (λ (made : ℕ × Loan). is_prefix place made.1.path) found false ≡ option_map_or (λ (made : ℕ × Loan). place.local == made.1.path.local) found false
whole_found place None alone = refl
whole_found place (Some made) alone = rw alone (whole (place.local == made.1.path.local) made.1.path.projections)

pub whole_local : (loans : List (ℕ × Loan)) (place : Place) (l : ℕ) → place.projections ≡ [] → has_prefix loans place l ≡ begins_with loans place.local l
whole_local loans place l alone = whole_found place (slice_get loans l) alone

-- no path begins with a local that has no row
pub no_row : (loans : List (ℕ × Loan)) (by_local : List (List Bool)) (place : Place) (local : ℕ) → local ≡ place.local → length by_local ≤ local → ((k l : ℕ) → holds by_local k l ≡ begins_with loans k l) →
    (l : ℕ) → has_prefix loans place l ≡ false
no_row loans by_local place local at past are l =
    let none : begins_with loans place.local l ≡ false = sym (are place.local l) ∙ ap (λ s. has s l) (get_or_past by_local place.local [] (omega (arith, past, at))) in
    only_of_local loans place l ∙ ap (λ t. t && has_prefix loans place l) none

-- ---- one projection more

is_cond : {A : Type 0} (b : Bool) (rest : Option A) → is_some (cond b rest None) ≡ (b && is_some rest)
is_cond true rest = refl
is_cond false rest = refl

-- a beginning that is longer by one projection
and_one : (b : Bool) → (b && true) ≡ b
and_one true = refl
and_one false = refl

cond_longer : (b there : Bool) (more less : Option (List Projection)) → is_some more ≡ (is_some less && there) → is_some (cond b more None) ≡ (is_some (cond b less None) && there)
cond_longer true there more less is = is
cond_longer false there more less is = refl

longer : (beginning : List Projection) (p : Projection) (projections : List Projection) →
    is_some (rest_after (beginning ++ p ∷ []) projections) ≡ (is_some (rest_after beginning projections) && option_map_or (same_projection p) (slice_get projections (length beginning)) false)
longer [] p [] = refl
longer [] p (q ∷ projections) = is_cond (same_projection p q) (Some projections) ∙ and_one (same_projection p q)
longer (first ∷ beginning) p [] = refl
longer (first ∷ beginning) p (q ∷ projections) =
    cond_longer (same_projection first q) (option_map_or (same_projection p) (slice_get projections (length beginning)) false)
    (rest_after (beginning ++ p ∷ []) projections) (rest_after beginning projections) (longer beginning p projections)

longer_place : (local : ℕ) (beginning : List Projection) (p : Projection) (path : Place) →
    is_prefix (record { local = local; projections = beginning ++ p ∷ [] }) path
    ≡ (is_prefix (record { local = local; projections = beginning }) path && option_map_or (same_projection p) (slice_get path.projections (length beginning)) false)
longer_place local beginning p path =
    cond_longer (local == path.local) (option_map_or (same_projection p) (slice_get path.projections (length beginning)) false)
    (rest_after (beginning ++ p ∷ []) path.projections) (rest_after beginning path.projections) (longer beginning p path.projections)

longer_found : (local : ℕ) (beginning : List Projection) (p : Projection) (found : Option (ℕ × Loan)) →
    option_map_or (λ (made : ℕ × Loan). is_prefix (record { local = local; projections = beginning ++ p ∷ [] }) made.1.path) found false
    ≡ (option_map_or (λ (made : ℕ × Loan). is_prefix (record { local = local; projections = beginning }) made.1.path) found false
    && option_map_or (λ (made : ℕ × Loan). option_map_or (same_projection p) (slice_get made.1.path.projections (length beginning)) false) found false)
longer_found local beginning p None = refl
longer_found local beginning p (Some made) = longer_place local beginning p made.1.path

-- a place with the first projections of another
abbrev pub cut : Place → ℕ → Place
cut place depth = record { local = place.local; projections = take depth place.projections }

-- the loans whose paths have a prefix with one more of its projections
cut_more : (loans : List (ℕ × Loan)) (place : Place) (depth : ℕ) (p : Projection) → depth < length place.projections → (l : ℕ) →
    has_prefix loans (cut place (depth + 1)) l ≡ (has_prefix loans (cut place depth) l && projects loans depth (get_or place.projections depth p) l)
cut_more loans place depth p within l =
    let next : Projection = get_or place.projections depth p in
    let size : length (take depth place.projections) ≡ depth = length-take-le depth place.projections (omega (arith, within)) in
    ap (λ (some : List Projection). has_prefix loans (record { local = place.local; projections = some }) l) (take_more place.projections depth p within)
    ∙ longer_found place.local (take depth place.projections) next (slice_get loans l)
    ∙ ap (λ (k : ℕ). has_prefix loans (cut place depth) l && projects loans k next l) size

-- of the loans whose paths have the first projections, those that have one more
pub cut_step : (loans : List (ℕ × Loan)) (place : Place) (depth : ℕ) (projections : List Projection) (p : Projection) (l : ℕ) (old new more : Bool) → projections ≡ place.projections → depth < length projections →
    old ≡ has_prefix loans (cut place depth) l → more ≡ projects loans depth (get_or projections depth p) l → new ≡ (old && more) → new ≡ has_prefix loans (cut place (depth + 1)) l
cut_step loans place depth projections p l old new more same within were projecting both =
    both
    ∙ ap (λ (b : Bool). b && more) were
    ∙ ap (λ (b : Bool). has_prefix loans (cut place depth) l && b) projecting
    ∙ ap (λ (some : List Projection). has_prefix loans (cut place depth) l && projects loans depth (get_or some depth p) l) same
    ∙ sym (cut_more loans place depth p (omega (arith, within, ap length same)) l)

-- the local alone
pub cut_none : (loans : List (ℕ × Loan)) (place : Place) (l : ℕ) → has_prefix loans (cut place 0) l ≡ begins_with loans place.local l
cut_none loans place l = whole_local loans (cut place 0) l refl

pub cut_all : (loans : List (ℕ × Loan)) (place : Place) (depth : ℕ) (l : ℕ) → length place.projections ≤ depth → has_prefix loans (cut place depth) l ≡ has_prefix loans place l
cut_all loans place depth l all = ap (λ (some : List Projection). has_prefix loans (record { local = place.local; projections = some }) l) (take_all depth place.projections all)

-- ---- all points

pub at_point : (loans : List (ℕ × Loan)) (steps : List Step) (p : ℕ) (step : Step) → slice_get steps p ≡ Some step → (l : ℕ) → is_overwritten loans step.instruction l ≡ is_overwritten_at loans steps p l
at_point loans steps p step is l = rw is refl

-- ---- what an instruction overwrites

pub place_overwritten : (loans : List (ℕ × Loan)) (here : Instruction) (place : Place) → Some place ≡ overwritten here → (l : ℕ) → has_prefix loans place l ≡ is_overwritten loans here l
place_overwritten loans here place is l =
    subst (λ (o : Option Place). has_prefix loans place l ≡ option_map_or (λ (made : ℕ × Loan). option_map_or (λ (p : Place). is_prefix p made.1.path) o false) (slice_get loans l) false) is refl

never : (found : Option (ℕ × Loan)) → option_map_or (λ (made : ℕ × Loan). false) found false ≡ false
never None = refl
never (Some made) = refl

pub nothing_overwritten : (loans : List (ℕ × Loan)) (here : Instruction) → None ≡ overwritten here → (l : ℕ) → is_overwritten loans here l ≡ false
nothing_overwritten loans here is l =
    subst (λ (o : Option Place). option_map_or (λ (made : ℕ × Loan). option_map_or (λ (p : Place). is_prefix p made.1.path) o false) (slice_get loans l) false ≡ false) is (never (slice_get loans l))
