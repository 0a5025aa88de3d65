-- Loans by their index in the list of loans.
use Rattle.std.proofs.Common.{◌≡◌, ℕ, ◌+◌, ◌<◌, ◌≤◌, ◌↔◌, Bool, true, false, ◌==◌, inl, inr, List, [], ◌∷◌, ◌++◌, Option, Some, None, length, get_or, drop, refl, sym, ap, ◌∙◌, append_assoc, append-nil, subst, arith}
use Rattle.std.specs.Prelude.{slice_get}
use Rattle.std.specs.List.{All, Contains, flat_map, enumerate_from}
use Rattle.std.specs.Option.{option_map_or}
use Rattle.std.proofs.lemmas.Bool.{cases_eq, eq-eqb, eqb-true, ne_eqb, false_from_ne_true, false≢true}
use Rattle.std.proofs.lemmas.Option.{slice_get_within, get_or_from_slice_get}
use Rattle.std.proofs.Math.Seq.{get_or-append_seam}
use Rattle.std.proofs.lemmas.List.{at_drop_more, at_drop_all, get_or_append_left}
use Rattle.std.proofs.lemmas.List.Elements.{Contains-get_or, All-contains}
use Rattle.bc_flow.specs.declared.tables.Entry.{Entry}
use Rattle.bc_flow.specs.Flow.{holds, Lists, HaveEntries, AreEntriesWithin}
use Rattle.bc_flow.proofs.Membership.{Contains-nil, Contains-one, Contains-head, from_flat_map, in_flat_map, from_enumerate, in_enumerate}
use Rattle.bc_points.specs.declared.loan.Loan.{Loan}
use Rattle.bc_bodies.specs.Mir.{Mir}
use Rattle.bc_points.specs.Points.{loan_of}
use Rattle.bc_points.specs.Prefixes.{same_projection}
use Rattle.bc_syntax.specs.declared.syntax.Projection.{Projection}
use Rattle.bc_syntax.specs.declared.syntax.Projection.TheVariants.{Deref, Field}
use Rattle.bc_loans.specs.Entries.{local_at, local_entries, projection_number, entry_at, listed, projection_at, projection_entries}
use Rattle.bc_loans.specs.Loans.{with_point, loans_of_step, loans_of}
use Rattle.bc_loans.specs.Overwrites.{begins_with, AreProjecting}

abbrev Made : Type 0
Made = ℕ × Loan

-- what is found twice at one place is the same
pub same_found : {A : Type 0} (o : Option A) (a b : A) → o ≡ Some a → o ≡ Some b → a ≡ b
same_found o a b p q = let both : Some a ≡ Some b = sym p ∙ q in cc

pub from_with_point : (p : ℕ) (o : Option Loan) (made : ℕ × Loan) → Contains (with_point p o) made → made.0 ≡ p
from_with_point p None made h = absurd (Contains-nil made h)
from_with_point p (Some loan) made h = ap (λ (m : ℕ × Loan). m.0) (sym (Contains-one (p, loan) made h))

-- each loan is made at one of the points
pub makers_within : (mir : Mir) → All (λ (made : ℕ × Loan). made.0 < length mir.steps) (loans_of mir)
makers_within mir k d h =
    let made = get_or (loans_of mir) k d in
    let a = from_flat_map loans_of_step (enumerate_from 0 mir.steps) made (Contains-get_or (loans_of mir) k d h) in
    let b = from_enumerate 0 mir.steps a.0 a.1 in
    let c = from_with_point a.0.0 (loan_of a.0.1.instruction) made a.2 in
    let e = slice_get_within mir.steps b.0 a.0.1 b.2 in
    omega (arith, b.1, c, e)

-- ---- locals

from_locals : (loans : List Made) (e : Entry) → Contains (local_entries loans) e → (made : Made) × (slice_get loans e.fact ≡ Some made) × (made.1.path.local ≡ e.node)
from_locals loans e h =
    let a = from_flat_map local_at (enumerate_from 0 loans) e h in
    let b = from_enumerate 0 loans a.0 a.1 in
    let number : b.0 ≡ a.0.0 = omega (arith, b.1) in
    let is = Contains-one (let x : Entry = record { node = a.0.1.1.path.local; fact = a.0.0 } in x) e a.2 in
    subst (λ (x : Entry). (made : Made) × (slice_get loans x.fact ≡ Some made) × (made.1.path.local ≡ x.node)) is (a.0.1, subst (λ k. slice_get loans k ≡ Some a.0.1) number b.2, refl)

in_locals : (loans : List Made) (l : ℕ) (made : Made) → slice_get loans l ≡ Some made → Contains (local_entries loans) (record { node = made.1.path.local; fact = l })
in_locals loans l made is =
    let number : 0 + l ≡ l = omega arith in
    in_flat_map local_at (enumerate_from 0 loans) (l, made) (record { node = made.1.path.local; fact = l })
    (subst (λ k. Contains (enumerate_from 0 loans) (k, made)) number (in_enumerate 0 loans l made is))
    (Contains-head (record { node = made.1.path.local; fact = l }) [])

-- a set has the loans that begin with a local if it has those that are listed there
listed_begins : (loans : List Made) (k l : ℕ) (found : Option Made) → slice_get loans l ≡ found → (b : Bool) → (b ≡ true) ↔ Lists (local_entries loans) k l →
    b ≡ option_map_or (λ (made : Made). k == made.1.path.local) found false
listed_begins loans k l None is b listed = false_from_ne_true b (λ h. let a = from_locals loans (record { node = k; fact = l }) (listed.0 h) in let bad : None ≡ Some a.0 = sym is ∙ a.1 in absurd cc)
listed_begins loans k l (Some made) is b listed = elim (cases_eq k made.1.path.local) [
  | inl same ↦ listed.1 (subst (λ q. Lists (local_entries loans) q l) (sym same) (in_locals loans l made is)) ∙ sym (eq-eqb k made.1.path.local same)
  | inr apart ↦
      false_from_ne_true b (λ h. let a = from_locals loans (record { node = k; fact = l }) (listed.0 h) in apart (sym (ap (λ (m : Made). m.1.path.local) (same_found (slice_get loans l) made a.0 is a.1) ∙ a.2)))
      ∙ sym (ne_eqb k made.1.path.local apart)
]

pub rows_begin : (loans : List Made) (rows : List (List Bool)) → HaveEntries rows (local_entries loans) → (k l : ℕ) → holds rows k l ≡ begins_with loans k l
rows_begin loans rows entries k l = listed_begins loans k l (slice_get loans l) refl (holds rows k l) (entries k l)

pub locals_within : (loans : List Made) (bound : ℕ) → All (λ (made : Made). made.1.path.local < bound) loans → AreEntriesWithin (local_entries loans) bound (length loans)
locals_within loans bound below k d h =
    let t = from_locals loans (get_or (local_entries loans) k d) (Contains-get_or (local_entries loans) k d h) in
    let within = slice_get_within loans _ t.0 t.1 in
    let small = All-contains (λ (made : Made). made.1.path.local < bound) loans t.0 below
    (subst (λ (m : Made). Contains loans m) (get_or_from_slice_get loans _ t.0 t.0 t.1) (Contains-get_or loans _ t.0 within)) in
    (rw (← t.2) small, within)

-- ---- projections

same_truth : (a b : Bool) → (a ≡ true → b ≡ true) → (b ≡ true → a ≡ true) → a ≡ b
same_truth true b to from = sym (to refl)
same_truth false true to from = from refl
same_truth false false to from = refl

-- projections with one number are the same
same_number : (p q : Projection) → projection_number p ≡ projection_number q → same_projection p q ≡ true
same_number Deref Deref is = refl
same_number Deref (Field k) is = absurd (omega (arith, is))
same_number (Field j) Deref is = absurd (omega (arith, is))
same_number (Field j) (Field k) is = eq-eqb j k (omega (arith, is))

one_number : (p q : Projection) → same_projection p q ≡ true → projection_number p ≡ projection_number q
one_number Deref Deref is = refl
one_number Deref (Field k) is = absurd (false≢true is)
one_number (Field j) Deref is = absurd (false≢true is)
one_number (Field j) (Field k) is = ap (λ n. n + 1) (eqb-true j k is)

few_projections : (p : Projection) (o : Option Projection) (loan : ℕ) (e : Entry) → Contains (listed (entry_at loan o)) e → (q : Projection) × (o ≡ Some q) × (loan ≡ e.fact) × (projection_number q ≡ e.node)
few_projections p None loan e h = absurd (Contains-nil e h)
few_projections p (Some q) loan e h =
    let is = Contains-one (let x : Entry = record { node = projection_number q; fact = loan } in x) e h in
    (q, refl, ap (λ (x : Entry). x.fact) is, ap (λ (x : Entry). x.node) is)

from_projections : (depth : ℕ) (loans : List Made) (e : Entry) → Contains (projection_entries depth loans) e →
    (made : Made) × (slice_get loans e.fact ≡ Some made) × (q : Projection) × (slice_get made.1.path.projections depth ≡ Some q) × (projection_number q ≡ e.node)
from_projections depth loans e h =
    let a = from_flat_map (projection_at depth) (enumerate_from 0 loans) e h in
    let b = from_enumerate 0 loans a.0 a.1 in
    let c = few_projections Deref (slice_get a.0.1.1.path.projections depth) a.0.0 e a.2 in
    let number : b.0 ≡ e.fact = omega (arith, b.1, c.2) in
    (a.0.1, subst (λ k. slice_get loans k ≡ Some a.0.1) number b.2, c.0, c.1, c.3)

in_projections : (depth : ℕ) (loans : List Made) (l : ℕ) (made : Made) (q : Projection) → slice_get loans l ≡ Some made → slice_get made.1.path.projections depth ≡ Some q →
    Contains (projection_entries depth loans) (record { node = projection_number q; fact = l })
in_projections depth loans l made q is at =
    let number : 0 + l ≡ l = omega arith in
    in_flat_map (projection_at depth) (enumerate_from 0 loans) (l, made) (record { node = projection_number q; fact = l })
    (subst (λ k. Contains (enumerate_from 0 loans) (k, made)) number (in_enumerate 0 loans l made is))
    (subst (λ (o : Option Projection). Contains (listed (entry_at l o)) (record { node = projection_number q; fact = l })) (sym at) (Contains-head (record { node = projection_number q; fact = l }) []))

-- a set has a loan that projects there if it is listed
listed_at : (depth : ℕ) (loans : List Made) (p : Projection) (l : ℕ) (made : Made) (found : Option Projection) → slice_get loans l ≡ Some made → slice_get made.1.path.projections depth ≡ found → (b : Bool) →
    (b ≡ true) ↔ Lists (projection_entries depth loans) (projection_number p) l → b ≡ option_map_or (same_projection p) found false
listed_at depth loans p l made None is at b listed = false_from_ne_true b (λ h.
    let a = from_projections depth loans (record { node = projection_number p; fact = l }) (listed.0 h) in
    let one : made ≡ a.0 = same_found (slice_get loans l) made a.0 is a.1 in
    let bad : None ≡ Some a.2 = sym at ∙ ap (λ (m : Made). slice_get m.1.path.projections depth) one ∙ a.3 in
    absurd cc)
listed_at depth loans p l made (Some q) is at b listed = same_truth b (same_projection p q)
    (λ h.
    let a = from_projections depth loans (record { node = projection_number p; fact = l }) (listed.0 h) in
    let one : made ≡ a.0 = same_found (slice_get loans l) made a.0 is a.1 in
    let there : slice_get made.1.path.projections depth ≡ Some a.2 = ap (λ (m : Made). slice_get m.1.path.projections depth) one ∙ a.3 in
    let both : Some q ≡ Some a.2 = sym at ∙ there in
    let same : q ≡ a.2 = cc in
    same_number p q (sym (ap projection_number same ∙ a.4)))
    (λ h. listed.1 (subst (λ n. Lists (projection_entries depth loans) n l) (sym (one_number p q h)) (in_projections depth loans l made q is at)))

listed_projects : (depth : ℕ) (loans : List Made) (p : Projection) (l : ℕ) (found : Option Made) → slice_get loans l ≡ found → (b : Bool) → (b ≡ true) ↔ Lists (projection_entries depth loans) (projection_number p) l →
    b ≡ option_map_or (λ (made : Made). option_map_or (same_projection p) (slice_get made.1.path.projections depth) false) found false
listed_projects depth loans p l None is b listed = false_from_ne_true b (λ h.
    let a = from_projections depth loans (record { node = projection_number p; fact = l }) (listed.0 h) in
    let bad : None ≡ Some a.0 = sym is ∙ a.1 in
    absurd cc)
listed_projects depth loans p l (Some made) is b listed = listed_at depth loans p l made (slice_get made.1.path.projections depth) is refl b listed

pub rows_project : (depth : ℕ) (loans : List Made) (rows : List (List Bool)) → HaveEntries rows (projection_entries depth loans) → AreProjecting loans depth rows
rows_project depth loans rows entries p l = listed_projects depth loans p l (slice_get loans l) refl (holds rows (projection_number p) l) (entries (projection_number p) l)

-- one more depth has its table
pub projecting_more : (loans : List Made) (tables : List (List (List Bool))) (rows : List (List Bool)) (depth : ℕ) → length tables ≡ depth → ((d : ℕ) → d < depth → AreProjecting loans d (get_or tables d [])) →
    AreProjecting loans depth rows → (d : ℕ) → d < depth + 1 → AreProjecting loans d (get_or (tables ++ rows ∷ []) d [])
projecting_more loans tables rows depth count before here d low = elim (cases_eq d depth) [
  | inl last ↦
      let is : get_or (tables ++ rows ∷ []) d [] ≡ rows = rw (last ∙ sym count) (get_or-append_seam tables rows [] []) in
      subst (λ (r : List (List Bool)). AreProjecting loans d r) (sym is) (rw last here)
  | inr other ↦
      let under : d < depth = omega (arith, low, other) in
      subst (λ (r : List (List Bool)). AreProjecting loans d r) (sym (get_or_append_left tables (rows ∷ []) [] d (omega (arith, under, count)))) (before d under)
]

-- ---- loops that append what each element and its place give

module _ {X Y : Type 0} (f : ℕ × X → List Y) (whole items : List Y) (xs : List X) (i : ℕ) where
  -- a turn appends what its element gives
  pub listed-turn : (d : X) (new : List Y) → i < length xs → new ≡ items ++ f (i, get_or xs i d) → items ++ flat_map f (enumerate_from i (drop i xs)) ≡ whole → new ++ flat_map f (enumerate_from (i + 1) (drop (i + 1) xs)) ≡ whole
  listed-turn d new low grown before =
      let rest = flat_map f (enumerate_from (i + 1) (drop (i + 1) xs)) in
      ap (λ l. l ++ rest) grown
      ∙ append_assoc items (f (i, get_or xs i d)) rest
      ∙ ap (λ l. items ++ l) (sym (at_drop_more (λ l. flat_map f (enumerate_from i l)) xs i d low))
      ∙ before

  -- after the last turn all is listed
  pub listed-all : length xs ≤ i → items ++ flat_map f (enumerate_from i (drop i xs)) ≡ whole → items ≡ whole
  listed-all past before =
      sym (append-nil items) ∙ ap (λ l. items ++ l) (sym (at_drop_all (λ l. flat_map f (enumerate_from i l)) xs i past)) ∙ before
