-- The rows of loans for each kind of access and each local, and what two rows both have.
use Rattle.std.proofs.Common.{◌≡◌, ℕ, ◌+◌, ◌*◌, ◌<◌, ◌≤◌, ◌⊎◌, inl, inr, Bool, true, false, List, length, set, refl, sym, ap, ◌∙◌, subst, arith}
use Rattle.std.specs.Prelude.{◌&&◌, Some, slice_get}
use Rattle.std.specs.List.{All}
use Rattle.std.proofs.lemmas.Bool.{and_parts, both_ways, cases_eq, cases_lt, false_from_ne_true, ne_eqb}
use Rattle.std.proofs.lemmas.List.{get_or_past}
use Rattle.std.proofs.lemmas.Option.{slice_get_within, get_or_from_slice_get}
use Rattle.bc_syntax.specs.declared.syntax.Mutability.TheVariants.{Shared}
use Rattle.bc_syntax.specs.declared.syntax.Place.{Place}
use Rattle.bc_points.specs.declared.access.Access.{Access}
use Rattle.bc_points.specs.declared.access.AccessKind.{AccessKind}
use Rattle.bc_points.specs.declared.access.AccessKind.TheVariants.{Read, Write}
use Rattle.bc_points.specs.declared.access.Depth.{Depth}
use Rattle.bc_points.specs.declared.access.Depth.TheVariants.{Shallow, Deep}
use Rattle.bc_points.specs.declared.loan.Loan.{Loan}
use Rattle.bc_bodies.specs.Mir.{Mir}
use Rattle.bc_flow.specs.BitSet.{has, IsNextMember}
use Rattle.bc_flow.specs.Flow.{row, holds}
use Rattle.bc_flow.specs.declared.tables.Entry.{Entry}
use Rattle.bc_flow.proofs.Entries.{entered}
use Rattle.bc_flow.proofs.Rows.{others_kept}
use Rattle.bc_loans.proofs.Listing.{same_found}
use Rattle.bc_judge.specs.Conflicts.{is_conflict, is_relevant_at}
use Rattle.bc_judge.specs.Candidates.{one_writes, row_number, HaveCandidates, AreCandidates, both_have, IsNextInBoth}

pub none_right : (a b : Bool) → b ≡ false → (a && b) ≡ false
none_right true b none = none
none_right false b none = refl

none_left : (a b : Bool) → a ≡ false → (a && b) ≡ false
none_left true b none = absurd (both_ways true none refl)
none_left false b none = refl

pub either_false : (a b : Bool) → (a && b) ≡ false → (a ≡ false) ⊎ (b ≡ false)
either_false true b none = inr none
either_false false b none = inl refl

-- ---- paths of another local

irrelevant : (mir : Mir) (depth : Depth) (place path : Place) → (path.local ≡ place.local → ⊥) → is_relevant_at mir depth place path ≡ false
irrelevant mir Shallow place path apart = rw (ne_eqb path.local place.local apart, ne_eqb place.local path.local (λ same. apart (sym same))) refl
irrelevant mir Deep place path apart = rw (ne_eqb path.local place.local apart, ne_eqb place.local path.local (λ same. apart (sym same))) refl

same_local : (mir : Mir) (depth : Depth) (place path : Place) → is_relevant_at mir depth place path ≡ true → path.local ≡ place.local
same_local mir depth place path relevant = elim (cases_eq path.local place.local) [
  | inl same ↦ same
  | inr apart ↦ absurd (both_ways (is_relevant_at mir depth place path) (irrelevant mir depth place path apart) relevant)
]

-- ---- candidates

-- the loans of the row for an access's kind and local
pub are_candidates : (mir : Mir) (access : Access) (loans : List (ℕ × Loan)) (rows : List (List Bool)) → HaveCandidates loans rows → (reached : ℕ) → reached ≡ row_number access.kind access.place.local →
    AreCandidates mir access loans (row rows reached)
are_candidates mir access loans rows have reached at l made is conflicts =
    let parts = and_parts (one_writes access.kind made.1.mutability) (is_relevant_at mir access.depth access.place made.1.path) conflicts in
    let same : made.1.path.local ≡ access.place.local = same_local mir access.depth access.place made.1.path parts.1 in
    let there : holds rows (row_number access.kind made.1.path.local) l ≡ true = have access.kind l made is parts.0 in
    let here : holds rows (row_number access.kind access.place.local) l ≡ true = subst (λ (k : ℕ). holds rows (row_number access.kind k) l ≡ true) same there in
    subst (λ (n : ℕ). holds rows n l ≡ true) (sym at) here

-- an access conflicts with no other loan
pub no_conflict : (mir : Mir) (access : Access) (loans : List (ℕ × Loan)) (among : List Bool) → AreCandidates mir access loans among → (l : ℕ) (made : ℕ × Loan) → slice_get loans l ≡ Some made →
    has among l ≡ false → is_conflict mir access made.1 ≡ false
no_conflict mir access loans among are l made is none =
    false_from_ne_true (is_conflict mir access made.1) (λ conflicts. both_ways (has among l) none (are l made is conflicts))

-- ---- the rows, one loan after another

-- there are rows for the local of each loan
pub local_within : (loans : List (ℕ × Loan)) (number : ℕ) (made : ℕ × Loan) (count : ℕ) → slice_get loans number ≡ Some made → All (λ (m : ℕ × Loan). 2 * m.1.path.local + 1 < count) loans →
    2 * made.1.path.local + 1 < count
local_within loans number made count is all =
    subst (λ (m : ℕ × Loan). 2 * m.1.path.local + 1 < count) (get_or_from_slice_get loans number made made is) (all number made (slice_get_within loans number made is))

pub sizes_stay : (old new : List (List Bool)) (at : ℕ) → new ≡ set old at (row new at) → length (row new at) ≡ length (row old at) → (n : ℕ) → length (row new n) ≡ length (row old n)
sizes_stay old new at written size n = elim (cases_eq n at) [
  | inl same ↦ rw same size
  | inr apart ↦ ap length (others_kept old new at written n apart)
]

pub kept_entered : (old new : List (List Bool)) (at fact : ℕ) → fact < length (row old at) → new ≡ set old at (row new at) → row new at ≡ set (row old at) fact true →
    (n l : ℕ) → holds old n l ≡ true → holds new n l ≡ true
kept_entered old new at fact small written row_is n l there =
    let entry : Entry = record { node = at; fact = fact } in
    let is = entered old new entry small written row_is in
    elim (cases_eq n at) [
      | inl here ↦ elim (cases_eq l fact) [
        | inl this ↦ is.here n l here this
        | inr other ↦ is.elsewhere n l (λ _ same. other same) ∙ there
      ]
      | inr apart ↦ is.elsewhere n l (λ same _. apart same) ∙ there
    ]

pub this_entered : (old new : List (List Bool)) (at fact : ℕ) → fact < length (row old at) → new ≡ set old at (row new at) → row new at ≡ set (row old at) fact true → holds new at fact ≡ true
this_entered old new at fact small written row_is =
    let entry : Entry = record { node = at; fact = fact } in
    (entered old new entry small written row_is).here at fact refl refl

-- a shared loan, in the row for writes
pub shared_added : (rows : List (List Bool)) (local number writes : ℕ) → writes ≡ row_number Write local → holds rows writes number ≡ true →
    (kind : AccessKind) → one_writes kind Shared ≡ true → holds rows (row_number kind local) number ≡ true
shared_added rows local number writes at there Write _ = subst (λ (n : ℕ). holds rows n number ≡ true) at there
shared_added rows local number writes at there Read only_reads = absurd (both_ways false refl only_reads)

-- a mutable loan, in both rows
pub mutable_added : (rows : List (List Bool)) (local number writes reads : ℕ) → writes ≡ row_number Write local → reads ≡ row_number Read local → holds rows writes number ≡ true → holds rows reads number ≡ true →
    (kind : AccessKind) → holds rows (row_number kind local) number ≡ true
mutable_added rows local number writes reads at_writes at_reads written read Write = subst (λ (n : ℕ). holds rows n number ≡ true) at_writes written
mutable_added rows local number writes reads at_writes at_reads written read Read = subst (λ (n : ℕ). holds rows n number ≡ true) at_reads read

-- the loans below a number are in their rows
abbrev pub HaveCandidatesBelow : ℕ → List (ℕ × Loan) → List (List Bool) → Type 0
HaveCandidatesBelow count loans rows =
    (kind : AccessKind) (l : ℕ) (made : ℕ × Loan) → l < count → slice_get loans l ≡ Some made → one_writes kind made.1.mutability ≡ true → holds rows (row_number kind made.1.path.local) l ≡ true

pub candidates-more : (loans : List (ℕ × Loan)) (number : ℕ) (made : ℕ × Loan) (old new : List (List Bool)) → slice_get loans number ≡ Some made → ((n l : ℕ) → holds old n l ≡ true → holds new n l ≡ true) →
    ((kind : AccessKind) → one_writes kind made.1.mutability ≡ true → holds new (row_number kind made.1.path.local) number ≡ true) → HaveCandidatesBelow number loans old → HaveCandidatesBelow (number + 1) loans new
candidates-more loans number made old new is_made kept added before kind l other below is writes = elim (cases_eq l number) [
  | inl here ↦
      let there : slice_get loans number ≡ Some other = subst (λ (k : ℕ). slice_get loans k ≡ Some other) here is in
      let same : made ≡ other = same_found (slice_get loans number) made other is_made there in
      let there_too = subst (λ (m : ℕ × Loan). one_writes kind m.1.mutability ≡ true → holds new (row_number kind m.1.path.local) number ≡ true) same (added kind) in
      subst (λ (k : ℕ). holds new (row_number kind other.1.path.local) k ≡ true) (sym here) (there_too writes)
  | inr apart ↦ kept (row_number kind other.1.path.local) l (before kind l other (omega (arith, below, apart)) is writes)
]

pub candidates-all : (loans : List (ℕ × Loan)) (count : ℕ) (rows : List (List Bool)) → length loans ≤ count → HaveCandidatesBelow count loans rows → HaveCandidates loans rows
candidates-all loans count rows all have kind l made is writes =
    let within = slice_get_within loans l made is in
    have kind l made (omega (arith, within, all)) is writes

-- ---- what two rows both have

-- a member is a number below the size
pub member_within : (set : List Bool) (i : ℕ) → has set i ≡ true → i < length set
member_within set i there = elim (cases_lt i (length set)) [
  | inl within ↦ within
  | inr past ↦ absurd (both_ways (has set i) (get_or_past set i false past) there)
]

-- the search goes on at a later number
pub passed_more : (one other : List Bool) (from at member next : ℕ) → ((i : ℕ) → from ≤ i → i < at → both_have one other i ≡ false) → IsNextMember one at member → IsNextMember other member next →
    (i : ℕ) → from ≤ i → i < next → both_have one other i ≡ false
passed_more one other from at member next passed here there i low high = elim (cases_lt i at) [
  | inl early ↦ passed i low early
  | inr late ↦ elim (cases_lt i member) [
    | inl before ↦ none_left (has one i) (has other i) (here.least i late before)
    | inr behind ↦ none_right (has one i) (has other i) (there.least i behind high)
  ]
]

pub found_both : (one other : List Bool) (from at member next : ℕ) → from ≤ at → ((i : ℕ) → from ≤ i → i < at → both_have one other i ≡ false) → IsNextMember one at member → IsNextMember other member next →
    next ≡ member → IsNextInBoth one other from member
found_both one other from at member next onward passed here there same =
    let ahead = here.onward in
    record {
      onward = omega (arith, onward, ahead);
      in_one = here.is_member;
      in_other = subst (λ (n : ℕ). has other n ≡ true) same there.is_member;
      least = λ i low high. passed_more one other from at member next passed here there i low (omega (arith, high, same));
    }

-- one of the two has no more
pub no_more_both : (one other : List Bool) (from at member : ℕ) → ((i : ℕ) → from ≤ i → i < at → both_have one other i ≡ false) → IsNextMember one at member → ((i : ℕ) → member ≤ i → has other i ≡ false) →
    (i : ℕ) → from ≤ i → both_have one other i ≡ false
no_more_both one other from at member passed here none i low = elim (cases_lt i at) [
  | inl early ↦ passed i low early
  | inr late ↦ elim (cases_lt i member) [
    | inl before ↦ none_left (has one i) (has other i) (here.least i late before)
    | inr behind ↦ none_right (has one i) (has other i) (none i behind)
  ]
]

pub none_more : (one other : List Bool) (from at : ℕ) → ((i : ℕ) → from ≤ i → i < at → both_have one other i ≡ false) → ((i : ℕ) → at ≤ i → has one i ≡ false) → (i : ℕ) → from ≤ i → both_have one other i ≡ false
none_more one other from at passed none i low = elim (cases_lt i at) [
  | inl early ↦ passed i low early
  | inr late ↦ none_left (has one i) (has other i) (none i late)
]
