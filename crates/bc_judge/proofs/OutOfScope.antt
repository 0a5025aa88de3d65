-- Loans that are not in scope, and those with which an access does not conflict, give no conflict.
use Rattle.std.proofs.Common.{◌≡◌, ℕ, ◌+◌, ◌≤◌, inl, inr, Bool, false, List, [], ◌∷◌, ◌++◌, length, sym, ap, ◌∙◌, arith, append-nil, Option, Some, None}
use Rattle.std.specs.Prelude.{slice_get, MatchOption, is_some, if◌then◌else◌}
use Rattle.bc_flow.specs.BitSet.{has, IsNextMember}
use Rattle.bc_judge.specs.declared.conflicts.Conflict.{Conflict}
use Rattle.bc_points.specs.declared.access.Access.{Access}
use Rattle.bc_bodies.specs.declared.mir.Step.{Step}
use Rattle.bc_points.specs.declared.loan.Loan.{Loan}
use Rattle.bc_bodies.specs.Mir.{Mir}
use Rattle.bc_points.specs.Accesses.{accesses_of}
use Rattle.bc_loans.specs.Loans.{loans_of}
use Rattle.bc_flow.specs.Flow.{row, holds}
use Rattle.bc_judge.specs.Candidates.{row_number, HaveCandidates, AreCandidates, both_have, IsNextInBoth}
use Rattle.bc_judge.specs.Conflicts.{is_conflict, conflict_with, conflicts_of_access, conflicts_at}
use Rattle.bc_judge.proofs.Locals.{none_right, either_false, no_conflict, are_candidates}
use Rattle.bc_judge.proofs.Walks.{from_on, nothing, nothing_on, walk-turn, walk-past, walk-end}

pub out_of_scope : (mir : Mir) (scope : ℕ → Bool) (point : ℕ) (access : ℕ × Access) (n : ℕ) (loan : ℕ × Loan) → scope n ≡ false → conflict_with mir scope point access (n, loan) ≡ []
out_of_scope mir scope point access n loan not_there = rw not_there

-- a point with no loan in scope has no conflict
pub no_loan_in_scope : (mir : Mir) (scope : ℕ → Bool) (here : ℕ × Step) → ((n : ℕ) → scope n ≡ false) → conflicts_at mir scope here ≡ []
no_loan_in_scope mir scope here none =
    nothing (conflicts_of_access mir scope here.0) 0 (accesses_of mir here.1.instruction)
    (λ i access _. nothing (conflict_with mir scope here.0 (i, access)) 0 (loans_of mir)
    (λ n loan _. out_of_scope mir scope here.0 (i, access) n loan (none n)))

abbrev pub conflicts_from : Mir → List Bool → ℕ → ℕ × Access → List (ℕ × Loan) → ℕ → List Conflict
conflicts_from mir set point access loans n = from_on (conflict_with mir (has set) point access) loans n

-- ---- candidates

no_match : (mir : Mir) (scope : ℕ → Bool) (point : ℕ) (access : ℕ × Access) (n : ℕ) (loan : ℕ × Loan) → is_conflict mir access.1 loan.1 ≡ false → conflict_with mir scope point access (n, loan) ≡ []
no_match mir scope point access n loan none =
    let conflict : Conflict = record { point = point; access = access.0; maker = loan.0; region = loan.1.region } in
    ap (λ (b : Bool). if b then conflict ∷ [] else []) (none_right (scope n) (is_conflict mir access.1 loan.1) none)

-- a loan that is no candidate, or not in scope
passed_over : (mir : Mir) (among set : List Bool) (point : ℕ) (access : ℕ × Access) (loans : List (ℕ × Loan)) → AreCandidates mir access.1 loans among → (n : ℕ) (loan : ℕ × Loan) → slice_get loans n ≡ Some loan →
    both_have among set n ≡ false → conflict_with mir (has set) point access (n, loan) ≡ []
passed_over mir among set point access loans are n loan is none = elim (either_false (has among n) (has set n) none) [
  | inl no_candidate ↦ no_match mir (has set) point access n loan (no_conflict mir access.1 loans among are n loan is no_candidate)
  | inr not_there ↦ out_of_scope mir (has set) point access n loan not_there
]

pub access-turn : (mir : Mir) (among set : List Bool) (point : ℕ) (access : ℕ × Access) (loans : List (ℕ × Loan)) (items new whole : List Conflict) (from member : ℕ) (loan : ℕ × Loan) →
    AreCandidates mir access.1 loans among → IsNextInBoth among set from member → slice_get loans member ≡ Some loan → new ≡ items ++ conflict_with mir (has set) point access (member, loan) →
    items ++ conflicts_from mir set point access loans from ≡ whole → new ++ conflicts_from mir set point access loans (member + 1) ≡ whole
access-turn mir among set point access loans items new whole from member loan are next is added before =
    walk-turn (conflict_with mir (has set) point access) loans items new whole from member loan next.onward
    (λ i other low high there. passed_over mir among set point access loans are i other there (next.least i low high)) is added before

pub access-past : (mir : Mir) (among set : List Bool) (point : ℕ) (access : ℕ × Access) (loans : List (ℕ × Loan)) (items whole : List Conflict) (from member : ℕ) →
    AreCandidates mir access.1 loans among → IsNextInBoth among set from member → length loans ≤ member → items ++ conflicts_from mir set point access loans from ≡ whole → items ≡ whole
access-past mir among set point access loans items whole from member are next past before =
    walk-past (conflict_with mir (has set) point access) loans items whole from member next.onward
    (λ i other low high there. passed_over mir among set point access loans are i other there (next.least i low high)) past before

pub access-end : (mir : Mir) (among set : List Bool) (point : ℕ) (access : ℕ × Access) (loans : List (ℕ × Loan)) (items whole : List Conflict) (from : ℕ) →
    AreCandidates mir access.1 loans among → ((i : ℕ) → from ≤ i → both_have among set i ≡ false) → items ++ conflicts_from mir set point access loans from ≡ whole → items ≡ whole
access-end mir among set point access loans items whole from are none before =
    walk-end (conflict_with mir (has set) point access) loans items whole from
    (λ i other low there. passed_over mir among set point access loans are i other there (none i low)) before

-- an access whose row is missing has no conflict
pub no_candidates : (mir : Mir) (set : List Bool) (point : ℕ) (access : ℕ × Access) (rows : List (List Bool)) (reached : ℕ) → reached ≡ row_number access.1.kind access.1.place.local → HaveCandidates (loans_of mir) rows →
    ((l : ℕ) → holds rows reached l ≡ false) → conflicts_of_access mir (has set) point access ≡ []
no_candidates mir set point access rows reached at have none =
    nothing_on (conflict_with mir (has set) point access) (loans_of mir) 0
    (λ i loan _ is. no_match mir (has set) point access i loan (no_conflict mir access.1 (loans_of mir) (row rows reached) (are_candidates mir access.1 (loans_of mir) rows have reached at) i loan is (none i)))

pub nothing-added : {X : Type 0} (items more : List X) → more ≡ [] → items ≡ items ++ more
nothing-added items more none = sym (append-nil items) ∙ ap (λ xs. items ++ xs) (sym none)

-- a set with no next member from 0 on is empty
pub empty_set : (set : List Bool) (next : Option ℕ) → is_some next ≡ false → MatchOption next ((i : ℕ) → 0 ≤ i → has set i ≡ false) (λ member. IsNextMember set 0 member) → (i : ℕ) → has set i ≡ false
empty_set set None none empty i = empty i (omega arith)
empty_set set (Some member) none found i = absurd cc
