-- Sweeps over the points for one word of 64 loans, one point after another, and one edge after another.
use Rattle.std.proofs.Common.{◌≡◌, ℕ, ◌+◌, ◌*◌, ◌/◌, ◌%◌, ◌<◌, ◌≤◌, inl, inr, ◌↔◌, Bool, true, false, not, ◌&&◌, ◌||◌, ◌==◌, List, [], ◌∷◌, ◌++◌, length, set, get_or, take, Option, Some, None, refl, sym, ap, ◌∙◌, subst, true≢false, arith}
use Rattle.std.specs.Prelude.{⊤, slice_get, MatchOption, bit_and}
use Rattle.std.specs.List.{sum_by}
use Rattle.std.proofs.lemmas.Bool.{both_ways, cases_Bool, cases_eq, cases_lt, false_from_ne_true, or_cases, or_left, or_right, or_parts, and_parts, and_from, eq-eqb, eqb-true}
use Rattle.std.proofs.lemmas.List.Elements.{Contains-append_left, Contains-append_right, Contains-append_cases}
use Rattle.std.proofs.lemmas.List.{take_more, length-set, get_or-set_same, get_or-set_other, ext_get_or}
use Rattle.std.proofs.lemmas.List.Sums.{sum_by-set}
use Rattle.std.proofs.lemmas.Option.{slice_get_past}
use Rattle.bc_flow.specs.declared.graph.Edge.{Edge}
use Rattle.bc_flow.specs.Graph.{HasEdge}
use Rattle.bc_flow.specs.BitSet.{has, absent_count}
use Rattle.bc_flow.specs.Packed.{is_set, word_has}
use Rattle.bc_flow.specs.Flow.{row, holds, AreAdded}
use Rattle.bc_flow.specs.Reach.{Reaches, begins, goes_on}
use Rattle.bc_flow.proofs.Membership.{Contains-nil, Contains-one}
use Rattle.bc_flow.proofs.Visits.{itself, only}
use Rattle.bc_bodies.specs.declared.mir.Step.{Step}
use Rattle.bc_points.specs.declared.loan.Loan.{Loan}
use Rattle.bc_loans.specs.Overwrites.{keeps, is_overwritten, is_overwritten_at}
use Rattle.bc_loans.specs.Sweeps.{WalksTo, IsSeed, passes, ArePushed, IsSwept, AreReached, AreTargets, AreWalked}
use Rattle.bc_loans.proofs.Closing.{kept_there}
use Rattle.bc_loans.proofs.Overwriting.{at_point}
use Rattle.bc_loans.proofs.Telling.{added_same, word_within}

-- ---- along the edges of one point

pub ArePushed-none : (point : ℕ) (here : ℕ → Bool) (inside : ℕ → ℕ → Bool) (rows : List (List Bool)) → ArePushed [] point here inside false rows rows
ArePushed-none point here inside rows = record {
  kept = λ n l h. h;
  pushed = λ n l e _ _. absurd (Contains-nil (record { from = point; to = n }) e);
  no_more = λ n l h. inl h;
  behind = λ _ n _. refl;
  progress = omega arith;
  grown = λ h. absurd (true≢false (sym h));
}

-- one row of the table was written
row_written : (old new : List (List Bool)) (to : ℕ) (added : ℕ → Bool) → to < length old → AreAdded old new to added → new ≡ set old to (row new to)
row_written old new to added within are =
    let rows : length new ≡ length old = are.rows in
    let long : length new ≡ length (set old to (row new to)) = rows ∙ sym (length-set old to (row new to)) in
    ext_get_or [] new (set old to (row new to)) long (λ k _. elim (cases_eq k to) [
      | inl same ↦ rw same (sym (get_or-set_same old to (row new to) [] within))
      | inr apart ↦ are.others k apart ∙ sym (get_or-set_other old to k (row new to) [] apart)
    ])

-- along one edge
pub ArePushed-one : (point to : ℕ) (here : ℕ → Bool) (inside : ℕ → ℕ → Bool) (grew again : Bool) (old new : List (List Bool)) → to < length old → AreAdded old new to (λ l. here l && inside to l) → (grew ≡ false → new ≡ old) →
    (grew ≡ true → absent_count (row new to) < absent_count (row old to)) → (again ≡ true → grew ≡ true) → (again ≡ false → to ≤ point → grew ≡ false) →
    ArePushed (record { from = point; to = to } ∷ []) point here inside again old new
ArePushed-one point to here inside grew again old new within added unchanged grown only_grown else_none = record {
  kept = λ n l h. elim (cases_eq n to) [
    | inl same ↦ rw same (added.members l ∙ or_left (holds old to l) (here l && inside to l) (rw same at h))
    | inr apart ↦ ap (λ s. has s l) (added.others n apart) ∙ h
  ];
  pushed = λ n l e there lets.
      let same : n ≡ to = only point to n e in
      rw same (added.members l ∙ or_right (holds old to l) (here l && inside to l) (and_from (here l) (inside to l) there (rw same at lets)));
  no_more = λ n l h. elim (cases_eq n to) [
    | inl same ↦ elim (or_cases (holds old to l) (here l && inside to l) (sym (added.members l) ∙ (rw same at h))) [
      | inl before ↦ inl (rw same before)
      | inr now ↦ let parts = and_parts (here l) (inside to l) now in inr (itself point to n same, parts.0, rw same parts.1)
    ]
    | inr apart ↦ inl (sym (ap (λ s. has s l) (added.others n apart)) ∙ h)
  ];
  behind = λ none n low. elim (cases_eq n to) [
    | inl same ↦ ap (λ (t : List (List Bool)). row t n) (unchanged (else_none none (omega (arith, same, low))))
    | inr apart ↦ added.others n apart
  ];
  progress = elim (cases_Bool grew) [
    | inl more ↦ let less = shrinks (grown more) in omega (arith, less)
    | inr none ↦ let same : sum_by absent_count new ≡ sum_by absent_count old = ap (sum_by absent_count) (unchanged none) in omega (arith, same)
  ];
  grown = λ is. shrinks (grown (only_grown is));
}
  where
    shrinks : absent_count (row new to) < absent_count (row old to) → sum_by absent_count new < sum_by absent_count old
    shrinks fewer =
        let s = sum_by-set absent_count old to (row new to) [] within in
        let t : sum_by absent_count new ≡ sum_by absent_count (set old to (row new to)) = ap (sum_by absent_count) (row_written old new to (λ l. here l && inside to l) within added) in
        omega (arith, s, t, fewer)

-- if two tests do not both hold and the first does, the second does not
pub second_false : (one other : Bool) → one ≡ true → (one && other) ≡ false → other ≡ false
second_false one other first none = rw first at none

-- the loans of a word along one edge, if they are inside there
pub pushed_along : (point to word here mask : ℕ) (inside : ℕ → ℕ → Bool) (grew again : Bool) (old new : List (List Bool)) → to < length old → ((l : ℕ) → l / 64 ≡ word → is_set mask (l % 64) ≡ inside to l) →
    AreAdded old new to (word_has word (bit_and here mask)) → (grew ≡ false → new ≡ old) → (grew ≡ true → absent_count (row new to) < absent_count (row old to)) → (again ≡ true → grew ≡ true) → (again ≡ false → to ≤ point → grew ≡ false) →
    ArePushed (record { from = point; to = to } ∷ []) point (word_has word here) inside again old new
pushed_along point to word here mask inside grew again old new within told added unchanged grown only_grown else_none =
    ArePushed-one point to (word_has word here) inside grew again old new within
    (added_same old new to (word_has word (bit_and here mask)) (λ l. word_has word here l && inside to l) (word_within word here mask (inside to) told) added) unchanged grown only_grown else_none

pub ArePushed-more : (point : ℕ) (edges : List Edge) (e : Edge) (here : ℕ → Bool) (inside : ℕ → ℕ → Bool) (first second : Bool) (old mid new : List (List Bool)) → ArePushed edges point here inside first old mid → ArePushed (e ∷ []) point here inside second mid new →
    ArePushed (edges ++ e ∷ []) point here inside (first || second) old new
ArePushed-more point edges e here inside first second old mid new p q = record {
  kept = λ n l h. q.kept n l (p.kept n l h);
  pushed = λ n l t there lets. elim (Contains-append_cases edges (e ∷ []) (record { from = point; to = n }) t) [
    | inl earlier ↦ q.kept n l (p.pushed n l earlier there lets)
    | inr now ↦ q.pushed n l now there lets
  ];
  no_more = λ n l h. elim (q.no_more n l h) [
    | inl before ↦ elim (p.no_more n l before) [
      | inl start ↦ inl start
      | inr t ↦ inr (Contains-append_left edges (e ∷ []) (record { from = point; to = n }) t.0, t.1, t.2)
    ]
    | inr t ↦ inr (Contains-append_right edges (e ∷ []) (record { from = point; to = n }) t.0, t.1, t.2)
  ];
  behind = λ none n low. let parts = or_parts first second none in q.behind parts.1 n low ∙ p.behind parts.0 n low;
  progress = let a = p.progress in let b = q.progress in omega arith;
  grown = λ is. elim (or_cases first second is) [
    | inl one ↦ let a = p.grown one in let b = q.progress in omega arith
    | inr other ↦ let a = p.progress in let b = q.grown other in omega arith
  ];
}

pub ArePushed-same : (point : ℕ) (edges others : List Edge) (here : ℕ → Bool) (inside : ℕ → ℕ → Bool) (again : Bool) (old new : List (List Bool)) → ((b : ℕ) → HasEdge edges point b ↔ HasEdge others point b) → ArePushed edges point here inside again old new →
    ArePushed others point here inside again old new
ArePushed-same point edges others here inside again old new same p = record {
  kept = p.kept;
  pushed = λ n l t. p.pushed n l ((same n).1 t);
  no_more = λ n l h. elim (p.no_more n l h) [ inl before ↦ inl before | inr t ↦ inr ((same n).0 t.0, t.1, t.2) ];
  behind = p.behind;
  progress = p.progress;
  grown = p.grown;
}

-- the same loans by another test
pub ArePushed-here : (edges : List Edge) (point : ℕ) (one other : ℕ → Bool) (inside : ℕ → ℕ → Bool) (again : Bool) (old new : List (List Bool)) → ((l : ℕ) → one l ≡ other l) → ArePushed edges point one inside again old new → ArePushed edges point other inside again old new
ArePushed-here edges point one other inside again old new same p = record {
  kept = p.kept;
  pushed = λ n l t there. p.pushed n l t (same l ∙ there);
  no_more = λ n l h. elim (p.no_more n l h) [ inl before ↦ inl before | inr t ↦ inr (t.0, sym (same l) ∙ t.1, t.2) ];
  behind = p.behind;
  progress = p.progress;
  grown = p.grown;
}

-- ---- one point after another

same_truth : (a b : Bool) → (a ≡ true → b ≡ true) → (b ≡ true → a ≡ true) → a ≡ b
same_truth true b to from = sym (to refl)
same_truth false true to from = from refl
same_truth false false to from = refl

pub IsSwept-none : (edges : List Edge) (steps : List Step) (loans : List (ℕ × Loan)) (inside : ℕ → ℕ → Bool) (word : ℕ) (rows : List (List Bool)) → IsSwept edges steps loans inside word 0 false rows rows
IsSwept-none edges steps loans inside word rows = record {
  kept = λ n l h. h;
  sound = λ h. h;
  others = λ n l _. refl;
  closed = λ _ m low. absurd (omega (arith, low));
  progress = omega arith;
  grown = λ h. absurd (true≢false (sym h));
}

-- the loans that flow on from a point
pub here_is : (word : ℕ) (loans : List (ℕ × Loan)) (steps : List Step) (rows : List (List Bool)) (point : ℕ) (step : Step) → slice_get steps point ≡ Some step →
    (l : ℕ) → ((l / 64 == word) && (holds rows point l && not (is_overwritten loans step.instruction l))) ≡ ((l / 64 == word) && passes loans steps rows point l)
here_is word loans steps rows point step is l = ap (λ (b : Bool). (l / 64 == word) && (holds rows point l && not b)) (at_point loans steps point step is l)

-- a loan that walks to a point walks on from it
goes_on_found : (edges : List Edge) (steps : List Step) (loans : List (ℕ × Loan)) (inside : ℕ → ℕ → Bool) (point n l : ℕ) (found : Option (ℕ × Loan)) → slice_get loans l ≡ found →
    not (is_overwritten_at loans steps point l) ≡ true → HasEdge edges point n → inside n l ≡ true →
    MatchOption found ⊥ (λ (made : ℕ × Loan). Reaches edges (keeps steps made.1.path) (λ (p : ℕ). inside p l) made.0 point) →
    MatchOption found ⊥ (λ (made : ℕ × Loan). Reaches edges (keeps steps made.1.path) (λ (p : ℕ). inside p l) made.0 n)
goes_on_found edges steps loans inside point n l None is left edge into before = before
goes_on_found edges steps loans inside point n l (Some made) is left edge into before = goes_on point n before (kept_there loans steps l made is point left) edge into

walks_on : (edges : List Edge) (steps : List Step) (loans : List (ℕ × Loan)) (inside : ℕ → ℕ → Bool) (point n l : ℕ) → not (is_overwritten_at loans steps point l) ≡ true → HasEdge edges point n → inside n l ≡ true →
    WalksTo edges steps loans inside point l → WalksTo edges steps loans inside n l
walks_on edges steps loans inside point n l left edge into before = goes_on_found edges steps loans inside point n l (slice_get loans l) refl left edge into before

pub IsSwept-more : (edges : List Edge) (steps : List Step) (loans : List (ℕ × Loan)) (inside : ℕ → ℕ → Bool) (word point : ℕ) (first second : Bool) (old mid new : List (List Bool)) →
    IsSwept edges steps loans inside word point first old mid → ArePushed edges point (λ l. (l / 64 == word) && passes loans steps mid point l) inside second mid new → IsSwept edges steps loans inside word (point + 1) (first || second) old new
IsSwept-more edges steps loans inside word point first second old mid new swept p = record {
  kept = λ n l h. p.kept n l (swept.kept n l h);
  sound = λ start n l h. elim (p.no_more n l h) [
    | inl before ↦ swept.sound start n l before
    | inr t ↦
        let goes = and_parts (l / 64 == word) (passes loans steps mid point l) t.1 in
        let parts = and_parts (holds mid point l) (not (is_overwritten_at loans steps point l)) goes.1 in
        walks_on edges steps loans inside point n l parts.1 t.0 t.2 (swept.sound start point l parts.0)
  ];
  others = λ n l apart.
      same_truth (holds new n l) (holds mid n l)
      (λ h. elim (p.no_more n l h) [
        | inl before ↦ before
        | inr t ↦ let goes = and_parts (l / 64 == word) (passes loans steps mid point l) t.1 in absurd (apart (eqb-true (l / 64) word goes.0))
      ])
      (p.kept n l)
      ∙ swept.others n l apart;
  closed = λ none m low n l at edge passed into.
      let parts = or_parts first second none in
      let same : row new m ≡ row mid m = p.behind parts.1 m (omega (arith, low)) in
      let was : passes loans steps mid m l ≡ true = subst (λ (s : List Bool). (has s l && not (is_overwritten_at loans steps m l)) ≡ true) same passed in
      elim (cases_eq m point) [
        | inl here ↦
            p.pushed n l (subst (λ (k : ℕ). HasEdge edges k n) here edge)
            (and_from (l / 64 == word) (passes loans steps mid point l) (eq-eqb (l / 64) word at) (subst (λ (k : ℕ). passes loans steps mid k l ≡ true) here was)) into
        | inr apart ↦ p.kept n l (swept.closed parts.0 m (omega (arith, low, apart)) n l at edge was into)
      ];
  progress = let a = swept.progress in let b = p.progress in omega arith;
  grown = λ is. elim (or_cases first second is) [
    | inl one ↦ let a = swept.grown one in let b = p.progress in omega arith
    | inr other ↦ let a = swept.progress in let b = p.grown other in omega arith
  ];
}

-- no loan of the word is at a point that was not reached
pub unreached : (word : ℕ) (rows reached : List (List Bool)) → AreReached word rows reached → (point : ℕ) → holds reached 0 point ≡ false → (l : ℕ) → l / 64 ≡ word → holds rows point l ≡ false
unreached word rows reached all point none l at = false_from_ne_true (holds rows point l) (λ h. both_ways (holds reached 0 point) none (all point l at h))

-- points without loans of the word are skipped
pub IsSwept-skip : (edges : List Edge) (steps : List Step) (loans : List (ℕ × Loan)) (inside : ℕ → ℕ → Bool) (word from point : ℕ) (again : Bool) (old new : List (List Bool)) → IsSwept edges steps loans inside word from again old new →
    ((m : ℕ) → from ≤ m → m < point → (l : ℕ) → l / 64 ≡ word → holds new m l ≡ false) → IsSwept edges steps loans inside word point again old new
IsSwept-skip edges steps loans inside word from point again old new swept empty = record {
  kept = swept.kept;
  sound = swept.sound;
  others = swept.others;
  closed = λ none m low n l at edge passed into. elim (cases_lt m from) [
    | inl early ↦ swept.closed none m early n l at edge passed into
    | inr late ↦ let parts = and_parts (holds new m l) (not (is_overwritten_at loans steps m l)) passed in absurd (both_ways (holds new m l) (empty m late low l at) parts.0)
  ];
  progress = swept.progress;
  grown = swept.grown;
}

-- a point that loans reached is noted
pub AreReached-joined : (word : ℕ) (old new reached more : List (List Bool)) (to : ℕ) (grown : Bool) → AreReached word old reached → ((n : ℕ) → (n ≡ to → ⊥) → row new n ≡ row old n) → (grown ≡ false → new ≡ old) →
    ((n : ℕ) → holds reached 0 n ≡ true → holds more 0 n ≡ true) → (grown ≡ true → holds more 0 to ≡ true) → AreReached word new more
AreReached-joined word old new reached more to grown all others unchanged kept noted n l at h = elim (cases_eq n to) [
  | inl same ↦ elim (cases_Bool grown) [
    | inl more_there ↦ rw same (noted more_there)
    | inr none ↦ kept n (all n l at (sym (ap (λ (t : List (List Bool)). holds t n l) (unchanged none)) ∙ h))
  ]
  | inr apart ↦ kept n (all n l at (sym (ap (λ (s : List Bool). has s l) (others n apart)) ∙ h))
]

-- ---- the points with which sweeps begin

-- along one more edge
pub target_more : (edges : List Edge) (point at : ℕ) (old new : List (List Bool)) → at < length edges → ((n : ℕ) → holds old 0 n ≡ true → holds new 0 n ≡ true) →
    let none : Edge = record { from = 0; to = 0 } in holds new 0 (get_or edges at none).to ≡ true → ((n : ℕ) → HasEdge (take at edges) point n → holds old 0 n ≡ true) → (n : ℕ) → HasEdge (take (at + 1) edges) point n → holds new 0 n ≡ true
target_more edges point at old new within kept there before n edge =
    let none : Edge = record { from = 0; to = 0 } in
    elim (Contains-append_cases (take at edges) (get_or edges at none ∷ []) (record { from = point; to = n }) (subst (λ (some : List Edge). HasEdge some point n) (take_more edges at none within) edge)) [
      | inl earlier ↦ kept n (before n earlier)
      | inr now ↦ rw (ap (λ (e : Edge). e.to) (sym (Contains-one (get_or edges at none) (record { from = point; to = n }) now))) there
    ]

seeds_reached : (edges : List Edge) (steps : List Step) (inside : ℕ → ℕ → Bool) (reached : List (List Bool)) (n l : ℕ) (found : Option (ℕ × Loan)) →
    MatchOption found ⊤ (λ (made : ℕ × Loan). (point : ℕ) → HasEdge edges made.0 point → holds reached 0 point ≡ true) →
    MatchOption found ⊥ (λ (made : ℕ × Loan). (keeps steps made.1.path made.0 ≡ true) × HasEdge edges made.0 n × (inside n l ≡ true)) → holds reached 0 n ≡ true
seeds_reached edges steps inside reached n l None targets seed = absurd seed
seeds_reached edges steps inside reached n l (Some made) targets seed = targets n seed.1

pub first_are_reached : (edges : List Edge) (steps : List Step) (loans : List (ℕ × Loan)) (inside : ℕ → ℕ → Bool) (word : ℕ) (rows reached : List (List Bool)) → ((l : ℕ) → l / 64 ≡ word → AreTargets edges loans l reached) →
    ((n l : ℕ) → l / 64 ≡ word → (holds rows n l ≡ true) ↔ IsSeed edges steps loans inside n l) → AreReached word rows reached
first_are_reached edges steps loans inside word rows reached targets seeds n l at h = seeds_reached edges steps inside reached n l (slice_get loans l) (targets l at) ((seeds n l at).0 h)

targets_of : (edges : List Edge) (reached : List (List Bool)) (found : Option (ℕ × Loan)) (made : ℕ × Loan) → found ≡ Some made → ((point : ℕ) → HasEdge edges made.0 point → holds reached 0 point ≡ true) →
    MatchOption found ⊤ (λ (m : ℕ × Loan). (point : ℕ) → HasEdge edges m.0 point → holds reached 0 point ≡ true)
targets_of edges reached found made is targets = subst (λ (o : Option (ℕ × Loan)). MatchOption o ⊤ (λ (m : ℕ × Loan). (point : ℕ) → HasEdge edges m.0 point → holds reached 0 point ≡ true)) (sym is) targets

targets_kept : (edges : List Edge) (old new : List (List Bool)) (found : Option (ℕ × Loan)) → ((n : ℕ) → holds old 0 n ≡ true → holds new 0 n ≡ true) →
    MatchOption found ⊤ (λ (m : ℕ × Loan). (point : ℕ) → HasEdge edges m.0 point → holds old 0 point ≡ true) →
    MatchOption found ⊤ (λ (m : ℕ × Loan). (point : ℕ) → HasEdge edges m.0 point → holds new 0 point ≡ true)
targets_kept edges old new None kept before = tt
targets_kept edges old new (Some made) kept before = λ point edge. kept point (before point edge)

-- those of one more loan
pub targets_more : (edges : List Edge) (loans : List (ℕ × Loan)) (word k : ℕ) (made : ℕ × Loan) (old new : List (List Bool)) → slice_get loans (64 * word + k) ≡ Some made → ((n : ℕ) → holds old 0 n ≡ true → holds new 0 n ≡ true) →
    ((n : ℕ) → HasEdge edges made.0 n → holds new 0 n ≡ true) → ((j : ℕ) → j < k → AreTargets edges loans (64 * word + j) old) → (j : ℕ) → j < k + 1 → AreTargets edges loans (64 * word + j) new
targets_more edges loans word k made old new is kept targets before j low = elim (cases_eq j k) [
  | inl same ↦ rw same (targets_of edges new (slice_get loans (64 * word + k)) made is targets)
  | inr apart ↦ targets_kept edges old new (slice_get loans (64 * word + j)) kept (before j (omega (arith, low, apart)))
]

targets_none : (edges : List Edge) (reached : List (List Bool)) (found : Option (ℕ × Loan)) → found ≡ None → MatchOption found ⊤ (λ (m : ℕ × Loan). (point : ℕ) → HasEdge edges m.0 point → holds reached 0 point ≡ true)
targets_none edges reached found is = subst (λ (o : Option (ℕ × Loan)). MatchOption o ⊤ (λ (m : ℕ × Loan). (point : ℕ) → HasEdge edges m.0 point → holds reached 0 point ≡ true)) (sym is) tt

pub targets_all : (edges : List Edge) (loans : List (ℕ × Loan)) (word count : ℕ) (reached : List (List Bool)) → (64 * word + count < length loans → 64 ≤ count) → ((j : ℕ) → j < count → AreTargets edges loans (64 * word + j) reached) →
    (l : ℕ) → l / 64 ≡ word → AreTargets edges loans l reached
targets_all edges loans word count reached all targets l at =
    let place : 64 * word + l % 64 ≡ l = omega (arith, at) in
    elim (cases_lt (l % 64) count) [
      | inl there ↦ subst (λ (k : ℕ). AreTargets edges loans k reached) place (targets (l % 64) there)
      | inr past ↦ elim (cases_lt l (length loans)) [
        | inl loan ↦ absurd (let many = all (omega (arith, loan, place, past)) in omega (arith, many, past))
        | inr beyond ↦ targets_none edges reached (slice_get loans l) (slice_get_past loans l beyond)
      ]
    ]

-- ---- the loans with which sweeps begin

begins_found : (edges : List Edge) (steps : List Step) (inside : ℕ → ℕ → Bool) (n l : ℕ) (found : Option (ℕ × Loan)) →
    MatchOption found ⊥ (λ (made : ℕ × Loan). (keeps steps made.1.path made.0 ≡ true) × HasEdge edges made.0 n × (inside n l ≡ true)) →
    MatchOption found ⊥ (λ (made : ℕ × Loan). Reaches edges (keeps steps made.1.path) (λ (p : ℕ). inside p l) made.0 n)
begins_found edges steps inside n l None h = h
begins_found edges steps inside n l (Some made) h = begins n h.0 h.1 h.2

pub seed_walks : (edges : List Edge) (steps : List Step) (loans : List (ℕ × Loan)) (inside : ℕ → ℕ → Bool) (n l : ℕ) → IsSeed edges steps loans inside n l → WalksTo edges steps loans inside n l
seed_walks edges steps loans inside n l seed = begins_found edges steps inside n l (slice_get loans l) seed

-- ---- one word of loans after another

pub AreWalked-sound : (edges : List Edge) (steps : List Step) (loans : List (ℕ × Loan)) (inside : ℕ → ℕ → Bool) (word : ℕ) (rows : List (List Bool)) → AreWalked edges steps loans inside word rows →
    (n l : ℕ) → holds rows n l ≡ true → WalksTo edges steps loans inside n l
AreWalked-sound edges steps loans inside word rows walked n l h = elim (cases_lt (l / 64) word) [
  | inl early ↦ (walked.done n l early).0 h
  | inr late ↦ seed_walks edges steps loans inside n l ((walked.rest n l late).0 h)
]

pub AreWalked-more : (edges : List Edge) (steps : List Step) (loans : List (ℕ × Loan)) (inside : ℕ → ℕ → Bool) (word : ℕ) (old new : List (List Bool)) → AreWalked edges steps loans inside word old →
    ((n l : ℕ) → (l / 64 ≡ word → ⊥) → holds new n l ≡ holds old n l) → ((n l : ℕ) → l / 64 ≡ word → (holds new n l ≡ true) ↔ WalksTo edges steps loans inside n l) → AreWalked edges steps loans inside (word + 1) new
AreWalked-more edges steps loans inside word old new walked others walks = record {
  done = λ n l low. elim (cases_eq (l / 64) word) [
    | inl at ↦ walks n l at
    | inr apart ↦
        let same = others n l apart in
        let before = walked.done n l (omega (arith, low, apart)) in (λ h. before.0 (sym same ∙ h), λ h. same ∙ before.1 h)
  ];
  rest = λ n l high.
      let same = others n l (λ at. omega (arith, at, high)) in
      let before = walked.rest n l (omega (arith, high)) in (λ h. before.0 (sym same ∙ h), λ h. same ∙ before.1 h);
}

seed_none : (edges : List Edge) (steps : List Step) (inside : ℕ → ℕ → Bool) (n l : ℕ) (found : Option (ℕ × Loan)) → found ≡ None →
    MatchOption found ⊥ (λ (made : ℕ × Loan). (keeps steps made.1.path made.0 ≡ true) × HasEdge edges made.0 n × (inside n l ≡ true)) → ⊥
seed_none edges steps inside n l None is seed = seed
seed_none edges steps inside n l (Some made) is seed = absurd cc

walk_none : (edges : List Edge) (steps : List Step) (inside : ℕ → ℕ → Bool) (n l : ℕ) (found : Option (ℕ × Loan)) → found ≡ None →
    MatchOption found ⊥ (λ (made : ℕ × Loan). Reaches edges (keeps steps made.1.path) (λ (p : ℕ). inside p l) made.0 n) → ⊥
walk_none edges steps inside n l None is walk = walk
walk_none edges steps inside n l (Some made) is walk = absurd cc

pub AreWalked-all : (edges : List Edge) (steps : List Step) (loans : List (ℕ × Loan)) (inside : ℕ → ℕ → Bool) (word : ℕ) (rows : List (List Bool)) → length loans ≤ 64 * word → AreWalked edges steps loans inside word rows →
    (n l : ℕ) → (holds rows n l ≡ true) ↔ WalksTo edges steps loans inside n l
AreWalked-all edges steps loans inside word rows all walked n l = elim (cases_lt (l / 64) word) [
  | inl early ↦ walked.done n l early
  | inr late ↦
      let none : slice_get loans l ≡ None = slice_get_past loans l (omega (arith, late, all)) in (
        λ h. absurd (seed_none edges steps inside n l (slice_get loans l) none ((walked.rest n l late).0 h)),
        λ h. absurd (walk_none edges steps inside n l (slice_get loans l) none h),
      )
]
