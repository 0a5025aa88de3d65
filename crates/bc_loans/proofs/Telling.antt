-- Which words are known, one run of points after another, and words of 64 loans.
use Rattle.std.proofs.Common.{◌≡◌, ℕ, ◌+◌, ◌*◌, ◌/◌, ◌%◌, ◌<◌, ◌≤◌, inl, inr, Bool, true, false, ◌&&◌, ◌||◌, ◌==◌, eqb, List, length, get_or, set, refl, sym, ap, ◌∙◌, arith}
use Rattle.std.specs.Prelude.{bit_and}
use Rattle.std.proofs.lemmas.Bool.{cases_eq, cases_lt, ne_eqb}
use Rattle.std.proofs.lemmas.List.{get_or-set_same, get_or-set_other, length-set}
use Rattle.std.proofs.lemmas.Nat.Bits.{bit_at-zero}
use Rattle.bc_flow.specs.BitSet.{has}
use Rattle.bc_flow.specs.Packed.{is_set, word_has}
use Rattle.bc_flow.specs.Flow.{row, holds, AreAdded}
use Rattle.bc_flow.proofs.Joined.{is_set_and}
use Rattle.bc_flow.proofs.Rows.{others_kept}
use Rattle.bc_points.specs.declared.loan.Loan.{Loan}
use Rattle.bc_loans.specs.Inside.{is_inside, inside_at, AreTold, IsWritten}
use Rattle.bc_loans.proofs.Regions.{no_loan}

-- a table with one more member
pub record IsInserted (old new : List (List Bool)) (node fact : ℕ) : Type 0 where
  pub rows : length new ≡ length old
  pub sizes : (n : ℕ) → length (row new n) ≡ length (row old n)
  pub there : holds new node fact ≡ true
  pub only : (n f : ℕ) → (n ≡ node → f ≡ fact → ⊥) → holds new n f ≡ holds old n f

pub IsInserted-from : (old new : List (List Bool)) (node fact : ℕ) → fact < length (row old node) → length new ≡ length old → new ≡ set old node (row new node) → length (row new node) ≡ length (row old node) →
    row new node ≡ set (row old node) fact true → IsInserted old new node fact
IsInserted-from old new node fact within rows others size is =
    let apart : (n : ℕ) → (n ≡ node → ⊥) → row new n ≡ row old n = others_kept old new node others in
    record {
      rows = rows;
      sizes = λ n. elim (cases_eq n node) [
        | inl same ↦ rw same size
        | inr away ↦ ap length (apart n away)
      ];
      there = ap (λ (s : List Bool). has s fact) is ∙ get_or-set_same (row old node) fact true false within;
      only = λ n f other. elim (cases_eq n node) [
        | inl same ↦ rw same (ap (λ (s : List Bool). has s f) is ∙ get_or-set_other (row old node) fact f true false (λ one. other same one))
        | inr away ↦ ap (λ (s : List Bool). has s f) (apart n away)
      ];
    }

pub IsInserted-kept : (old new : List (List Bool)) (node fact : ℕ) → IsInserted old new node fact → (n f : ℕ) → holds old n f ≡ true → holds new n f ≡ true
IsInserted-kept old new node fact inserted n f h = elim (cases_eq n node) [
  | inl same ↦ elim (cases_eq f fact) [
    | inl one ↦ rw (same, one) inserted.there
    | inr other ↦ inserted.only n f (λ _ one. other one) ∙ h
  ]
  | inr apart ↦ inserted.only n f (λ same _. apart same) ∙ h
]

-- ---- the words of loans, gathered

-- the first words are the values of the regions of the word's loans, and the others are empty
pub record AreGathered (universals : ℕ) (loans : List (ℕ × Loan)) (value : ℕ → ℕ → Bool) (word run count : ℕ) (block : List ℕ) : Type 0 where
  pub size : length block ≡ 64
  pub done : (k p : ℕ) → k < count → p / 64 ≡ run → is_set (get_or block k 0) (p % 64) ≡ is_inside universals loans value (64 * word + k) p
  pub rest : (k : ℕ) → count ≤ k → get_or block k 0 ≡ 0

pub AreGathered-more : (universals : ℕ) (loans : List (ℕ × Loan)) (value : ℕ → ℕ → Bool) (word run k here : ℕ) (old : List ℕ) → AreGathered universals loans value word run k old → k < 64 →
    ((p : ℕ) → p / 64 ≡ run → is_set here (p % 64) ≡ is_inside universals loans value (64 * word + k) p) → AreGathered universals loans value word run (k + 1) (set old k here)
AreGathered-more universals loans value word run k here old gathered few is = record {
  size = length-set old k here ∙ gathered.size;
  done = λ j p low at. elim (cases_eq j k) [
    | inl same ↦ rw same (ap (λ (w : ℕ). is_set w (p % 64)) (get_or-set_same old k here 0 (omega (arith, few, gathered.size))) ∙ is p at)
    | inr apart ↦ ap (λ (w : ℕ). is_set w (p % 64)) (get_or-set_other old k j here 0 apart) ∙ gathered.done j p (omega (arith, low, apart)) at
  ];
  rest = λ j past. get_or-set_other old k j here 0 (λ same. omega (arith, same, past)) ∙ gathered.rest j (omega (arith, past));
}

-- all loans of the word are there
pub gathered_all : (universals : ℕ) (loans : List (ℕ × Loan)) (value : ℕ → ℕ → Bool) (word run count : ℕ) (block : List ℕ) → AreGathered universals loans value word run count block → (64 * word + count < length loans → 64 ≤ count) →
    (p l : ℕ) → p / 64 ≡ run → l / 64 ≡ word → is_set (get_or block (l % 64) 0) (p % 64) ≡ inside_at universals loans value p l
gathered_all universals loans value word run count block gathered all p l at_run at_word =
    let place : 64 * word + l % 64 ≡ l = omega (arith, at_word) in
    elim (cases_lt (l % 64) count) [
      | inl there ↦ rw place at (gathered.done (l % 64) p there at_run)
      | inr past ↦
          ap (λ (w : ℕ). is_set w (p % 64)) (gathered.rest (l % 64) past) ∙ ap (λ (b : ℕ). eqb b 1) (bit_at-zero (p % 64))
          ∙ sym (elim (cases_lt l (length loans)) [
            | inl loan ↦ absurd (let many = all (omega (arith, loan, place, past)) in omega (arith, many, past))
            | inr beyond ↦ no_loan universals loans value l p beyond
          ])
    ]

-- ---- words that are written

pub IsWritten-none : (first : ℕ) (block words : List ℕ) → IsWritten first 0 block words words
IsWritten-none first block words = record { size = refl; done = λ k low. absurd (omega (arith, low)); rest = λ i _. refl }

pub IsWritten-more : (first k here : ℕ) (block old new : List ℕ) → IsWritten first k block old new → first + k < length new → here ≡ get_or block k 0 → IsWritten first (k + 1) block old (set new (first + k) here)
IsWritten-more first k here block old new written within is = record {
  size = length-set new (first + k) here ∙ written.size;
  done = λ j low. elim (cases_eq j k) [
    | inl same ↦ rw same (get_or-set_same new (first + k) here 0 within ∙ is)
    | inr apart ↦ get_or-set_other new (first + k) (first + j) here 0 (λ e. apart (omega (arith, e))) ∙ written.done j (omega (arith, low, apart))
  ];
  rest = λ i outside. get_or-set_other new (first + k) i here 0 (λ e. let out = outside (omega (arith, e)) in omega (arith, e, out)) ∙ written.rest i (λ from. let out = outside from in omega (arith, out));
}

-- ---- what is known

-- a run that was known
pub AreTold-again : (inside : ℕ → ℕ → Bool) (word : ℕ) (words : List ℕ) (old new : List (List Bool)) (run : ℕ) → AreTold inside word words old → IsInserted old new 0 run → holds old 0 run ≡ true → AreTold inside word words new
AreTold-again inside word words old new run told inserted before = record {
  some = omega (arith, told.some, inserted.rows);
  long = told.long ∙ ap (λ (n : ℕ). 64 * n) (sym (inserted.sizes 0));
  are = λ point loan h at. elim (cases_eq (point / 64) run) [
    | inl here ↦ told.are point loan (rw here before) at
    | inr away ↦ told.are point loan (sym (inserted.only 0 (point / 64) (λ _ here. away here)) ∙ h) at
  ];
}

-- a run that becomes known
pub AreTold-more : (inside : ℕ → ℕ → Bool) (word run : ℕ) (words more block : List ℕ) (old new : List (List Bool)) → AreTold inside word words old → IsInserted old new 0 run → IsWritten (64 * run) 64 block words more →
    ((p l : ℕ) → p / 64 ≡ run → l / 64 ≡ word → is_set (get_or block (p % 64) 0) (l % 64) ≡ inside p l) → AreTold inside word more new
AreTold-more inside word run words more block old new told inserted written is = record {
  some = omega (arith, told.some, inserted.rows);
  long = written.size ∙ told.long ∙ ap (λ (n : ℕ). 64 * n) (sym (inserted.sizes 0));
  are = λ point loan h at. elim (cases_eq (point / 64) run) [
    | inl here ↦
        let place : 64 * run + point % 64 ≡ point = omega (arith, here) in
        ap (λ (w : ℕ). is_set w (loan % 64)) (rw place at (written.done (point % 64) (omega arith))) ∙ is point loan here at
    | inr away ↦
        ap (λ (w : ℕ). is_set w (loan % 64)) (written.rest point (λ from. omega (arith, from, away)))
        ∙ told.are point loan (sym (inserted.only 0 (point / 64) (λ _ here. away here)) ∙ h) at
  ];
}

pub AreTold-none : (inside : ℕ → ℕ → Bool) (word : ℕ) (words : List ℕ) (runs : List (List Bool)) → length runs ≡ 1 → length words ≡ 64 * length (row runs 0) → ((n f : ℕ) → holds runs n f ≡ false) → AreTold inside word words runs
AreTold-none inside word words runs one long empty = record {
  some = omega (arith, one);
  long = long;
  are = λ point loan h _. absurd (let none = empty 0 (point / 64) in cc);
}

-- ---- words of loans as sets

-- a word that says which of its loans pass a test
pub word_same : (word value : ℕ) (test : ℕ → Bool) → ((l : ℕ) → l / 64 ≡ word → is_set value (l % 64) ≡ test l) → (l : ℕ) → word_has word value l ≡ ((l / 64 == word) && test l)
word_same word value test is l = elim (cases_eq (l / 64) word) [
  | inl at ↦ ap (λ (b : Bool). (l / 64 == word) && b) (is l at)
  | inr apart ↦ ap (λ (b : Bool). b && is_set value (l % 64)) (ne_eqb (l / 64) word apart) ∙ sym (ap (λ (b : Bool). b && test l) (ne_eqb (l / 64) word apart))
]

both_of : (in_run here inside : Bool) → (in_run && (here && inside)) ≡ ((in_run && here) && inside)
both_of true here inside = refl
both_of false here inside = refl

-- a word that is masked
pub word_within : (word here mask : ℕ) (inside : ℕ → Bool) → ((l : ℕ) → l / 64 ≡ word → is_set mask (l % 64) ≡ inside l) → (l : ℕ) → word_has word (bit_and here mask) l ≡ (word_has word here l && inside l)
word_within word here mask inside is l = elim (cases_eq (l / 64) word) [
  | inl at ↦
      ap (λ (b : Bool). (l / 64 == word) && b) (is_set_and here mask (l % 64) ∙ ap (λ (b : Bool). is_set here (l % 64) && b) (is l at))
      ∙ both_of (l / 64 == word) (is_set here (l % 64)) (inside l)
  | inr apart ↦
      ap (λ (b : Bool). b && is_set (bit_and here mask) (l % 64)) (ne_eqb (l / 64) word apart)
      ∙ sym (ap (λ (b : Bool). (b && is_set here (l % 64)) && inside l) (ne_eqb (l / 64) word apart))
]

-- the same numbers were added, by another test
pub added_same : (old new : List (List Bool)) (node : ℕ) (one other : ℕ → Bool) → ((l : ℕ) → one l ≡ other l) → AreAdded old new node one → AreAdded old new node other
added_same old new node one other same added = record {
  rows = added.rows;
  others = added.others;
  size = added.size;
  members = λ l. added.members l ∙ ap (λ (b : Bool). holds old node l || b) (same l);
}
