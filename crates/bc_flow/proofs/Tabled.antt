-- What the words of a table say about its rows.
use Rattle.std.proofs.Common.{◌≡◌, ℕ, ◌+◌, ◌-◌, ◌*◌, ◌/◌, ◌%◌, ◌^◌, ◌<◌, ◌≤◌, Bool, true, false, not, ◌||◌, ◌&&◌, eqb, List, [], length, get_or, set, take, drop, ◌++◌, min, inl, inr, refl, sym, ap, ◌∙◌, arith, w64, suc}
use Rattle.std.specs.Prelude.{bit_or, bit_and}
use Rattle.std.specs.Int.{bit_at, bit_not}
use Rattle.std.proofs.Math.Nat.{mul-le-mul_right, suc-mul}
use Rattle.std.proofs.lemmas.Grind.{get_or_default_zero}
use Rattle.std.proofs.lemmas.Bool.{cases_lt, cases_eq}
use Rattle.std.proofs.lemmas.List.{get_or_past, length-set, get_or-set_same, get_or-set_other, ext_get_or}
use Rattle.std.proofs.lemmas.List.FromFn.{length-map-range_with_len, get_or-map-range_with_len}
use Rattle.std.proofs.lemmas.Nat.Bits.{bit_at-zero, bit_at-lt, shr_and_one, bit_at_or, bit_at_and, bit_at_not, and_pow}
use Rattle.std.proofs.lemmas.Nat.{one_shl, pow_pos}
use Rattle.bc_flow.specs.BitSet.{has, absent_count}
use Rattle.bc_flow.specs.Packed.{bit, is_set}
use Rattle.bc_flow.specs.Flow.{row, holds, HaveSize}
use Rattle.bc_flow.specs.Tabled.{row_of, table_of, IsTable}
use Rattle.bc_flow.proofs.Members.{same_from_absent, word_from_bits, refilled, or_bits, min_below, without_bits, word_with, bit-set_same, bit-set_other, same_by_has, not_one}
use Rattle.bc_flow.proofs.Filled.{bit_is, same_word}
use Rattle.bc_flow.proofs.Words.{Differs, Differs-more}

-- ---- places

-- the words of a lower row end before those of a higher one
pub rows_apart : (n m w : ℕ) → n < m → n * w + w ≤ m * w
rows_apart n m w h =
    let le : suc n ≤ m = omega (arith, h) in
    let p : suc n * w ≤ m * w = mul-le-mul_right w le in
    let q : suc n * w ≡ n * w + w = suc-mul n w in
    omega (arith, p, q)

-- a bit of a row that begins at word `at`
pub bit_place : (words : List ℕ) (at i : ℕ) → bit words (64 * at + i) ≡ eqb (bit_at (get_or words (at + i / 64) 0) (i % 64)) 1
unfolding bit
bit_place words at i =
    let q : (64 * at + i) / 64 ≡ at + i / 64 = omega arith in
    let m : (64 * at + i) % 64 ≡ i % 64 = omega arith in
    rw (q, m) refl

-- ---- one row

pub length-row_of : (size : ℕ) (words : List ℕ) (at : ℕ) → length (row_of size words at) ≡ size
unfolding row_of
length-row_of size words at = length-map-range_with_len (λ i. bit words (64 * at + i)) 0 size

pub has-row_of : (size : ℕ) (words : List ℕ) (at i : ℕ) → i < size → has (row_of size words at) i ≡ bit words (64 * at + i)
unfolding row_of
has-row_of size words at i h = get_or-map-range_with_len (λ k. bit words (64 * at + k)) 0 size i i false h (omega arith)

pub has-row_of_past : (size : ℕ) (words : List ℕ) (at i : ℕ) → size ≤ i → has (row_of size words at) i ≡ false
has-row_of_past size words at i h = get_or_past (row_of size words at) i false (omega (arith, length-row_of size words at))

pub same_row : (size : ℕ) (new : List ℕ) (to : ℕ) (old : List ℕ) (at : ℕ) → ((i : ℕ) → i < size → bit new (64 * to + i) ≡ bit old (64 * at + i)) → row_of size new to ≡ row_of size old at
same_row size new to old at each =
    ext_get_or false (row_of size new to) (row_of size old at) (length-row_of size new to ∙ sym (length-row_of size old at))
    (λ i h.
    let below : i < size = omega (arith, length-row_of size new to) in
    has-row_of size new to i below ∙ (each i below ∙ sym (has-row_of size old at i below)))

-- ---- all rows

pub length-table_of : (rows width size : ℕ) (words : List ℕ) → length (table_of rows width size words) ≡ rows
unfolding table_of
length-table_of rows width size words = length-map-range_with_len (λ n. row_of size words (n * width)) 0 rows

pub get_or-table_of : (rows width size : ℕ) (words : List ℕ) (n : ℕ) (d : List Bool) → n < rows → get_or (table_of rows width size words) n d ≡ row_of size words (n * width)
unfolding table_of
get_or-table_of rows width size words n d h = get_or-map-range_with_len (λ k. row_of size words (k * width)) 0 rows n n d h (omega arith)

pub sizes_of : (rows width size : ℕ) (words : List ℕ) → HaveSize size (table_of rows width size words)
sizes_of rows width size words = λ k d h.
    let within : k < rows = omega (arith, length-table_of rows width size words) in
    ap length (get_or-table_of rows width size words k d within) ∙ length-row_of size words (k * width)

pub holds_at : (rows width size : ℕ) (words : List ℕ) (n f : ℕ) → n < rows → f < size → holds (table_of rows width size words) n f ≡ bit words (64 * (n * width) + f)
holds_at rows width size words n f h p = ap (λ t. has t f) (get_or-table_of rows width size words n [] h) ∙ has-row_of size words (n * width) f p

pub holds_past : (rows width size : ℕ) (words : List ℕ) (n f : ℕ) → n < rows → size ≤ f → holds (table_of rows width size words) n f ≡ false
holds_past rows width size words n f h p = ap (λ t. has t f) (get_or-table_of rows width size words n [] h) ∙ has-row_of_past size words (n * width) f p

pub holds_none : (rows width size : ℕ) (words : List ℕ) (n f : ℕ) → rows ≤ n → holds (table_of rows width size words) n f ≡ false
holds_none rows width size words n f h = ap (λ t. has t f) (get_or_past (table_of rows width size words) n [] (omega (arith, length-table_of rows width size words)))

-- ---- the same for the value

pub rows_is : {rows width size : ℕ} {words : List ℕ} {table : List (List Bool)} → IsTable rows width size words → table_of rows width size words ≡ table → rows ≡ length table
rows_is {rows} {width} {size} {words} t view = sym (length-table_of rows width size words) ∙ ap length view

pub size_is : {rows width size : ℕ} {words : List ℕ} {table : List (List Bool)} → IsTable rows width size words → table_of rows width size words ≡ table → (n : ℕ) → n < length table → length (row table n) ≡ size
size_is {rows} {width} {size} {words} t view n h =
    let within : n < rows = omega (arith, rows_is t view) in
    ap (λ v. length (row v n)) (sym view) ∙ (ap length (get_or-table_of rows width size words n [] within) ∙ length-row_of size words (n * width))

-- rows of the same size have as many words
pub same_width : {rows width size rows2 width2 size2 : ℕ} {old kills : List ℕ} {table killed : List (List Bool)} → IsTable rows width size old → table_of rows width size old ≡ table →
    IsTable rows2 width2 size2 kills → table_of rows2 width2 size2 kills ≡ killed → (to kill : ℕ) → to < length table → kill < length killed → HaveSize (length (row table to)) killed → width2 ≡ width
same_width t view t2 view2 to kill h k sizes = omega (arith, t.wide, t2.wide, size_is t view to h, size_is t2 view2 kill k, sizes kill [] k)

pub row_in : {rows width size : ℕ} {words : List ℕ} {table : List (List Bool)} → IsTable rows width size words → table_of rows width size words ≡ table → (n : ℕ) → n < length table → n * width + width ≤ length words
row_in {rows} {width} t view n h = omega (arith, rows_apart n rows width (omega (arith, h, rows_is t view)), t.count)

pub apart_in : (from to width : ℕ) → (from ≡ to → ⊥) → (k : ℕ) → k < width → (from * width + k < to * width → ⊥) → to * width + width ≤ from * width + k
apart_in from to width apart k h before = elim (cases_lt from to) [
  | inl lower ↦ absurd (before (omega (arith, h, rows_apart from to width lower)))
  | inr not_lower ↦ omega (arith, rows_apart to from width (omega (arith, not_lower, apart)))
]

pub word_in : {rows width size : ℕ} {words : List ℕ} → IsTable rows width size words → (n i : ℕ) → n < rows → i < size → n * width + i / 64 < length words
word_in {rows} {width} {size} {words} t n i h p = omega (arith, rows_apart n rows width h, t.count, t.wide)

-- a number of a row is in one of the words
pub cell_in : {rows width size : ℕ} {words : List ℕ} {table : List (List Bool)} → IsTable rows width size words → table_of rows width size words ≡ table → (n i : ℕ) → n < length table → i < length (row table n) → n * width + i / 64 < length words
cell_in t view n i h p = word_in t n i (omega (arith, h, rows_is t view)) (omega (arith, p, size_is t view n h))

pub test_cell : {rows width size : ℕ} {words : List ℕ} {table : List (List Bool)} → IsTable rows width size words → table_of rows width size words ≡ table → (n i w : ℕ) → n < rows → i < size →
    w ≡ get_or words (n * width + i / 64) w → eqb (bit_and (w / 2 ^ (i % 64)) 1) 1 ≡ holds table n i
test_cell {rows} {width} {size} {words} {table} t view n i w h p e =
    let f : w ≡ get_or words (n * width + i / 64) 0 = e ∙ get_or_default_zero words (n * width + i / 64) w (word_in t n i h p) in
    rw (shr_and_one w (i % 64), f) (sym (bit_place words (n * width) i) ∙ (sym (holds_at rows width size words n i h p) ∙ ap (λ v. holds v n i) view))

pub no_row : {rows width size : ℕ} {words : List ℕ} {table : List (List Bool)} → IsTable rows width size words → table_of rows width size words ≡ table → (n f : ℕ) → rows ≤ n → holds table n f ≡ false
no_row {rows} {width} {size} {words} t view n f h = ap (λ v. holds v n f) (sym view) ∙ holds_none rows width size words n f h

pub no_fact : {rows width size : ℕ} {words : List ℕ} {table : List (List Bool)} → IsTable rows width size words → table_of rows width size words ≡ table → (n f : ℕ) → n < rows → size ≤ f → holds table n f ≡ false
no_fact {rows} {width} {size} {words} t view n f h p = ap (λ v. holds v n f) (sym view) ∙ holds_past rows width size words n f h p

-- ---- the empty table

zero_bit : (words : List ℕ) → ((k : ℕ) → get_or words k 0 ≡ 0) → (i : ℕ) → bit words i ≡ false
zero_bit words zeros i = bit_is words i (i / 64) 0 refl (zeros (i / 64)) ∙ ap (λ t. eqb t 1) (bit_at-zero (i % 64))

pub IsTable-zeros : (rows width size : ℕ) (words : List ℕ) → length words ≡ rows * width → width ≡ size / 64 + min 1 (size % 64) → ((k : ℕ) → get_or words k 0 ≡ 0) → IsTable rows width size words
IsTable-zeros rows width size words count wide zeros = record { count = count; wide = omega (arith, wide); clean = λ n i _ _ _. zero_bit words zeros (64 * (n * width) + i) }

pub holds-zeros : (rows width size : ℕ) (words : List ℕ) → ((k : ℕ) → get_or words k 0 ≡ 0) → (n f : ℕ) → holds (table_of rows width size words) n f ≡ false
holds-zeros rows width size words zeros n f = elim (cases_lt n rows) [
  | inr past ↦ holds_none rows width size words n f past
  | inl h ↦ elim (cases_lt f size) [
    | inr past ↦ holds_past rows width size words n f h past
    | inl p ↦ holds_at rows width size words n f h p ∙ zero_bit words zeros (64 * (n * width) + f)
  ]
]

-- ---- one row written

-- the words of all other rows are unchanged
abbrev pub OthersKept : ℕ → ℕ → List ℕ → List ℕ → Type 0
OthersKept at width new old = (j : ℕ) → (at ≤ j → at + width ≤ j) → get_or new j 0 ≡ get_or old j 0

kept_bits : (new old : List ℕ) (to n width i : ℕ) → OthersKept (to * width) width new old → (n ≡ to → ⊥) → i < 64 * width → bit new (64 * (n * width) + i) ≡ bit old (64 * (n * width) + i)
kept_bits new old to n width i others apart h = same_word new old (64 * (n * width) + i) (others ((64 * (n * width) + i) / 64) (λ after. elim (cases_lt n to) [
  | inl lower ↦ absurd (omega (arith, rows_apart n to width lower, after, h))
  | inr not_lower ↦ omega (arith, rows_apart to n width (omega (arith, not_lower, apart)), h)
]))

pub record IsRowWritten (rows width size : ℕ) (new : List ℕ) (table : List (List Bool)) (to : ℕ) : Type 0 where
  pub packed : IsTable rows width size new
  pub length_is : length (table_of rows width size new) ≡ length table
  pub others : table_of rows width size new ≡ set table to (row (table_of rows width size new) to)
  pub size_is : length (row (table_of rows width size new) to) ≡ length (row table to)

pub row_written : {rows width size : ℕ} {old : List ℕ} {table : List (List Bool)} (new : List ℕ) (to : ℕ) → IsTable rows width size old → table_of rows width size old ≡ table → to < length table →
    length new ≡ length old → OthersKept (to * width) width new old → ((i : ℕ) → size ≤ i → i < 64 * width → bit new (64 * (to * width) + i) ≡ false) → IsRowWritten rows width size new table to
row_written {rows} {width} {size} {old} {table} new to t view h same others clean =
    let is = rows_is t view in
    let here : to < rows = omega (arith, is) in
    let count : length (table_of rows width size new) ≡ length table = length-table_of rows width size new ∙ is in
    let long : size ≤ 64 * width = omega (arith, t.wide) in
    record {
      packed = record {
        count = same ∙ t.count;
        wide = t.wide;
        clean = λ n i p q r. elim (cases_eq n to) [
          | inl e ↦ rw e (clean i q r)
          | inr e ↦ kept_bits new old to n width i others e r ∙ t.clean n i p q r
        ];
      };
      length_is = count;
      others = ext_get_or [] (table_of rows width size new) (set table to (row (table_of rows width size new) to)) (count ∙ sym (length-set table to (row (table_of rows width size new) to)))
          (λ n p. elim (cases_eq n to) [
            | inl e ↦ rw e (sym (get_or-set_same table to (row (table_of rows width size new) to) [] h))
            | inr e ↦
                let below : n < rows = omega (arith, length-table_of rows width size new) in
                get_or-table_of rows width size new n [] below ∙
                (same_row size new (n * width) old (n * width) (λ i q. kept_bits new old to n width i others e (omega (arith, long))) ∙
                (sym (get_or-table_of rows width size old n [] below) ∙
                (ap (λ v. row v n) view ∙ sym (get_or-set_other table to n (row (table_of rows width size new) to) [] e))))
          ]);
      size_is = sizes_of rows width size new to [] (omega (arith, length-table_of rows width size new)) ∙ sym (size_is t view to h);
    }

-- numbers were added to the row
pub record IsRowJoined (rows width size : ℕ) (items new old : List ℕ) (table : List (List Bool)) (to : ℕ) (added : ℕ → Bool) : Type 0 where
  pub written : IsRowWritten rows width size items table to
  pub members : (f : ℕ) → holds (table_of rows width size items) to f ≡ (holds table to f || added f)
  pub grown : (k : ℕ) × (get_or new k 0 < 2 ^ 64) × (get_or old k 0 < 2 ^ 64) × (get_or new k 0 ≡ get_or old k 0 → ⊥) → absent_count (row (table_of rows width size items) to) < absent_count (row table to)

pub row_joined_words : {rows width size : ℕ} {old : List ℕ} {table : List (List Bool)} (new : List ℕ) (to : ℕ) (added : ℕ → Bool) → IsTable rows width size old → table_of rows width size old ≡ table → to < length table →
    length new ≡ length old → OthersKept (to * width) width new old →
    ((i : ℕ) → i < 64 * width → bit new (64 * (to * width) + i) ≡ (bit old (64 * (to * width) + i) || added i)) → ((i : ℕ) → size ≤ i → added i ≡ false) →
    IsRowJoined rows width size new new old table to added
row_joined_words {rows} {width} {size} {old} {table} new to added t view h same others bits none =
    let here : to < rows = omega (arith, rows_is t view) in
    let long : size ≤ 64 * width = omega (arith, t.wide) in
    let written = row_written new to t view h same others (λ i p q. bits i q ∙ rw (t.clean to i here p q, none i p) refl) in
    let row_new : row (table_of rows width size new) to ≡ row_of size new (to * width) = get_or-table_of rows width size new to [] here in
    let row_old : row table to ≡ row_of size old (to * width) = ap (λ v. row v to) (sym view) ∙ get_or-table_of rows width size old to [] here in
    let members : (f : ℕ) → holds (table_of rows width size new) to f ≡ (holds table to f || added f) =
    λ f. elim (cases_lt f size) [
      | inl p ↦ holds_at rows width size new to f here p ∙ (bits f (omega (arith, long, p)) ∙ ap (λ b. b || added f) (sym (holds_at rows width size old to f here p) ∙ ap (λ v. holds v to f) view))
      | inr p ↦ holds_past rows width size new to f here p ∙ (rw (no_fact t view to f here p, none f p) refl)
    ] in
    record {
      written = written;
      members = members;
      grown = λ (k, small_new, small_old, differs). elim (cases_lt (absent_count (row (table_of rows width size new) to)) (absent_count (row table to))) [
        | inl less ↦ less
        | inr not_less ↦
            let more : (i : ℕ) → has (row table to) i ≡ true → has (row (table_of rows width size new) to) i ≡ true = λ i e. members i ∙ ap (λ b. b || added i) e in
            let equal : row table to ≡ row (table_of rows width size new) to = (same_from_absent (row table to) (row (table_of rows width size new) to) (sym written.size_is) more).1 not_less in
            let rows_equal : row_of size new (to * width) ≡ row_of size old (to * width) = sym row_new ∙ (sym equal ∙ row_old) in
            let inside : (i : ℕ) → i < 64 * width → bit new (64 * (to * width) + i) ≡ bit old (64 * (to * width) + i) = λ i p. elim (cases_lt i size) [
              | inl q ↦ sym (has-row_of size new (to * width) i q) ∙ (ap (λ r. has r i) rows_equal ∙ has-row_of size old (to * width) i q)
              | inr q ↦ written.packed.clean to i here q p ∙ sym (t.clean to i here q p)
            ] in
            let all : (i : ℕ) → bit new i ≡ bit old i = λ i. elim (cases_lt i (64 * (to * width))) [
              | inl before ↦ same_word new old i (others (i / 64) (λ after. absurd (omega (arith, after, before))))
              | inr from ↦ elim (cases_lt i (64 * (to * width) + 64 * width)) [
                | inl within ↦
                    let e : 64 * (to * width) + (i - 64 * (to * width)) ≡ i = omega (arith, from) in
                    rw e at (inside (i - 64 * (to * width)) (omega (arith, from, within)))
                | inr past ↦ same_word new old i (others (i / 64) (λ _. omega (arith, past)))
              ]
            ] in
            absurd (differs (word_from_bits new old k small_new small_old all))
      ];
    }

-- the words were lent out and came back
pub row_joined : {rows width size : ℕ} {old : List ℕ} {table : List (List Bool)} (len : ℕ) (new : List ℕ) (to : ℕ) (added : ℕ → Bool) → IsTable rows width size old → table_of rows width size old ≡ table → to < length table →
    len ≡ length old → length new ≡ length old → OthersKept (to * width) width new old →
    ((i : ℕ) → i < 64 * width → bit new (64 * (to * width) + i) ≡ (bit old (64 * (to * width) + i) || added i)) → ((i : ℕ) → size ≤ i → added i ≡ false) →
    IsRowJoined rows width size (take len (new ++ drop (length new) old)) new old table to added
row_joined len new to added t view h whole same others bits none =
    rw (refilled len new _ same whole) (row_joined_words new to added t view h same others bits none)

-- ---- the loop over the words of one row

pub done_more : (words : List ℕ) (to k v : ℕ) (g : ℕ → ℕ) → to + k < length words → ((j : ℕ) → j < k → get_or words (to + j) 0 ≡ g j) → v ≡ g k →
    (j : ℕ) → j < k + 1 → get_or (set words (to + k) v) (to + j) 0 ≡ g j
done_more words to k v g within done is j below = elim (cases_eq j k) [
  | inl e ↦ rw e (get_or-set_same words (to + k) v 0 within ∙ is)
  | inr e ↦ get_or-set_other words (to + k) (to + j) v 0 (λ q. e (omega (arith, q))) ∙ done j (omega (arith, below, e))
]

pub rest_more : (words old : List ℕ) (to k v : ℕ) → ((j : ℕ) → (to ≤ j → to + k ≤ j) → get_or words j 0 ≡ get_or old j 0) →
    (j : ℕ) → (to ≤ j → to + (k + 1) ≤ j) → get_or (set words (to + k) v) j 0 ≡ get_or old j 0
rest_more words old to k v rest j outside =
    get_or-set_other words (to + k) j v 0 (λ q. let p = outside (omega (arith, q)) in omega (arith, p, q)) ∙ rest j (λ after. let p = outside after in omega (arith, p))

pub differs_more : (words old : List ℕ) (to k v : ℕ) (changed : Bool) → (changed ≡ true → Differs words old (to + k)) →
    to + k < length words → get_or words (to + k) 0 ≡ get_or old (to + k) 0 → v < 2 ^ 64 → get_or old (to + k) 0 < 2 ^ 64 →
    (changed || not (eqb v (get_or words (to + k) 0))) ≡ true → Differs (set words (to + k) v) old (to + (k + 1))
differs_more words old to k v changed earlier within here small small_old h =
    let p = Differs-more words old (to + k) v changed earlier within here small small_old h in
    (p.0, omega (arith, p.1), p.2, p.3, p.4)

-- ---- two rows joined

pub cell_is : {rows width size : ℕ} {words : List ℕ} {table : List (List Bool)} → IsTable rows width size words → table_of rows width size words ≡ table → (n i : ℕ) → n < rows → i < 64 * width →
    bit words (64 * (n * width) + i) ≡ holds table n i
cell_is {rows} {width} {size} {words} t view n i h p = elim (cases_lt i size) [
  | inl q ↦ sym (holds_at rows width size words n i h q) ∙ ap (λ v. holds v n i) view
  | inr q ↦ t.clean n i h q p ∙ sym (no_fact t view n i h q)
]

joined_bits : (new old : List ℕ) (to from i : ℕ) → get_or new (to + i / 64) 0 ≡ bit_or (get_or old (to + i / 64) 0) (get_or old (from + i / 64) 0) →
    bit new (64 * to + i) ≡ (bit old (64 * to + i) || bit old (64 * from + i))
joined_bits new old to from i word =
    rw (bit_place new to i, bit_place old to i, bit_place old from i, word, bit_at_or (get_or old (to + i / 64) 0) (get_or old (from + i / 64) 0) (i % 64))
    (or_bits _ _ (bit_at-lt _ _) (bit_at-lt _ _))

joined_bits_without : (new old kills : List ℕ) (to from kill i : ℕ) → get_or kills (kill + i / 64) 0 < 2 ^ 64 →
    get_or new (to + i / 64) 0 ≡ bit_or (get_or old (to + i / 64) 0) (bit_and (get_or old (from + i / 64) 0) (bit_not w64 (get_or kills (kill + i / 64) 0))) →
    bit new (64 * to + i) ≡ (bit old (64 * to + i) || (bit old (64 * from + i) && not (bit kills (64 * kill + i))))
joined_bits_without new old kills to from kill i small word =
    rw (
      bit_place new to i,
      bit_place old to i,
      bit_place old from i,
      bit_place kills kill i,
      word,
      bit_at_or (get_or old (to + i / 64) 0) (bit_and (get_or old (from + i / 64) 0) (bit_not w64 (get_or kills (kill + i / 64) 0))) (i % 64),
      bit_at_and (get_or old (from + i / 64) 0) (bit_not w64 (get_or kills (kill + i / 64) 0)) (i % 64),
      bit_at_not w64 (get_or kills (kill + i / 64) 0) (i % 64) small (omega arith),
    )
    (or_bits _ _ (bit_at-lt _ _) (min_below _ _ (bit_at-lt _ _)) ∙ ap (λ t. eqb (bit_at (get_or old (to + i / 64) 0) (i % 64)) 1 || t) (without_bits _ _ (bit_at-lt _ _) (bit_at-lt _ _)))

pub union_table : {rows width size : ℕ} {old : List ℕ} {table : List (List Bool)} (len : ℕ) (new : List ℕ) (to from : ℕ) → IsTable rows width size old → table_of rows width size old ≡ table →
    to < length table → from < length table → len ≡ length old → length new ≡ length old → OthersKept (to * width) width new old →
    ((k : ℕ) → k < width → get_or new (to * width + k) 0 ≡ bit_or (get_or old (to * width + k) 0) (get_or old (from * width + k) 0)) →
    IsRowJoined rows width size (take len (new ++ drop (length new) old)) new old table to (holds table from)
union_table {rows} {width} {size} {old} {table} len new to from t view h g whole same others words =
    let there : from < rows = omega (arith, g, rows_is t view) in
    row_joined len new to (holds table from) t view h whole same others
    (λ i p. joined_bits new old (to * width) (from * width) i (words (i / 64) (omega (arith, p))) ∙ ap (λ b. bit old (64 * (to * width) + i) || b) (cell_is t view from i there p))
    (λ i p. no_fact t view from i there p)

pub union_table_without : {rows width size rows2 width2 size2 : ℕ} {old kills : List ℕ} {table killed : List (List Bool)} (len : ℕ) (new : List ℕ) (to from kill : ℕ) → IsTable rows width size old → table_of rows width size old ≡ table →
    IsTable rows2 width2 size2 kills → table_of rows2 width2 size2 kills ≡ killed → HaveSize (length (row table to)) killed →
    to < length table → from < length table → kill < length killed → len ≡ length old → length new ≡ length old → OthersKept (to * width) width new old →
    ((k : ℕ) → get_or kills k 0 < 2 ^ 64) →
    ((k : ℕ) → k < width → get_or new (to * width + k) 0 ≡ bit_or (get_or old (to * width + k) 0) (bit_and (get_or old (from * width + k) 0) (bit_not w64 (get_or kills (kill * width2 + k) 0)))) →
    IsRowJoined rows width size (take len (new ++ drop (length new) old)) new old table to (λ f. holds table from f && not (holds killed kill f))
union_table_without {rows} {width} {size} {rows2} {width2} {size2} {old} {kills} {table} {killed} len new to from kill t view t2 view2 sizes h g k whole same others small words =
    let there : from < rows = omega (arith, g, rows_is t view) in
    let killing : kill < rows2 = omega (arith, k, rows_is t2 view2) in
    let wide : width2 ≡ width = same_width t view t2 view2 to kill h k sizes in
    row_joined len new to (λ f. holds table from f && not (holds killed kill f)) t view h whole same others
    (λ i p. joined_bits_without new old kills (to * width) (from * width) (kill * width2) i (small (kill * width2 + i / 64)) (words (i / 64) (omega (arith, p))) ∙
    (ap (λ b. bit old (64 * (to * width) + i) || (b && not (bit kills (64 * (kill * width2) + i)))) (cell_is t view from i there p) ∙
    ap (λ b. bit old (64 * (to * width) + i) || (holds table from i && not b)) (cell_is t2 view2 kill i killing (omega (arith, p, wide)))))
    (λ i p. ap (λ b. b && not (holds killed kill i)) (no_fact t view from i there p))

-- ---- one number added

pub record IsInserted (rows width size w : ℕ) (new : List ℕ) (table : List (List Bool)) (to e : ℕ) : Type 0 where
  pub written : IsRowWritten rows width size new table to
  pub row_is : row (table_of rows width size new) to ≡ set (row table to) e true
  pub added : eqb (bit_and w (1 * 2 ^ (e % 64) % 2 ^ 64)) 0 ≡ not (holds table to e)

pub inserted : {rows width size : ℕ} {words : List ℕ} {table : List (List Bool)} → IsTable rows width size words → table_of rows width size words ≡ table → (to e w : ℕ) → to < length table → e < length (row table to) →
    w ≡ get_or words (to * width + e / 64) w → IsInserted rows width size w (set words (to * width + e / 64) (word_with w e)) table to e
inserted {rows} {width} {size} {words} {table} t view to e w h below is =
    let here : to < rows = omega (arith, h, rows_is t view) in
    let p : e < size = omega (arith, below, size_is t view to h) in
    let at : ℕ = to * width in
    let within : at + e / 64 < length words = word_in t to e here p in
    let f : w ≡ get_or words (at + e / 64) 0 = is ∙ get_or_default_zero words (at + e / 64) w within in
    let q : (64 * at + e) / 64 ≡ at + e / 64 = omega arith in
    let m : (64 * at + e) % 64 ≡ e % 64 = omega arith in
    let new : List ℕ = set words (at + e / 64) (word_with w e) in
    let on : bit new (64 * at + e) ≡ true = rw (q, m) at (bit-set_same words (64 * at + e) w (rw q within)) in
    let off : (i : ℕ) → (i ≡ e → ⊥) → bit new (64 * at + i) ≡ bit words (64 * at + i) =
    λ i differs. rw f (rw (q, m) at (bit-set_other words (64 * at + e) (64 * at + i) (rw q within) (λ same. differs (omega (arith, same))))) in
    let wide = t.wide in
    let written = row_written new to t view h (length-set words (at + e / 64) (word_with w e))
    (λ j outside. get_or-set_other words (at + e / 64) j (word_with w e) 0 (λ same. let o = outside (omega (arith, same)) in omega (arith, same, o, p, wide)))
    (λ i low high. off i (λ same. omega (arith, same, low, p)) ∙ t.clean to i here low high) in
    let row_is : row (table_of rows width size new) to ≡ set (row table to) e true =
    same_by_has (row (table_of rows width size new) to) (set (row table to) e true) (written.size_is ∙ sym (length-set (row table to) e true))
    (λ i. elim (cases_eq i e) [
      | inl same ↦ rw same (holds_at rows width size new to e here p ∙ (on ∙ sym (get_or-set_same (row table to) e true false (omega (arith, p, size_is t view to h)))))
      | inr differs ↦ elim (cases_lt i size) [
        | inl below ↦ holds_at rows width size new to i here below ∙ (off i differs ∙ (sym (holds_at rows width size words to i here below) ∙ (ap (λ v. holds v to i) view ∙ sym (get_or-set_other (row table to) e i true false differs))))
        | inr past ↦ holds_past rows width size new to i here past ∙ (sym (no_fact t view to i here past) ∙ sym (get_or-set_other (row table to) e i true false differs))
      ]
    ]) in
    record {
      written = written;
      row_is = row_is;
      added = rw (one_shl (e % 64) 64 (omega arith), and_pow w (e % 64), f)
          (not_one (bit_at (get_or words (at + e / 64) 0) (e % 64)) (2 ^ (e % 64)) (bit_at-lt _ _) (pow_pos (e % 64)) ∙ ap not (sym (bit_place words at e) ∙ (sym (holds_at rows width size words to e here p) ∙ ap (λ v. holds v to e) view)));
    }

-- ---- one word of a row

pub word_of : {rows width size : ℕ} {words : List ℕ} {table : List (List Bool)} → IsTable rows width size words → table_of rows width size words ≡ table → (n index w : ℕ) → n < length table → 64 * index < length (row table n) →
    w ≡ get_or words (n * width + index) w → (i : ℕ) → i / 64 ≡ index → holds table n i ≡ is_set w (i % 64)
word_of {rows} {width} {size} {words} {table} t view n index w h p is i at =
    let wide = t.wide in
    let within : n * width + index < length words = omega (arith, cell_in t view n (64 * index) h p) in
    let f : w ≡ get_or words (n * width + index) 0 = is ∙ get_or_default_zero words (n * width + index) w within in
    let inside : i < 64 * width = omega (arith, at, wide, p, size_is t view n h) in
    sym (cell_is t view n i (omega (arith, h, rows_is t view)) inside) ∙ (bit_place words (n * width) i ∙ rw (at, f) refl)

pub record IsWordSet (rows width size index value : ℕ) (new : List ℕ) (table : List (List Bool)) (to : ℕ) : Type 0 where
  pub written : IsRowWritten rows width size new table to
  pub word : (i : ℕ) → i / 64 ≡ index → holds (table_of rows width size new) to i ≡ is_set value (i % 64)
  pub rest : (i : ℕ) → (i / 64 ≡ index → ⊥) → holds (table_of rows width size new) to i ≡ holds table to i

pub word_set : {rows width size : ℕ} {words : List ℕ} {table : List (List Bool)} → IsTable rows width size words → table_of rows width size words ≡ table → (to index value : ℕ) → to < length table → 64 * index < length (row table to) →
    ((i : ℕ) → i / 64 ≡ index → length (row table to) ≤ i → is_set value (i % 64) ≡ false) → IsWordSet rows width size index value (set words (to * width + index) value) table to
word_set {rows} {width} {size} {words} {table} t view to index value h below clean =
    let here : to < rows = omega (arith, h, rows_is t view) in
    let sized = size_is t view to h in
    let p : 64 * index < size = omega (arith, below, sized) in
    let at : ℕ = to * width in
    let wide = t.wide in
    let within : at + index < length words = omega (arith, rows_apart to rows width here, t.count, wide, p) in
    let new : List ℕ = set words (at + index) value in
    let on : (i : ℕ) → i / 64 ≡ index → bit new (64 * at + i) ≡ is_set value (i % 64) = λ i e. bit_place new at i ∙ rw (e, get_or-set_same words (at + index) value 0 within) refl in
    let off : (i : ℕ) → (i / 64 ≡ index → ⊥) → bit new (64 * at + i) ≡ bit words (64 * at + i) =
    λ i e. bit_place new at i ∙ (rw (get_or-set_other words (at + index) (at + i / 64) value 0 (λ q. e (omega (arith, q)))) (sym (bit_place words at i))) in
    let written = row_written new to t view h (length-set words (at + index) value)
    (λ j outside. get_or-set_other words (at + index) j value 0 (λ same. let o = outside (omega (arith, same)) in omega (arith, same, o, p, wide)))
    (λ i low high. elim (cases_eq (i / 64) index) [ inl e ↦ on i e ∙ clean i e (omega (arith, low, sized)) | inr e ↦ off i e ∙ t.clean to i here low high ]) in
    record {
      written = written;
      word = λ i e. sym (cell_is written.packed refl to i here (omega (arith, e, wide, p))) ∙ on i e;
      rest = λ i e. elim (cases_lt i size) [
        | inl below ↦ holds_at rows width size new to i here below ∙ (off i e ∙ (sym (holds_at rows width size words to i here below) ∙ ap (λ v. holds v to i) view))
        | inr past ↦ holds_past rows width size new to i here past ∙ sym (no_fact t view to i here past)
      ];
    }
