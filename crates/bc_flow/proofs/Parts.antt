-- The words of one row, lent out as a part of the block.
use Rattle.std.proofs.Common.{◌≡◌, ℕ, ◌+◌, ◌-◌, ◌*◌, ◌/◌, ◌%◌, ◌<◌, ◌≤◌, Bool, false, ◌||◌, ◌&&◌, nat_lt, List, length, get_or, take, drop, ◌++◌, inl, inr, refl, sym, ap, ◌∙◌, arith}
use borrow.Rule.Slice.PartMut.{put_mid}
use Rattle.std.proofs.lemmas.Bool.{cases_lt, lt-ltb, le-ltb}
use Rattle.std.proofs.lemmas.List.{get_or_past, length-append, length-take-le, length-drop, get_or_append_left, get_or-append_right, get_or-take, get_or-drop}
use Rattle.std.proofs.lemmas.List.Edits.{get_or-between}
use Rattle.bc_flow.specs.BitSet.{has}
use Rattle.bc_flow.specs.Packed.{bit, bits_of, IsPacked}
use Rattle.bc_flow.specs.Flow.{row, holds, AreAdded}
use Rattle.bc_flow.specs.Tabled.{row_of, table_of, IsTable}
use Rattle.bc_flow.proofs.Filled.{bit-past}
use Rattle.bc_flow.proofs.Members.{length-bits_of, has-bits_of, same_by_has}
use Rattle.bc_flow.proofs.Rows.{others_kept}
use Rattle.bc_flow.proofs.Tabled.{rows_is, size_is, row_in, has-row_of, get_or-table_of, OthersKept, IsRowJoined, row_joined, no_fact}

-- `width` words from word `at` on
abbrev pub part : ℕ → ℕ → List ℕ → List ℕ
part at width words = take (at + width - at) (drop at words)

-- the block after those words came back
abbrev pub put_back : ℕ → ℕ → List ℕ → List ℕ → List ℕ
put_back at width words new = put_mid at (at + width - at) words new

pub length-part : (at width : ℕ) (words : List ℕ) → at + width ≤ length words → length (part at width words) ≡ width
length-part at width words h = length-take-le (at + width - at) (drop at words) (omega (arith, h, length-drop at words)) ∙ (let e : at + width - at ≡ width = omega arith in e)

pub word_of_part : (at width : ℕ) (words : List ℕ) (k : ℕ) → k < width → get_or (part at width words) k 0 ≡ get_or words (at + k) 0
word_of_part at width words k h = get_or-between words at (at + width) k 0 (omega (arith, h))

pub bit-part : (at width : ℕ) (words : List ℕ) (i : ℕ) → i < 64 * width → bit (part at width words) i ≡ bit words (64 * at + i)
unfolding bit
bit-part at width words i h =
    let q : (64 * at + i) / 64 ≡ at + i / 64 = omega arith in
    let m : (64 * at + i) % 64 ≡ i % 64 = omega arith in
    rw (q, m, word_of_part at width words (i / 64) (omega (arith, h))) refl

-- ---- back in the block

-- the words before the part, and those after it
front_of : (at : ℕ) (words : List ℕ) → at ≤ length words → length (take at words) ≡ at
front_of at words h = length-take-le at words h

pub length-put : (at width : ℕ) (words new : List ℕ) → at + width ≤ length words → length new ≡ width → length (put_back at width words new) ≡ length words
length-put at width words new h same =
    let rest : List ℕ = drop (at + width - at) (drop at words) in
    omega (arith, h, same, length-append (take at words) (new ++ rest), length-append new rest, front_of at words (omega (arith, h)), length-drop (at + width - at) (drop at words), length-drop at words)

pub word_in_put : (at width : ℕ) (words new : List ℕ) (k : ℕ) → at + width ≤ length words → length new ≡ width → k < width → get_or (put_back at width words new) (at + k) 0 ≡ get_or new k 0
word_in_put at width words new k h same below =
    let rest : List ℕ = drop (at + width - at) (drop at words) in
    let e : at + k - at ≡ k = omega arith in
    get_or-append_right (take at words) (new ++ rest) at (at + k) 0 (front_of at words (omega (arith, h))) (omega arith) ∙ (ap (λ i. get_or (new ++ rest) i 0) e ∙ get_or_append_left new rest 0 k (omega (arith, below, same)))

pub others-put : (at width : ℕ) (words new : List ℕ) → at + width ≤ length words → length new ≡ width → OthersKept at width (put_back at width words new) words
others-put at width words new h same j outside =
    let rest : List ℕ = drop (at + width - at) (drop at words) in
    let front = front_of at words (omega (arith, h)) in
    elim (cases_lt j at) [
      | inl before ↦ get_or_append_left (take at words) (new ++ rest) 0 j (omega (arith, before, front)) ∙ get_or-take at words j 0 before
      | inr from ↦
          let after = outside from in
          let e : at + (at + width - at + (j - at - width)) ≡ j = omega (arith, from, after) in
          get_or-append_right (take at words) (new ++ rest) at j 0 front from ∙
          (get_or-append_right new rest width (j - at) 0 same (omega (arith, from, after)) ∙
          (get_or-drop (at + width - at) (drop at words) (j - at - width) 0 ∙
          (get_or-drop at words (at + width - at + (j - at - width)) 0 ∙ ap (λ i. get_or words i 0) e)))
    ]

pub bit-put : (at width : ℕ) (words new : List ℕ) (i : ℕ) → at + width ≤ length words → length new ≡ width → i < 64 * width → bit (put_back at width words new) (64 * at + i) ≡ bit new i
unfolding bit
bit-put at width words new i h same below =
    let q : (64 * at + i) / 64 ≡ at + i / 64 = omega arith in
    let m : (64 * at + i) % 64 ≡ i % 64 = omega arith in
    rw (q, m, word_in_put at width words new (i / 64) h same (omega (arith, below))) refl

-- ---- the part as a set

pub IsPacked-part : {rows width size : ℕ} {words : List ℕ} {table : List (List Bool)} → IsTable rows width size words → table_of rows width size words ≡ table → (n : ℕ) → n < length table →
    IsPacked size (part (n * width) width words)
IsPacked-part {rows} {width} {size} {words} t view n h =
    let long = length-part (n * width) width words (row_in t view n h) in
    record {
      count = long ∙ t.wide;
      clean = λ i past. elim (cases_lt i (64 * width)) [
        | inl inside ↦ bit-part (n * width) width words i inside ∙ t.clean n i (omega (arith, h, rows_is t view)) past inside
        | inr outside ↦ bit-past (part (n * width) width words) i (omega (arith, outside, long))
      ];
    }

pub row_of_part : {rows width size : ℕ} {words : List ℕ} {table : List (List Bool)} → IsTable rows width size words → table_of rows width size words ≡ table → (n : ℕ) → n < length table →
    bits_of size (part (n * width) width words) ≡ row table n
row_of_part {rows} {width} {size} {words} {table} t view n h =
    let packed = IsPacked-part t view n h in
    let wide = t.wide in
    let row_is : row table n ≡ row_of size words (n * width) = ap (λ v. row v n) (sym view) ∙ get_or-table_of rows width size words n _ (omega (arith, h, rows_is t view)) in
    same_by_has (bits_of size (part (n * width) width words)) (row table n) (length-bits_of size (part (n * width) width words) ∙ sym (size_is t view n h))
    (λ i. has-bits_of packed i ∙ elim (cases_lt i size) [
      | inl below ↦ bit-part (n * width) width words i (omega (arith, below, wide)) ∙ (sym (has-row_of size words (n * width) i below) ∙ ap (λ r. has r i) (sym row_is))
      | inr past ↦ packed.clean i past ∙ sym (no_fact t view n i (omega (arith, h, rows_is t view)) past)
    ])

-- a part has room for the bits of its row
pub room : {rows width size : ℕ} {words : List ℕ} {table : List (List Bool)} (lent : List ℕ) → IsTable rows width size words → table_of rows width size words ≡ table → lent ≡ words → (n : ℕ) → n < length table →
    (count : ℕ) → count ≤ length (row table n) → count ≤ 64 * length (part (n * width) width lent)
room {rows} {width} {size} {words} lent t view e n h count small =
    rw e (omega (arith, small, length-part (n * width) width words (row_in t view n h), t.wide, size_is t view n h))

-- numbers were added to a row of the words
pub added_to : {rows width size : ℕ} {items new old : List ℕ} {table : List (List Bool)} {to : ℕ} {added : ℕ → Bool} → IsRowJoined rows width size items new old table to added →
    AreAdded table (table_of rows width size items) to added
added_to {rows} {width} {size} {items} {new} {old} {table} {to} j = record {
  rows = j.written.length_is;
  others = others_kept table (table_of rows width size items) to j.written.others;
  size = j.written.size_is;
  members = j.members;
}

-- the same numbers, described in another way
pub AreAdded-same : {old new : List (List Bool)} {node : ℕ} (added wanted : ℕ → Bool) → ((f : ℕ) → added f ≡ wanted f) → AreAdded old new node added → AreAdded old new node wanted
AreAdded-same {old} {new} {node} added wanted same a = record {
  rows = a.rows;
  others = a.others;
  size = a.size;
  members = λ f. a.members f ∙ ap (λ b. holds old node f || b) (same f);
}

-- all members are below the size
pub below_size : (set : List Bool) (size : ℕ) → length set ≤ size → (f : ℕ) → (nat_lt f size && has set f) ≡ has set f
below_size set size h f = elim (cases_lt f size) [
  | inl below ↦ rw (lt-ltb f size below) refl
  | inr past ↦ rw (le-ltb f size past, get_or_past set f false (omega (arith, h, past))) refl
]

-- numbers were added to the part before it came back
abbrev pub IsPartJoined : ℕ → ℕ → ℕ → List ℕ → ℕ → List ℕ → List ℕ → List (List Bool) → ℕ → (ℕ → Bool) → Type 0
IsPartJoined rows width size old len lent new table to added =
    IsRowJoined rows width size (take len (put_back (to * width) width lent new ++ drop (length (put_back (to * width) width lent new)) old)) (put_back (to * width) width lent new) old table to added

pub part_joined : {rows width size : ℕ} {old : List ℕ} {table : List (List Bool)} (len : ℕ) (lent new : List ℕ) (to : ℕ) (added : ℕ → Bool) → IsTable rows width size old → table_of rows width size old ≡ table → lent ≡ old → to < length table →
    len ≡ length old → length new ≡ length (part (to * width) width lent) →
    ((i : ℕ) → bit new i ≡ (bit (part (to * width) width lent) i || added i)) → ((i : ℕ) → size ≤ i → added i ≡ false) →
    IsPartJoined rows width size old len lent new table to added
part_joined {rows} {width} {size} {old} {table} len lent new to added t view e h whole same bits none =
    let there = row_in t view to h in
    let long : length new ≡ width = same ∙ (ap (λ l. length (part (to * width) width l)) e ∙ length-part (to * width) width old there) in
    rw e (row_joined len (put_back (to * width) width old new) to added t view h whole (length-put (to * width) width old new there long) (others-put (to * width) width old new there long)
    (λ i p. bit-put (to * width) width old new i there long p ∙ (bits i ∙ (ap (λ l. bit (part (to * width) width l) i || added i) e ∙ ap (λ b. b || added i) (bit-part (to * width) width old i p))))
    none)

none_below : {rows width size : ℕ} {old : List ℕ} {table : List (List Bool)} → IsTable rows width size old → table_of rows width size old ≡ table → (to : ℕ) → to < length table → (count : ℕ) → count ≤ length (row table to) →
    (i : ℕ) → size ≤ i → nat_lt i count ≡ false
none_below t view to h count small i past = le-ltb i count (omega (arith, past, small, size_is t view to h))

-- the members of a set are its bits
pub member_is : {size : ℕ} {words : List ℕ} {set : List Bool} → IsPacked size words → bits_of size words ≡ set → (i : ℕ) → bit words i ≡ has set i
member_is packed view i = sym (has-bits_of packed i) ∙ ap (λ t. has t i) view

-- each number below a count was added
pub filled_row : {rows width size : ℕ} {old : List ℕ} {table : List (List Bool)} (len : ℕ) (lent new : List ℕ) (to count : ℕ) → IsTable rows width size old → table_of rows width size old ≡ table → lent ≡ old → to < length table →
    count ≤ length (row table to) → len ≡ length old → length new ≡ length (part (to * width) width lent) →
    ((i : ℕ) → bit new i ≡ (bit (part (to * width) width lent) i || nat_lt i count)) →
    IsPartJoined rows width size old len lent new table to (λ i. nat_lt i count)
filled_row {rows} {width} {size} {old} {table} len lent new to count t view e h small whole same bits =
    part_joined len lent new to (λ i. nat_lt i count) t view e h whole same bits (none_below t view to h count small)

-- the members of a set below a count were added
pub joined_row_below : {rows width size size2 : ℕ} {old from : List ℕ} {table : List (List Bool)} {set : List Bool} (len : ℕ) (lent new : List ℕ) (to count : ℕ) → IsTable rows width size old → table_of rows width size old ≡ table → lent ≡ old → to < length table →
    count ≤ length (row table to) → IsPacked size2 from → bits_of size2 from ≡ set → len ≡ length old → length new ≡ length (part (to * width) width lent) →
    ((i : ℕ) → bit new i ≡ (bit (part (to * width) width lent) i || (nat_lt i count && bit from i))) →
    IsPartJoined rows width size old len lent new table to (λ i. nat_lt i count && has set i)
joined_row_below {rows} {width} {size} {size2} {old} {from} {table} {set} len lent new to count t view e h small packed view2 whole same bits =
    part_joined len lent new to (λ i. nat_lt i count && has set i) t view e h whole same
    (λ i. bits i ∙ ap (λ b. bit (part (to * width) width lent) i || (nat_lt i count && b)) (member_is packed view2 i))
    (λ i past. ap (λ b. b && has set i) (none_below t view to h count small i past))
