-- The text of a name is read back segment by segment.
use Rattle.std.proofs.Common.{◌≡◌, ℕ, ◌+◌, ◌-◌, ◌*◌, ◌/◌, ◌%◌, ◌<◌, ◌≤◌, Bool, true, false, not, ◌&&◌, ◌||◌, cond, eqb, List, [], ◌∷◌, ◌++◌, length, drop, slice_index, refl, sym, ap, ◌∙◌, subst, inl, inr, append_assoc, nat_le, nat_lt, ◌==◌, arith}
use Rattle.std.specs.Prelude.{decimal, Option, Some, None, IfSome}
use Rattle.std.specs.Bool.{then_some}
use Rattle.std.specs.Char.{is_ascii_digit}
use Rattle.std.specs.List.{AllByRecursion, flat_map, list_all, take_while, prefix_len}
use Rattle.std.proofs.lemmas.Fmt.{decimal_digit, decimal_step}
use Rattle.std.proofs.lemmas.Bool.{cases_lt, and_parts, or_parts, not-false, eqb-true, eqb-false, both_ways, and_from, le-leb, lt-ltb, leb-true, ltb-true, cond_both}
use Rattle.std.proofs.lemmas.Bool.Decides.{nat_tests}
use Rattle.std.proofs.lemmas.Option.{cond_some}
use Rattle.std.proofs.lemmas.List.{take-append-drop, append-nil, length-append, drop_at, flat_map_more, nil_from_length}
use Rattle.std.proofs.lemmas.List.Folds.{length-prefix_len}
use Rattle.std.proofs.lemmas.List.Sums.{take_while-cons}
use Rattle.bc_syntax.specs.Bytes.{is_run_byte, run}
use Rattle.bc_names.specs.Names.{NameParts, IsName, is_root, segment_text, name_text, first_segment}
use Rattle.bc_names.proofs.Cells.{fits-push}

digit_is : (n : ℕ) → n < 10 → is_ascii_digit (48 + n) ≡ true
digit_is n h = grind (arith, nat_tests)

digit_from : (b : ℕ) → is_ascii_digit b ≡ true → (48 ≤ b) × (b ≤ 57)
digit_from b h = grind (arith, nat_tests)

two_digits : (n : ℕ) → 10 ≤ n → n < 100 → decimal n ≡ (48 + n / 10) ∷ (48 + n % 10) ∷ []
two_digits n h l = decimal_step n h (omega arith) ∙ ap (λ (ds : List ℕ). ds ++ (48 + n % 10) ∷ []) (decimal_digit (n / 10) (omega arith))

-- ---- a segment that is spelled is found

one_first : (n : ℕ) (rest : List ℕ) → n < 10 → is_ascii_digit (slice_index rest 0) ≡ false → first_segment (47 ∷ (48 + n) ∷ rest) ≡ Some (n, 2)
one_first n rest h other =
    let e : 48 + n - 48 ≡ n = omega arith in
    rw (digit_is n h, other) (ap (λ k. Some (k, 2)) e)

two_first : (n : ℕ) (rest : List ℕ) → 10 ≤ n → n < 100 → first_segment (47 ∷ (48 + n / 10) ∷ (48 + n % 10) ∷ rest) ≡ Some (n, 3)
two_first n rest h l =
    let a : n / 10 < 10 = omega arith in
    let b : n % 10 < 10 = omega arith in
    let other : eqb (48 + n / 10) 48 ≡ false = grind (arith, nat_tests) in
    let e : 10 * (48 + n / 10 - 48) + (48 + n % 10 - 48) ≡ n = omega arith in
    rw (digit_is (n / 10) a, digit_is (n % 10) b, other) (ap (λ k. Some (k, 3)) e)

pub segment_first : (n : ℕ) (rest : List ℕ) → n ≤ 63 → is_ascii_digit (slice_index rest 0) ≡ false → (first_segment (segment_text n ++ rest) ≡ Some (n, length (segment_text n)))
segment_first n rest le other =
    elim (cases_lt n 10) [
      | inl h ↦ rw (decimal_digit n h) (one_first n rest h other)
      | inr h ↦ rw (two_digits n h (omega arith)) (two_first n rest h (omega arith))
    ]

-- ---- a segment that is found is spelled

front_two : (bytes : List ℕ) (a b : ℕ) → slice_index bytes 0 ≡ a → slice_index bytes 1 ≡ b → 0 < a → 0 < b → bytes ≡ a ∷ b ∷ drop 2 bytes
front_two [] a b ea eb ha hb = absurd (omega arith)
front_two (x ∷ []) a b ea eb ha hb = absurd (omega arith)
front_two (x ∷ y ∷ ys) a b ea eb ha hb = cc

front_three : (bytes : List ℕ) (a b d : ℕ) → slice_index bytes 0 ≡ a → slice_index bytes 1 ≡ b → slice_index bytes 2 ≡ d → 0 < a → 0 < b → 0 < d → bytes ≡ a ∷ b ∷ d ∷ drop 3 bytes
front_three [] a b d ea eb ed ha hb hd = absurd (omega arith)
front_three (x ∷ []) a b d ea eb ed ha hb hd = absurd (omega arith)
front_three (x ∷ y ∷ []) a b d ea eb ed ha hb hd = absurd (omega arith)
front_three (x ∷ y ∷ z ∷ zs) a b d ea eb ed ha hb hd = cc

abbrev Found : List ℕ → Option (ℕ × ℕ) → Type 0
Found bytes None = Unit {0}
Found bytes (Some s) = (bytes ≡ segment_text s.0 ++ drop s.1 bytes) × (0 < s.1) × (s.0 < 100)

pub segment_found : (bytes : List ℕ) → Found bytes (first_segment bytes)
segment_found bytes =
    let a : ℕ = slice_index bytes 1 in
    let b : ℕ = slice_index bytes 2 in
    cond_both (slice_index bytes 0 == 47 && is_ascii_digit a) (cond (not (is_ascii_digit b) || a == 48) (Some (a - 48, 2)) (Some (10 * (a - 48) + (b - 48), 3))) None (Found bytes)
    (λ ha.
    let parts = and_parts _ _ ha in
    let slash : slice_index bytes 0 ≡ 47 = eqb-true _ _ parts.0 in
    let da = digit_from a parts.1 in
    cond_both (not (is_ascii_digit b) || a == 48) (Some (a - 48, 2)) (Some (10 * (a - 48) + (b - 48), 3)) (Found bytes)
    (λ hb.
    let small : a - 48 < 10 = omega (arith, da) in
    let e : 48 + (a - 48) ≡ a = omega (arith, da) in
    (front_two bytes 47 a slash refl (omega arith) (omega (arith, da)) ∙ ap (λ (ds : List ℕ). 47 ∷ (ds ++ drop 2 bytes)) (sym (decimal_digit (a - 48) small ∙ ap (λ k. k ∷ []) e)), omega arith, omega (arith, small)))
    (λ hb.
    let others = or_parts _ _ hb in
    let db = digit_from b (not-false _ others.0) in
    let some : a ≡ 48 → ⊥ = eqb-false _ _ others.1 in
    let n : ℕ = 10 * (a - 48) + (b - 48) in
    let low : 10 ≤ n = omega (arith, da, db, some) in
    let high : n < 100 = omega (arith, da, db) in
    let ea : 48 + n / 10 ≡ a = omega (arith, da, db) in
    let eb : 48 + n % 10 ≡ b = omega (arith, da, db) in
    let two : decimal n ≡ a ∷ b ∷ [] = two_digits n low high ∙ ap (λ k. k ∷ (48 + n % 10) ∷ []) ea ∙ ap (λ k. a ∷ k ∷ []) eb in
    (front_three bytes 47 a b slash refl refl (omega arith) (omega (arith, da)) (omega (arith, db)) ∙ ap (λ (ds : List ℕ). 47 ∷ (ds ++ drop 3 bytes)) (sym two), omega arith, high)))
    (λ _. tt)

-- ---- roots

all-front : (p : ℕ → Bool) (xs ys : List ℕ) → list_all p xs ≡ true → p (slice_index ys 0) ≡ false → take_while p (xs ++ ys) ≡ xs
all-front p [] [] h other = refl
all-front p [] (y ∷ ys) h other = take_while-cons p y ys ∙ rw other refl
all-front p (x ∷ xs) ys h other =
    let parts = and_parts (p x) (list_all p xs) h in
    take_while-cons p x (xs ++ ys) ∙ rw (parts.0) (ap (λ (zs : List ℕ). x ∷ zs) (all-front p xs ys parts.1 other))

no_run : (segments : List ℕ) → is_run_byte (slice_index (flat_map segment_text segments) 0) ≡ false
no_run [] = refl
no_run (k ∷ ks) = refl

no_digit : (segments : List ℕ) → is_ascii_digit (slice_index (flat_map segment_text segments) 0) ≡ false
no_digit [] = refl
no_digit (k ∷ ks) = refl

run_is : (p : NameParts) → IsName p → run (name_text p) ≡ p.root
run_is p h = all-front is_run_byte p.root (flat_map segment_text p.segments) (and_parts _ _ h.root).1 (no_run p.segments)

run_and_rest : (bytes : List ℕ) → bytes ≡ run bytes ++ drop (length (run bytes)) bytes
run_and_rest bytes =
    sym (take-append-drop (prefix_len is_run_byte bytes) bytes) ∙ ap (λ n. run bytes ++ drop n bytes) (sym (length-prefix_len is_run_byte bytes))

-- ---- the loop that reads

abbrev pub with_segments : NameParts → List ℕ → NameParts
with_segments name segments = record { root = name.root; segments = segments }

-- the name becomes `whole` with the segments that the rest spells
abbrev pub GoesOn : NameParts → List ℕ → NameParts → Type 0
GoesOn name rest whole = (more : List ℕ) × (whole ≡ with_segments name (name.segments ++ more)) × (rest ≡ flat_map segment_text more)

pub record Reads (bytes rest : List ℕ) (name : NameParts) : Type 0 where
  pub is_name : IsName name
  pub text : bytes ≡ name_text name ++ rest
  pub only : (whole : NameParts) → IsName whole → bytes ≡ name_text whole → GoesOn name rest whole

pub reads_root : (bytes : List ℕ) → is_root (run bytes) ≡ true → Reads bytes (drop (length (run bytes)) bytes) (record { root = run bytes; segments = [] })
reads_root bytes h = record {
  is_name = record { root = h; depth = omega arith; segments = tt };
  text = run_and_rest bytes ∙ ap (λ (r : List ℕ). r ++ drop (length (run bytes)) bytes) (sym (append-nil (run bytes)));
  only = λ whole is e.
      let r : run bytes ≡ whole.root = ap run e ∙ run_is whole is in (
        whole.segments,
        ap (λ (root : List ℕ). record { root = root; segments = whole.segments }) (sym r),
        ap (λ (root : List ℕ). drop (length root) bytes) r ∙ ap (λ (bs : List ℕ). drop (length whole.root) bs) e ∙ drop_at whole.root (flat_map segment_text whole.segments) (length whole.root) refl,
      );
}

pub no_root : (bytes : List ℕ) → is_root (run bytes) ≡ false → (whole : NameParts) → IsName whole → bytes ≡ name_text whole → ⊥
no_root bytes h whole is e = both_ways _ h (ap is_root (ap run e ∙ run_is whole is) ∙ is.root)

fits-behind : (xs : List ℕ) (k : ℕ) (ks : List ℕ) → AllByRecursion (λ number. number ≤ 63) (xs ++ k ∷ ks) → k ≤ 63
fits-behind [] k ks h = h.0
fits-behind (x ∷ xs) k ks h = fits-behind xs k ks h.1

-- the next segment is one of the whole name
abbrev Next : NameParts → List ℕ → NameParts → ℕ × ℕ → Type 0
Next name rest whole s = (ks : List ℕ) × (whole ≡ with_segments name (name.segments ++ s.0 ∷ ks)) × (drop s.1 rest ≡ flat_map segment_text ks)

next_is : (name whole : NameParts) (rest : List ℕ) (more : List ℕ) (s : ℕ × ℕ) → IsName whole → whole ≡ with_segments name (name.segments ++ more) → rest ≡ flat_map segment_text more → first_segment rest ≡ Some s → Next name rest whole s
next_is name whole rest [] s is e r f =
    let none : first_segment rest ≡ None = ap first_segment r in
    absurd cc
next_is name whole rest (k ∷ ks) s is e r f =
    let le : k ≤ 63 = fits-behind name.segments k ks (subst (λ (w : NameParts). AllByRecursion (λ number. number ≤ 63) w.segments) e is.segments) in
    let one : first_segment rest ≡ Some (k, length (segment_text k)) = ap first_segment r ∙ segment_first k (flat_map segment_text ks) le (no_digit ks) in
    let same : (k, length (segment_text k)) ≡ s = cc in
    subst (Next name rest whole) same
    (ks, e, ap (λ (bs : List ℕ). drop (length (segment_text k)) bs) r ∙ drop_at (segment_text k) (flat_map segment_text ks) (length (segment_text k)) refl)

pub reads_segment : (bytes rest : List ℕ) (name : NameParts) (n len : ℕ) → Reads bytes rest name → first_segment rest ≡ Some (n, len) → n ≤ 63 → length name.segments < 7
    → Reads bytes (drop len rest) (with_segments name (name.segments ++ n ∷ []))
reads_segment bytes rest name n len h f le few = record {
  is_name = record { root = h.is_name.root; depth = omega (arith, length-append name.segments (n ∷ [])); segments = fits-push name.segments n h.is_name.segments le };
  text =
      let found : Found rest (Some (n, len)) = subst (Found rest) f (segment_found rest) in
      h.text ∙ ap (λ (bs : List ℕ). name_text name ++ bs) found.0
      ∙ sym (append_assoc (name_text name) (segment_text n) (drop len rest))
      ∙ ap (λ (bs : List ℕ). bs ++ drop len rest) (append_assoc name.root (flat_map segment_text name.segments) (segment_text n) ∙ ap (λ (bs : List ℕ). name.root ++ bs) (flat_map_more segment_text [] name.segments n));
  only = λ whole is e.
      let goes = h.only whole is e in
      let next = next_is name whole rest goes.0 (n, len) is goes.1 goes.2 f in
      (next.0, next.1 ∙ ap (with_segments name) (sym (append_assoc name.segments (n ∷ []) next.0)), next.2);
}

pub no_child : (bytes rest : List ℕ) (name : NameParts) (n len : ℕ) → Reads bytes rest name → first_segment rest ≡ Some (n, len) → (nat_le n 63 && nat_lt (length name.segments) 7) ≡ false
    → (whole : NameParts) → IsName whole → bytes ≡ name_text whole → ⊥
no_child bytes rest name n len h f refused whole is e =
    let goes = h.only whole is e in
    let next = next_is name whole rest goes.0 (n, len) is goes.1 goes.2 f in
    let le : n ≤ 63 = fits-behind name.segments n next.0 (subst (λ (w : NameParts). AllByRecursion (λ number. number ≤ 63) w.segments) next.1 is.segments) in
    let few : length name.segments < 7 = omega (arith, ap (λ (w : NameParts). length w.segments) next.1, length-append name.segments (n ∷ next.0), is.depth) in
    both_ways _ refused (and_from _ _ (le-leb n 63 le) (lt-ltb (length name.segments) 7 few))

pub reads_end : (bytes rest : List ℕ) (name : NameParts) → Reads bytes rest name → rest ≡ [] → IsName name × (bytes ≡ name_text name)
reads_end bytes rest name h e = (h.is_name, h.text ∙ ap (λ (bs : List ℕ). name_text name ++ bs) e ∙ append-nil (name_text name))

pub reads_all : (bytes rest : List ℕ) (name : NameParts) → Reads bytes rest name → first_segment rest ≡ None → (whole : NameParts) → IsName whole → bytes ≡ name_text whole → (rest ≡ []) × (name ≡ whole)
reads_all bytes rest name h f whole is e = by (h.only whole is e)
  where
    by : GoesOn name rest whole → (rest ≡ []) × (name ≡ whole)
    by ([], w, r) = (r, sym (w ∙ ap (with_segments name) (append-nil name.segments)))
    by (k ∷ ks, w, r) =
        let le : k ≤ 63 = fits-behind name.segments k ks (subst (λ (v : NameParts). AllByRecursion (λ number. number ≤ 63) v.segments) w is.segments) in
        let one : first_segment rest ≡ Some (k, length (segment_text k)) = ap first_segment r ∙ segment_first k (flat_map segment_text ks) le (no_digit ks) in
        absurd cc

-- ---- what the calls in `read` returned

none_test : {A : Type 0} (b : Bool) (x : A) → cond b (Some x) None ≡ None → b ≡ false
none_test true x e = absurd cc
none_test false x e = refl

abbrev rooted : List ℕ → Option NameParts
rooted root = cond (is_root root) (Some (record { root = root; segments = [] })) None

abbrev grown : NameParts → ℕ → Option NameParts
grown name n = cond (nat_le n 63 && nat_lt (length name.segments) 7) (Some (with_segments name (name.segments ++ n ∷ []))) None

pub starts : (bytes root rest : List ℕ) (name : NameParts) → root ≡ run bytes → rest ≡ drop (length root) bytes → rooted root ≡ Some name → Reads bytes rest name
starts bytes root rest name r d o =
    let t = cond_some (is_root root) (record { root = root; segments = [] }) name o in
    let h = reads_root bytes (subst (λ (s : List ℕ). is_root s ≡ true) r t.0) in
    let same : rest ≡ drop (length (run bytes)) bytes = d ∙ ap (λ (s : List ℕ). drop (length s) bytes) r in
    subst (λ (bs : List ℕ). Reads bytes bs name) (sym same)
    (subst (Reads bytes (drop (length (run bytes)) bytes)) (ap (λ (s : List ℕ). record { root = s; segments = [] }) (sym r) ∙ t.1) h)

pub starts_not : (bytes root : List ℕ) → root ≡ run bytes → rooted root ≡ None → (whole : NameParts) → IsName whole → bytes ≡ name_text whole → ⊥
starts_not bytes root r o = no_root bytes (subst (λ (s : List ℕ). is_root s ≡ false) r (none_test (is_root root) (record { root = root; segments = [] }) o))

pub goes_on : (bytes rest more : List ℕ) (name next : NameParts) (n len : ℕ) → Reads bytes rest name → first_segment rest ≡ Some (n, len) → more ≡ drop len rest → grown name n ≡ Some next → Reads bytes more next
goes_on bytes rest more name next n len h f d o =
    let t = cond_some (nat_le n 63 && nat_lt (length name.segments) 7) (with_segments name (name.segments ++ n ∷ [])) next o in
    let parts = and_parts (nat_le n 63) (nat_lt (length name.segments) 7) t.0 in
    subst (λ (bs : List ℕ). Reads bytes bs next) (sym d)
    (subst (Reads bytes (drop len rest)) t.1 (reads_segment bytes rest name n len h f (leb-true n 63 parts.0) (ltb-true (length name.segments) 7 parts.1)))

pub goes_not : (bytes rest : List ℕ) (name : NameParts) (n len : ℕ) → Reads bytes rest name → first_segment rest ≡ Some (n, len) → grown name n ≡ None → (whole : NameParts) → IsName whole → bytes ≡ name_text whole → ⊥
goes_not bytes rest name n len h f o = no_child bytes rest name n len h f (none_test (nat_le n 63 && nat_lt (length name.segments) 7) (with_segments name (name.segments ++ n ∷ [])) o)

pub ends : (bytes rest : List ℕ) (name : NameParts) (b : Bool) → Reads bytes rest name → b ≡ (length rest == 0) → IfSome (then_some b name) (λ n. IsName n × (bytes ≡ name_text n))
ends bytes rest name true h e = reads_end bytes rest name h (nil_from_length rest (eqb-true (length rest) 0 (sym e)))
ends bytes rest name false h e = tt

pub ends_whole : (rest : List ℕ) (name whole : NameParts) (b : Bool) → b ≡ (length rest == 0) → (rest ≡ []) × (name ≡ whole) → then_some b name ≡ Some whole
ends_whole rest name whole b e h =
    let t : b ≡ true = e ∙ ap (λ (r : List ℕ). length r == 0) h.0 in
    ap (λ (c : Bool). then_some c name) t ∙ ap (λ (n : NameParts). Some n) h.1
