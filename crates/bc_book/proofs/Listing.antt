-- What is found for all roots that hold a body.
use Rattle.std.proofs.Common.{◌≡◌, Bool, false, true≢false, List, [], ◌∷◌, ◌++◌, cond, refl, ap, sym, subst, ◌∙◌, Option, Some, None}
use Rattle.std.specs.Prelude.{IsSome, is_some}
use Rattle.std.specs.Option.{ForSome}
use Rattle.std.specs.List.{AllByRecursion, Contains}
use Rattle.std.proofs.lemmas.List.{append-nil}
use Rattle.std.specs.Map.{keys_of}
use Rattle.std.specs.BTreeMap.{is_at, insert_entry}
use Rattle.bc_names.specs.Names.{NameParts, name_order, is_same_name}
use Rattle.bc_names.proofs.Equality.{name}
use Rattle.bc_prov.specs.declared.outcome.Outcome.{Outcome}
use Rattle.bc_prov.specs.State.{at_name}
use Rattle.bc_prov.specs.Outcome.{IsOutcomeIn}
use Rattle.bc_outcomes.proofs.Unique.{one_outcome}
use Rattle.bc_memo.specs.declared.memo.Remembered.{Remembered}
use Rattle.bc_memo.specs.Places.{ShelfView, roots_in}
use Rattle.bc_memo.specs.Memos.{IsRemembered}
use Rattle.bc_memo.proofs.Marking.{other_name}
use Rattle.bc_memo.proofs.Places.{at_name-put, by_bool, put_here, same_name}
use Rattle.bc_calls.specs.declared.call.Entry.{Entry}
use Rattle.bc_calls.specs.Calls.{IsListing, after}
use Rattle.bc_calls.specs.Answers.{IsShelfOf}
use Rattle.bc_calls.specs.Beginnings.{AreRoots}
use Rattle.bc_calls.proofs.Roots.{roots_held}
use Rattle.bc_book.proofs.Keeping.{held_at, named, some_unit}
use Rattle.bc_book.specs.Ledgers.{AreRows, IsFoundAll, IsRow, Recalls, RemembersEach, remembering, row_list}
use Rattle.bc_book.proofs.Remembering.{right_now}

-- ---- rows of names

-- what holds of all rows holds of the one that is found at a name
pub each_at : {V : Type 0} (P : NameParts → V → Type 0) (rows : List (NameParts × V)) (n : NameParts) (v : V) → AllByRecursion (λ (r : NameParts × V). P r.0 r.1) rows → at_name rows n ≡ Some v → P n v
each_at P [] n v all at = absurd (cc)
each_at {V} P (r ∷ rows) n v all at = by_bool (is_at (name_order n) r.0)
    (λ is.
    let same : r.1 ≡ v = (let e : Some r.1 ≡ Some v = sym (ap (λ (b : Bool). cond b (Some r.1) (at_name rows n)) is) ∙ at in cc) in
    subst (λ (x : NameParts × V). P x.0 x.1) (λ i. (sym ((same_name n r.0).0 is) i, same i)) all.0)
    (λ is. each_at P rows n v all.1 (sym (ap (λ (b : Bool). cond b (Some r.1) (at_name rows n)) is) ∙ at))

pub all_snoc : {X : Type 0} (P : X → Type 0) (xs : List X) (x : X) → AllByRecursion P xs → P x → AllByRecursion P (xs ++ x ∷ [])
all_snoc P [] x all is = (is, tt)
all_snoc P (y ∷ xs) x all is = (all.0, all_snoc P xs x all.1 is)

pub all_append : {X : Type 0} (P : X → Type 0) (xs ys : List X) → AllByRecursion P xs → AllByRecursion P ys → AllByRecursion P (xs ++ ys)
all_append P [] ys all are = are
all_append P (x ∷ xs) ys all are = (all.0, all_append P xs ys all.1 are)

pub all_map : {X : Type 0} (P Q : X → Type 0) (xs : List X) → ((x : X) → P x → Q x) → AllByRecursion P xs → AllByRecursion Q xs
all_map P Q [] f all = tt
all_map P Q (x ∷ xs) f all = (f x all.0, all_map P Q xs f all.1)

-- ---- what is remembered after more rows

pub remembering-snoc : (rows answers : List (NameParts × Remembered)) (r : NameParts × Remembered) → remembering (rows ++ r ∷ []) answers ≡ insert_entry name_order (remembering rows answers) r.0 r.1
remembering-snoc [] answers r = refl
remembering-snoc (q ∷ rows) answers r = remembering-snoc rows (insert_entry name_order answers q.0 q.1) r

-- one more row leaves what is remembered: a name has one outcome
pub put_keeps : (s : ShelfView) (h : List Entry) (answers : List (NameParts × Remembered)) (m : NameParts) (r : Remembered) (n : NameParts) (o : Outcome) → IsRow s h m r → IsOutcomeIn (after h) n o
    → IsRemembered s answers n (Some o) → IsRemembered s (insert_entry name_order answers m r) n (Some o)
put_keeps s h answers m r n o row right was = by_bool (is_same_name m n)
    (λ is.
    let same : m ≡ n = (name m n).0 is in
    let now : IsOutcomeIn (after h) n r.outcome = subst (λ (k : NameParts). IsOutcomeIn (after h) k r.outcome) same (right_now s h m r row.right row.stands) in
    (r, at_name-put m r n answers ∙ ap (λ (b : Bool). cond b (Some r) (at_name answers n)) is, row.stands, one_outcome (after h) n o r.outcome right now))
    (λ is. (was.0, at_name-put m r n answers ∙ ap (λ (b : Bool). cond b (Some r) (at_name answers n)) is ∙ was.1, was.2, was.3))

pub rows_keep : (s : ShelfView) (h : List Entry) (rows answers : List (NameParts × Remembered)) (n : NameParts) (o : Outcome) → AreRows s h rows → IsOutcomeIn (after h) n o
    → IsRemembered s answers n (Some o) → IsRemembered s (remembering rows answers) n (Some o)
rows_keep s h [] answers n o are right was = was
rows_keep s h (r ∷ rows) answers n o are right was = rows_keep s h rows (insert_entry name_order answers r.0 r.1) n o are.1 right (put_keeps s h answers r.0 r.1 n o are.0 right was)

-- ---- what is found, after one more outcome

-- a listed name stays listed after one more row
listed_more : (listing : List (NameParts × Outcome)) (x : NameParts × Outcome) (n : NameParts) → IsSome (at_name listing n) → IsSome (at_name (listing ++ x ∷ []) n)
listed_more [] x n some = absurd (true≢false (sym some))
listed_more (r ∷ listing) x n some = by_bool (is_at (name_order n) r.0)
    (λ is. ap (λ (b : Bool). is_some (cond b (Some r.1) (at_name (listing ++ x ∷ []) n))) is)
    (λ is. ap (λ (b : Bool). is_some (cond b (Some r.1) (at_name (listing ++ x ∷ []) n))) is ∙ listed_more listing x n (sym (ap (λ (b : Bool). is_some (cond b (Some r.1) (at_name listing n))) is) ∙ some))

listed_last : (listing : List (NameParts × Outcome)) (n : NameParts) (o : Outcome) → IsSome (at_name (listing ++ (n, o) ∷ []) n)
listed_last [] n o = ap (λ (b : Bool). is_some (cond b (Some o) None)) ((same_name n n).1 refl)
listed_last (r ∷ listing) n o = by_bool (is_at (name_order n) r.0)
    (λ is. ap (λ (b : Bool). is_some (cond b (Some r.1) (at_name (listing ++ (n, o) ∷ []) n))) is)
    (λ is. ap (λ (b : Bool). is_some (cond b (Some r.1) (at_name (listing ++ (n, o) ∷ []) n))) is ∙ listed_last listing n o)

pub found_none : (s : ShelfView) (h : List Entry) (answers : List (NameParts × Remembered)) → IsFoundAll s h answers [] []
found_none s h answers = record { right = tt; rows = tt; named = tt; remembered = tt }

-- for a name whose outcome is remembered
pub found_recalled : (s : ShelfView) (h : List Entry) (answers : List (NameParts × Remembered)) (listing : List (NameParts × Outcome)) (rows : List (NameParts × Remembered)) (n : NameParts) (o : Outcome)
    → IsOutcomeIn (after h) n o → IsRemembered s answers n (Some o) → IsFoundAll s h answers listing rows → IsFoundAll s h answers (listing ++ (n, o) ∷ []) rows
found_recalled s h answers listing rows n o right remembered found = record {
  right = all_snoc _ listing (n, o) found.right right;
  rows = found.rows;
  named = all_map _ _ rows (λ r. listed_more listing (n, o) r.0) found.named;
  remembered = all_snoc _ listing (n, o) found.remembered (rows_keep s h rows answers n o found.rows right remembered);
}

both_map : {X : Type 0} (P Q R : X → Type 0) (xs : List X) → ((x : X) → P x → Q x → R x) → AllByRecursion P xs → AllByRecursion Q xs → AllByRecursion R xs
both_map P Q R [] f all are = tt
both_map P Q R (x ∷ xs) f all are = (f x all.0 are.0, both_map P Q R xs f all.1 are.1)

-- for a name whose outcome is to be remembered
pub found_row : (s : ShelfView) (h : List Entry) (answers : List (NameParts × Remembered)) (listing : List (NameParts × Outcome)) (rows : List (NameParts × Remembered)) (n : NameParts) (o : Outcome) (r : NameParts × Remembered)
    → IsOutcomeIn (after h) n o → r.0 ≡ n → r.1.outcome ≡ o → IsRow s h r.0 r.1 → IsFoundAll s h answers listing rows → IsFoundAll s h answers (listing ++ (n, o) ∷ []) (rows ++ r ∷ [])
found_row s h answers listing rows n o r right named same row found = record {
  right = all_snoc _ listing (n, o) found.right right;
  rows = all_snoc _ rows r found.rows row;
  named = all_snoc _ rows r (all_map _ _ rows (λ q. listed_more listing (n, o) q.0) found.named) (subst (λ (k : NameParts). IsSome (at_name (listing ++ (n, o) ∷ []) k)) (sym named) (listed_last listing n o));
  remembered =
      subst (λ (all : List (NameParts × Remembered)). RemembersEach s all (listing ++ (n, o) ∷ [])) (sym (remembering-snoc rows answers r))
      (all_snoc _ listing (n, o)
      (both_map _ _ _ listing (λ x is was. put_keeps s h (remembering rows answers) r.0 r.1 x.0 x.1 row is was) found.right found.remembered)
      (r.1, put_here r.0 r.1 n (remembering rows answers) (sym named), row.stands, sym same));
}

-- for a name whose outcome is remembered already, or is to be
pub found_more : (s : ShelfView) (h : List Entry) (answers : List (NameParts × Remembered)) (listing : List (NameParts × Outcome)) (rows : List (NameParts × Remembered)) (n : NameParts) (o : Outcome) (row : Option (NameParts × Remembered))
    → IsSome (at_name s.places n) → IsOutcomeIn (after h) n o → Recalls s answers n o row → ForSome row (λ r. (r.0 ≡ n) × IsRow s h r.0 r.1) → IsFoundAll s h answers listing rows
    → IsFoundAll s h answers (listing ++ (n, o) ∷ []) (rows ++ row_list row)
found_more s h answers listing rows n o None held right recalls is found =
    subst (λ (all : List (NameParts × Remembered)). IsFoundAll s h answers (listing ++ (n, o) ∷ []) all) (sym (append-nil rows)) (found_recalled s h answers listing rows n o right (recalls held) found)
found_more s h answers listing rows n o (Some r) held right recalls is found = found_row s h answers listing rows n o r right (is r refl).0 recalls.1 (is r refl).1 found

-- ---- what is remembered of names that are not listed

pub unlisted_kept : (listing : List (NameParts × Outcome)) (rows answers : List (NameParts × Remembered)) (n : NameParts) → AllByRecursion (λ (r : NameParts × Remembered). IsSome (at_name listing r.0)) rows
    → is_some (at_name listing n) ≡ false → at_name (remembering rows answers) n ≡ at_name answers n
unlisted_kept listing [] answers n named absent = refl
unlisted_kept listing (r ∷ rows) answers n named absent =
    unlisted_kept listing rows (insert_entry name_order answers r.0 r.1) n named.1 absent
    ∙ at_name-put r.0 r.1 n answers
    ∙ ap (λ (b : Bool). cond b (Some r.1) (at_name answers n)) (other_name r.0 n (λ (same : r.0 ≡ n). absurd (true≢false (sym named.0 ∙ ap (λ (k : NameParts). is_some (at_name listing k)) same ∙ absent))))

-- ---- the reply to an ask for all

-- the outcomes of exactly the roots that hold a body, in their order, are the listing
pub listing_of : (s : ShelfView) (h : List Entry) (listing : List (NameParts × Outcome)) → IsShelfOf s h → keys_of listing ≡ roots_in s.places
    → AllByRecursion (λ (r : NameParts × Outcome). IsOutcomeIn (after h) r.0 r.1) listing → IsListing (after h) listing
listing_of s h listing of names right =
    let roots : AreRoots (after h) (keys_of listing) = subst (λ (ns : List NameParts). AreRoots (after h) ns) (sym names) (roots_held s h of) in
    record {
      ordered = roots.ascending;
      listed = λ n o at. (
          let root = (roots.just n).1 (named listing n (ap is_some at)) in
          (root.0, root.1, each_at (λ (k : NameParts) (x : Outcome). IsOutcomeIn (after h) k x) listing n o right at));
      whole = λ n bare held. (let t = (roots.just n).0 (bare, held) in held_at listing n t.0 t.1 t.2);
    }

-- a name among these roots holds a body
pub root_held : (s : ShelfView) (h : List Entry) (names : List NameParts) (n : NameParts) → IsShelfOf s h → names ≡ roots_in s.places → Contains names n → IsSome (at_name s.places n)
root_held s h names n of is among =
    let root = ((roots_held s h of).just n).1 (subst (λ (ns : List NameParts). Contains ns n) is among) in
    sym (some_unit (at_name s.places n)) ∙ ap is_some (of.bodies n) ∙ root.1
