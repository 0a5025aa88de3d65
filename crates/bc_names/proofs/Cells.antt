-- What stays true of the cells of a name while it is made.
use Rattle.std.proofs.Common.{◌≡◌, ℕ, zero, suc, ◌+◌, ◌-◌, ◌<◌, ◌≤◌, true, List, [], ◌∷◌, ◌++◌, length, take, drop, set, replicate, refl, sym, ap, ◌∙◌, subst, append_assoc, arith}
use Rattle.std.specs.List.{AllByRecursion}
use Rattle.std.proofs.lemmas.List.{length-append, length-replicate, take_more_set, length_push, length-take, length-take-le, take_at, take-take, drop-replicate}
use Rattle.std.proofs.Math.Seq.{set-append_seam}
use Rattle.bc_names.specs.declared.name.Name.TheInside.{Inside}
use Rattle.bc_names.specs.Names.{is_root}
use Rattle.bc_names.specs.Stored.{padded, cells, IsStored}

pub fits-push : (xs : List ℕ) (n : ℕ) → AllByRecursion (λ number. number ≤ 63) xs → n ≤ 63 → AllByRecursion (λ number. number ≤ 63) (xs ++ n ∷ [])
fits-push [] n h le = (le, tt)
fits-push (x ∷ xs) n h le = (h.0, fits-push xs n h.1 le)

-- a write just after the used cells
seam : (xs : List ℕ) (n : ℕ) → length xs < 7 → set (padded 7 xs) (length xs) n ≡ padded 7 (xs ++ n ∷ [])
seam xs n few =
    let k : 7 - length xs ≡ suc (7 - length (xs ++ n ∷ [])) = omega (arith, length_push xs n) in
    ap (λ j. set (xs ++ replicate j 0) (length xs) n) k
    ∙ set-append_seam xs 0 (replicate (7 - length (xs ++ n ∷ [])) 0) n
    ∙ sym (append_assoc xs (n ∷ []) (replicate (7 - length (xs ++ n ∷ [])) 0))

pub child_stored : (a : Inside) (n : ℕ) → IsStored a → n ≤ 63 → a.depth < 7 → IsStored (cells a.root a.root_len (set a.segments a.depth n) (a.depth + 1))
child_stored a n h le few =
    let front : List ℕ = take a.depth a.segments in
    let none : ℕ = 0 in
    let long : length a.segments ≡ 7 = sym (ap length h.segments) ∙ omega (arith, length-append front (replicate (7 - length front) none), length-replicate (7 - length front) none, h.depth, few) in
    let more : take (a.depth + 1) (set a.segments a.depth n) ≡ front ++ n ∷ [] = take_more_set a.segments a.depth n (omega arith) in
    let written : set a.segments a.depth n ≡ padded 7 (front ++ n ∷ []) =
    ap (λ (s : List ℕ). set s a.depth n) (sym h.segments)
    ∙ ap (λ d. set (padded 7 front) d n) (sym h.depth)
    ∙ seam front n (omega (arith, h.depth)) in
    record {
      root = h.root;
      root_len = h.root_len;
      segments = ap (padded 7) more ∙ sym written;
      depth = ap length more ∙ length_push front n ∙ ap (λ d. d + 1) h.depth;
      name = record {
        root = h.name.root;
        depth = omega (arith, ap length more, length_push front n, h.depth);
        segments = subst (λ (s : List ℕ). AllByRecursion (λ number. number ≤ 63) s) (sym more) (fits-push front n h.name.segments le);
      };
    }

pub root_stored : (bytes : List ℕ) → is_root bytes ≡ true → IsStored (cells (bytes ++ drop (length bytes) (replicate 32 0)) (length bytes) (replicate 7 0) 0)
root_stored bytes h =
    let front : take (length bytes) (bytes ++ drop (length bytes) (replicate 32 0)) ≡ bytes = take_at bytes (drop (length bytes) (replicate 32 0)) (length bytes) refl in
    record {
      root = ap (padded 32) front ∙ ap (λ (s : List ℕ). bytes ++ s) (sym (drop-replicate (length bytes) 32 0));
      root_len = ap length front;
      segments = refl;
      depth = refl;
      name = record {
        root = subst (λ (s : List ℕ). is_root s ≡ true) (sym front) h;
        depth = omega arith;
        segments = tt;
      };
    }

all-take : (n : ℕ) (xs : List ℕ) → AllByRecursion (λ number. number ≤ 63) xs → AllByRecursion (λ number. number ≤ 63) (take n xs)
all-take zero xs h = tt
all-take (suc n) [] h = tt
all-take (suc n) (x ∷ xs) h = (h.0, all-take n xs h.1)

-- the cells with the first segments alone
pub beginning_stored : (a : Inside) (n : ℕ) → IsStored a → n ≤ a.depth → IsStored (cells a.root a.root_len (take n a.segments ++ drop n (replicate 7 0)) n)
beginning_stored a n h within =
    let long : length (take n a.segments) ≡ n = length-take-le n a.segments (omega (arith, h.depth, length-take a.depth a.segments)) in
    let front : take n (take n a.segments ++ drop n (replicate 7 0)) ≡ take n a.segments = take_at (take n a.segments) (drop n (replicate 7 0)) n long in
    let shorter : take n (take a.depth a.segments) ≡ take n a.segments = take-take n a.depth a.segments within in
    record {
      root = h.root;
      root_len = h.root_len;
      segments = ap (padded 7) front ∙ ap (λ k. take n a.segments ++ replicate (7 - k) 0) long ∙ ap (λ (s : List ℕ). take n a.segments ++ s) (sym (drop-replicate n 7 0));
      depth = ap length front ∙ long;
      name = record {
        root = h.name.root;
        depth = omega (arith, ap length front, long, h.name.depth, h.depth, within);
        segments = subst (λ (s : List ℕ). AllByRecursion (λ number. number ≤ 63) s) (shorter ∙ sym front) (all-take n (take a.depth a.segments) h.name.segments);
      };
    }
