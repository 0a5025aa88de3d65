-- What a name is, how it is spelled, and how names are ordered.
use Rattle.std.specs.Prelude.{◌≡◌, ℕ, ◌≤◌, Bool, ◌&&◌, ◌||◌, ◌==◌, nat_le, true, List, ◌∷◌, ◌++◌, length, slice_index, decimal, Option, Some, None, if◌then◌else◌, not, ◌-◌, ◌*◌, ◌+◌}
use Rattle.std.specs.Char.{is_ascii_alphabetic, is_ascii_digit}
use Rattle.std.specs.List.{flat_map, list_all, starts_with, AllByRecursion}
use Rattle.std.specs.declared.cmp.Ordering.{Ordering}
use Rattle.std.specs.Ordering.{nat_cmp, then_cmp, on, eq_of_both}
use Rattle.std.specs.Cmp.Lexicographic.{slice_cmp, pointwise}
use Rattle.bc_syntax.specs.Bytes.{is_run_byte}

-- the parts of a name: its root, and its segments as numbers
pub record NameParts : Type 0 where
  pub root : List ℕ
  pub segments : List ℕ

-- the byte is a letter or `_`
abbrev pub begins_root : ℕ → Bool
begins_root b = is_ascii_alphabetic b || b == 95

-- the bytes are a root: a letter or `_`, followed by letters, digits and `_`, 1 to 32 bytes in all
abbrev pub is_root : List ℕ → Bool
is_root root = nat_le 1 (length root) && nat_le (length root) 32 && begins_root (slice_index root 0) && list_all is_run_byte root

-- a name has a root, and up to seven segments from 0 to 63
pub record IsName (name : NameParts) : Type 0 where
  pub root : is_root name.root ≡ true
  pub depth : length name.segments ≤ 7
  pub segments : AllByRecursion (λ number. number ≤ 63) name.segments

-- the spelling of a segment: `/` and its number
abbrev pub segment_text : ℕ → List ℕ
segment_text number = 47 ∷ decimal number

-- the spelling of a name: its root, then its segments
abbrev pub name_text : NameParts → List ℕ
name_text name = name.root ++ flat_map segment_text name.segments

-- Names are ordered by their roots, byte by byte, then by their segments as numbers. A list comes before those that begin with it.
abbrev pub name_order : NameParts → NameParts → Ordering
name_order = then_cmp (on (λ (name : NameParts). name.root) (slice_cmp nat_cmp)) (on (λ (name : NameParts). name.segments) (slice_cmp nat_cmp))

-- two names have the same root and the same segments
abbrev pub is_same_name : NameParts → NameParts → Bool
is_same_name = eq_of_both (on (λ (name : NameParts). name.root) (pointwise ◌==◌)) (on (λ (name : NameParts). name.segments) (pointwise ◌==◌))

-- `name` is `root`, or begins with it and `/`
abbrev pub is_within : NameParts → NameParts → Bool
is_within root name = pointwise ◌==◌ root.root name.root && starts_with ◌==◌ name.segments root.segments

-- the segment at the front of the bytes, if there is one: its number, and the length of its spelling
abbrev pub first_segment : List ℕ → Option (ℕ × ℕ)
first_segment bytes =
    if slice_index bytes 0 == 47 && is_ascii_digit (slice_index bytes 1)
    then (if not (is_ascii_digit (slice_index bytes 2)) || slice_index bytes 1 == 48 then Some (slice_index bytes 1 - 48, 2)
    else Some (10 * (slice_index bytes 1 - 48) + (slice_index bytes 2 - 48), 3))
    else None
