-- The computed bound is the least number that is above the numbers of the regions.
use Rattle.std.proofs.Common.{ℕ, ◌+◌, ◌<◌, ◌≤◌, max, List, [], ◌∷◌, map, filter, arith}
use Rattle.std.specs.List.{All}
use Rattle.std.proofs.lemmas.List.Elements.{All-nil, All-cons, All-head, All-tail, All-map, All-weaker}
use Rattle.bc_syntax.specs.declared.syntax.Ty.{Ty}
use Rattle.bc_syntax.specs.declared.syntax.Region.{Region}
use Rattle.bc_types.specs.declared.subtype.Constraint.{Constraint as RegionConstraint}
use Rattle.bc_bodies.specs.Mir.{Mir}
use Rattle.bc_points.specs.Regions.{region_number}
use Rattle.bc_cons.specs.declared.facts.NumberedConstraint.{NumberedConstraint}
use Rattle.bc_cons.specs.declared.requirements.Requirements.{Requirements}
use Rattle.bc_cons.specs.Constraints.{numbered, differ, all_pairs}
use Rattle.bc_types.specs.Mentions.{regions_of}
use Rattle.bc_cons.specs.Bounds.{regions_bound, types_bound, pairs_bound}
use Rattle.bc_cons.specs.Below.{TyIsBelow, TysAreBelow, PairsAreBelow, IsRegionCount}
use Rattle.bc_cons.specs.Facts.{ArePairsWithin}

regions_bound_least : (u least : ℕ) (rs : List Region) → least ≤ regions_bound u least rs
regions_bound_least u least [] = omega arith
regions_bound_least u least (r ∷ rs) =
    let later = regions_bound_least u (max least (region_number u r + 1)) rs in
    omega (arith, later)

regions_are_below : (u least : ℕ) (rs : List Region) → All (λ (r : Region). region_number u r < regions_bound u least rs) rs
regions_are_below u least [] = All-nil _
regions_are_below u least (r ∷ rs) =
    let later = regions_bound_least u (max least (region_number u r + 1)) rs in
    All-cons (λ (q : Region). region_number u q < regions_bound u least (r ∷ rs)) r rs (omega (arith, later)) (regions_are_below u (max least (region_number u r + 1)) rs)

ty_more : (u low high : ℕ) (ty : Ty) → low ≤ high → TyIsBelow u low ty → TyIsBelow u high ty
ty_more u low high ty le = All-weaker (λ (r : Region). region_number u r < low) (λ r. region_number u r < high) (λ r h. omega (arith, h, le)) (regions_of ty)

pub types_bound_least : (u least : ℕ) (tys : List Ty) → least ≤ types_bound u least tys
types_bound_least u least [] = omega arith
types_bound_least u least (ty ∷ tys) =
    let here = regions_bound_least u least (regions_of ty) in
    let later = types_bound_least u (regions_bound u least (regions_of ty)) tys in
    omega (arith, here, later)

pub types_are_below : (u least : ℕ) (tys : List Ty) → TysAreBelow u (types_bound u least tys) tys
types_are_below u least [] = All-nil _
types_are_below u least (ty ∷ tys) =
    let here = regions_bound u least (regions_of ty) in
    All-cons (λ (t : Ty). TyIsBelow u (types_bound u least (ty ∷ tys)) t) ty tys
    (ty_more u here (types_bound u here tys) ty (types_bound_least u here tys) (regions_are_below u least (regions_of ty)))
    (types_are_below u here tys)

pub tys_more : (u low high : ℕ) (tys : List Ty) → low ≤ high → TysAreBelow u low tys → TysAreBelow u high tys
tys_more u low high tys le = All-weaker (λ (t : Ty). TyIsBelow u low t) (λ t. TyIsBelow u high t) (λ t h. ty_more u low high t le h) tys

pub pairs_bound_least : (u least : ℕ) (ps : List RegionConstraint) → least ≤ pairs_bound u least ps
pairs_bound_least u least [] = omega arith
pairs_bound_least u least (p ∷ ps) =
    let later = pairs_bound_least u (max (max least (region_number u p.longer + 1)) (region_number u p.shorter + 1)) ps in
    omega (arith, later)

pairs_are_below : (u least : ℕ) (ps : List RegionConstraint) → PairsAreBelow u (pairs_bound u least ps) ps
pairs_are_below u least [] = All-nil _
pairs_are_below u least (p ∷ ps) =
    let here = max (max least (region_number u p.longer + 1)) (region_number u p.shorter + 1) in
    let later = pairs_bound_least u here ps in
    All-cons (λ (q : RegionConstraint). (region_number u q.longer < pairs_bound u least (p ∷ ps)) × (region_number u q.shorter < pairs_bound u least (p ∷ ps))) p ps
    (omega (arith, later), omega (arith, later)) (pairs_are_below u here ps)

pub numbered_within : (u least : ℕ) (ps : List RegionConstraint) → ArePairsWithin (pairs_bound u least ps) (map (numbered u) ps)
numbered_within u least ps =
    All-map (λ (c : NumberedConstraint). (c.longer < pairs_bound u least ps) × (c.shorter < pairs_bound u least ps)) (numbered u) ps (pairs_are_below u least ps)

-- ---- the bound is no more than another

regions_low : (u least n : ℕ) (rs : List Region) → least ≤ n → All (λ (r : Region). region_number u r < n) rs → regions_bound u least rs ≤ n
regions_low u least n [] le below = le
regions_low u least n (r ∷ rs) le below =
    let here = All-head (λ (q : Region). region_number u q < n) r rs below in
    regions_low u (max least (region_number u r + 1)) n rs (omega (arith, le, here)) (All-tail (λ (q : Region). region_number u q < n) r rs below)

types_low : (u least n : ℕ) (tys : List Ty) → least ≤ n → TysAreBelow u n tys → types_bound u least tys ≤ n
types_low u least n [] le below = le
types_low u least n (ty ∷ tys) le below =
    let here = All-head (λ (t : Ty). TyIsBelow u n t) ty tys below in
    types_low u (regions_bound u least (regions_of ty)) n tys (regions_low u least n (regions_of ty) le here) (All-tail (λ (t : Ty). TyIsBelow u n t) ty tys below)

pairs_low : (u least n : ℕ) (ps : List RegionConstraint) → least ≤ n → ArePairsWithin n (map (numbered u) ps) → pairs_bound u least ps ≤ n
pairs_low u least n [] le within = le
pairs_low u least n (p ∷ ps) le within =
    let here = All-head (λ (c : NumberedConstraint). (c.longer < n) × (c.shorter < n)) (numbered u p) (map (numbered u) ps) within in
    pairs_low u (max (max least (region_number u p.longer + 1)) (region_number u p.shorter + 1)) n ps (omega (arith, le, here.0, here.1))
    (All-tail (λ (c : NumberedConstraint). (c.longer < n) × (c.shorter < n)) (numbered u p) (map (numbered u) ps) within)

pub is_region_count : (mir : Mir) (kids : List (ℕ × Requirements)) → IsRegionCount mir kids (pairs_bound mir.universals (types_bound mir.universals mir.universals mir.locals) (filter differ (all_pairs mir kids)))
is_region_count mir kids =
    let u = mir.universals in
    let declared = types_bound u u mir.locals in
    let pairs = filter differ (all_pairs mir kids) in
    let le = pairs_bound_least u declared pairs in
    record {
      universals = omega (arith, types_bound_least u u mir.locals, le);
      types = tys_more u declared (pairs_bound u declared pairs) mir.locals le (types_are_below u u mir.locals);
      constraints = numbered_within u declared pairs;
      least = λ n small below within. pairs_low u declared n pairs (types_low u u n mir.locals small below) within;
    }
