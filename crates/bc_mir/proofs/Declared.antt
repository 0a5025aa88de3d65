-- The regions in what well-formed types demand are declared.
use Rattle.std.proofs.Common.{◌≡◌, ℕ, zero, suc, ◌+◌, ◌≤◌, inl, inr, Bool, true, false, cond, Option, Some, None, List, [], ◌∷◌, ◌++◌, map, take, drop, reverse, refl, sym, ◌∙◌, arith}
use Rattle.std.specs.Prelude.{◌&&◌, nat_le, slice_get, length, unwrap_or}
use Rattle.std.specs.List.{list_all, flat_map}
use Rattle.std.specs.Option.{option_map_or}
use Rattle.std.proofs.lemmas.Bool.{and_from, and_parts, or_cases, lt-ltb}
use Rattle.std.proofs.lemmas.List.Folds.{list_all-append}
use Rattle.bc_syntax.specs.declared.syntax.Region.{Region}
use Rattle.bc_syntax.specs.declared.syntax.Region.TheVariants.{Universal, Variable}
use Rattle.bc_syntax.specs.declared.syntax.RegionName.{RegionName}
use Rattle.bc_syntax.specs.declared.syntax.Reference.{Reference}
use Rattle.bc_syntax.specs.declared.syntax.Instance.{Instance}
use Rattle.bc_syntax.specs.declared.syntax.Base.{Base}
use Rattle.bc_syntax.specs.declared.syntax.Base.TheVariants.{Int, Struct, Closure}
use Rattle.bc_syntax.specs.declared.syntax.ClosureInstance.{ClosureInstance}
use Rattle.bc_syntax.specs.declared.syntax.Header.{Header}
use Rattle.bc_syntax.specs.declared.syntax.Ty.{Ty}
use Rattle.bc_syntax.specs.Fits.{item_fits, region_fits, regions_fit, reference_fits, base_fits, ty_fits, whole_closure_fits, let_fits}
use Rattle.bc_types.specs.declared.subtype.Constraint.{Constraint}
use Rattle.bc_types.specs.Mentions.{regions_of_references, regions_of_base, regions_of}
use Rattle.bc_shapes.specs.Replaced.{replaced_region}
use Rattle.bc_types.specs.Subtype.{outlives}
use Rattle.bc_types.specs.WellFormed.{each_outlives, reference_pairs, replaced_pair, base_pairs, struct_pairs, well_formed_pairs}
use Rattle.bc_bodies.specs.Mir.{Mir}
use Rattle.bc_bodies.specs.Externals.{is_external}
use Rattle.bc_shapes.specs.Forms.{closure_behind, closure_of}
use Rattle.bc_bodies.specs.Children.{child_of, arguments_of, arguments_from, first_of, behind_first}
use Rattle.bc_mir.specs.WellFormed.{capture_pairs, closure_pairs, type_pairs, is_declared_pair}

-- there are `u` universal regions, and `'static` is one
module _ (u : ℕ) (some : 1 ≤ u) where
  abbrev fit : List Region → Type 0
  fit regions = list_all (region_fits true u) regions ≡ true

  abbrev declared : List Constraint → Type 0
  declared pairs = list_all (is_declared_pair u) pairs ≡ true

  static-fits : region_fits true u (Universal 0) ≡ true
  static-fits = lt-ltb 0 u (omega arith)

  both : {X : Type 0} (p : X → Bool) (xs ys : List X) → list_all p xs ≡ true → list_all p ys ≡ true → list_all p (xs ++ ys) ≡ true
  both p xs ys one other = list_all-append p xs ys ∙ and_from (list_all p xs) (list_all p ys) one other

  of-each : {X Y : Type 0} (p : Y → Bool) (q : X → Bool) (f : X → List Y) → ((x : X) → q x ≡ true → list_all p (f x) ≡ true) → (xs : List X) → list_all q xs ≡ true → list_all p (flat_map f xs) ≡ true
  of-each p q f each [] all = refl
  of-each p q f each (x ∷ xs) all =
      let parts = and_parts (q x) (list_all q xs) all in
      both p (f x) (flat_map f xs) (each x parts.0) (of-each p q f each xs parts.1)

  -- ---- arguments

  first-fits : (regions : List Region) → fit regions → region_fits true u (first_of regions) ≡ true
  first-fits [] all = static-fits
  first-fits (region ∷ regions) all = (and_parts (region_fits true u region) (list_all (region_fits true u) regions) all).0

  behind-fits : (regions : List Region) → fit regions → fit (behind_first regions)
  behind-fits [] all = refl
  behind-fits (region ∷ regions) all = (and_parts (region_fits true u region) (list_all (region_fits true u) regions) all).1

  arguments-fit : (captures : List Ty) (before : ℕ) (names : List RegionName) (given local : List Region) → fit given → fit local → fit (arguments_from captures before names given local)
  arguments-fit captures before [] given local one other = refl
  arguments-fit captures before (name ∷ names) given local one other =
      by (is_external captures (before + 1))
      (arguments-fit captures (before + 1) names (behind_first given) local (behind-fits given one) other)
      (arguments-fit captures (before + 1) names given (behind_first local) one (behind-fits local other))
    where
      by : (external : Bool) → fit (arguments_from captures (before + 1) names (behind_first given) local) → fit (arguments_from captures (before + 1) names given (behind_first local))
          → fit (cond external (first_of given ∷ arguments_from captures (before + 1) names (behind_first given) local) (first_of local ∷ arguments_from captures (before + 1) names given (behind_first local)))
      by true outer inner = and_from (region_fits true u (first_of given)) _ (first-fits given one) outer
      by false outer inner = and_from (region_fits true u (first_of local)) _ (first-fits local other) inner

  among-fits : (regions : List Region) (number : ℕ) → fit regions → region_fits true u (unwrap_or (slice_get regions number) (Universal 0)) ≡ true
  among-fits [] number all = static-fits
  among-fits (region ∷ regions) zero all = (and_parts (region_fits true u region) (list_all (region_fits true u) regions) all).0
  among-fits (region ∷ regions) (suc number) all = among-fits regions number (and_parts (region_fits true u region) (list_all (region_fits true u) regions) all).1

  replaced-fits : (arguments : List Region) (region : Region) → fit arguments → region_fits true u (replaced_region arguments region) ≡ true
  replaced-fits arguments (Universal number) all = among-fits (Universal 0 ∷ arguments) number (and_from (region_fits true u (Universal 0)) (list_all (region_fits true u) arguments) static-fits all)
  replaced-fits arguments (Variable number) all = static-fits

  replaced-declared : (arguments : List Region) (pairs : List Constraint) → fit arguments → declared (map (replaced_pair arguments) pairs)
  replaced-declared arguments [] all = refl
  replaced-declared arguments (pair ∷ pairs) all =
      and_from (is_declared_pair u (replaced_pair arguments pair)) _
      (and_from (region_fits true u (replaced_region arguments pair.longer)) _ (replaced-fits arguments pair.longer all) (replaced-fits arguments pair.shorter all))
      (replaced-declared arguments pairs all)

  -- ---- references

  each-declared : (regions : List Region) (shorter : Region) → fit regions → region_fits true u shorter ≡ true → declared (each_outlives regions shorter)
  each-declared [] shorter all is = refl
  each-declared (region ∷ regions) shorter all is =
      let parts = and_parts (region_fits true u region) (list_all (region_fits true u) regions) all in
      and_from (is_declared_pair u (outlives region shorter)) _ (and_from (region_fits true u region) _ parts.0 is) (each-declared regions shorter parts.1 is)

  references-declared : (references : List Reference) (base : Base) → fit (regions_of_references references ++ regions_of_base base) → declared (reference_pairs references base)
  references-declared [] base all = refl
  references-declared (reference ∷ references) base all =
      let rest = regions_of_references references ++ regions_of_base base in
      let parts = and_parts (region_fits true u reference.region) (list_all (region_fits true u) rest) all in
      both (is_declared_pair u) (each_outlives rest reference.region) (reference_pairs references base) (each-declared rest reference.region parts.1 parts.0) (references-declared references base parts.1)

  base-declared : (of_struct : Instance → List Constraint) (base : Base) → fit (regions_of_base base) → declared (base_pairs of_struct base)
  base-declared of_struct Int all = refl
  base-declared of_struct (Struct instance) all = replaced-declared instance.regions (of_struct instance) all
  base-declared of_struct (Closure closure) all = refl

  -- ---- types

  references-fit : (references : List Reference) → list_all (reference_fits true u) references ≡ true → fit (regions_of_references references)
  references-fit [] all = refl
  references-fit (reference ∷ references) all =
      let parts = and_parts (reference_fits true u reference) (list_all (reference_fits true u) references) all in
      and_from (region_fits true u reference.region) _ parts.0 (references-fit references parts.1)

  regions-fit : (regions : List Region) → regions_fit true u regions ≡ true → fit regions
  regions-fit regions is = (and_parts (list_all (region_fits true u) regions) (nat_le (length regions) 15) is).0

  base-fits : (base : Base) → base_fits true u base ≡ true → fit (regions_of_base base)
  base-fits Int is = refl
  base-fits (Struct instance) is = regions-fit instance.regions (and_parts (item_fits instance.name) (regions_fit true u instance.regions) is).1
  base-fits (Closure closure) is = absurd cc

  ty-fits : (ty : Ty) → ty_fits true u ty ≡ true → fit (regions_of ty)
  ty-fits ty is =
      let outer = and_parts (list_all (reference_fits true u) ty.references && nat_le (length ty.references) 7) (base_fits true u ty.base) is in
      let inner = and_parts (list_all (reference_fits true u) ty.references) (nat_le (length ty.references) 7) outer.0 in
      both (region_fits true u) (regions_of_references ty.references) (regions_of_base ty.base) (references-fit ty.references inner.0) (base-fits ty.base outer.1)

  whole-fits : (references : List Reference) (base : Base) → whole_closure_fits u references base ≡ true → fit (regions_of_references references ++ regions_of_base base)
  whole-fits [] Int is = refl
  whole-fits [] (Struct instance) is = absurd cc
  whole-fits [] (Closure closure) is = regions-fit closure.regions (and_parts (nat_le closure.number 63) (regions_fit true u closure.regions) is).1
  whole-fits (reference ∷ references) base is = absurd cc

  let-fits : (ty : Ty) → let_fits u ty ≡ true → fit (regions_of ty)
  let-fits ty is = elim (or_cases (ty_fits true u ty) (whole_closure_fits u ty.references ty.base) is) [
    | inl anywhere ↦ ty-fits ty anywhere
    | inr whole ↦ whole-fits ty.references ty.base whole
  ]

  closure-declared : (mir : Mir) (closure : ClosureInstance) (header : Option Header) → fit closure.regions → declared (option_map_or (capture_pairs mir.types closure) header [])
  closure-declared mir closure None all = refl
  closure-declared mir closure (Some header) all =
      replaced-declared (arguments_of header closure.regions []) (flat_map (well_formed_pairs mir.types) header.captures)
      (arguments-fit header.captures 0 header.signature.regions closure.regions [] all refl)

  behind-declared : (mir : Mir) (references : List Reference) (base : Base) → fit (regions_of_references references ++ regions_of_base base) → declared (option_map_or (closure_pairs mir) (closure_behind references base) [])
  behind-declared mir [] Int all = refl
  behind-declared mir [] (Struct instance) all = refl
  behind-declared mir [] (Closure closure) all = closure-declared mir closure (child_of mir.children closure.number) all
  behind-declared mir (reference ∷ references) base all = refl

  type-declared : (mir : Mir) (ty : Ty) → let_fits u ty ≡ true → declared (type_pairs mir ty)
  type-declared mir ty is =
      let all = let-fits ty is in
      let base : fit (regions_of_base ty.base) = (and_parts (list_all (region_fits true u) (regions_of_references ty.references)) _ (sym (list_all-append (region_fits true u) (regions_of_references ty.references) (regions_of_base ty.base)) ∙ all)).1 in
      both (is_declared_pair u) (well_formed_pairs mir.types ty) (option_map_or (closure_pairs mir) (closure_of ty) [])
      (both (is_declared_pair u) (reference_pairs ty.references ty.base) (base_pairs (struct_pairs (reverse mir.types)) ty.base)
      (references-declared ty.references ty.base all) (base-declared (struct_pairs (reverse mir.types)) ty.base base))
      (behind-declared mir ty.references ty.base all)

  -- what the types of a unit demand relates declared regions
  pub types-declared : (mir : Mir) (types : List Ty) → list_all (let_fits u) types ≡ true → declared (flat_map (type_pairs mir) types)
  types-declared mir = of-each (is_declared_pair u) (let_fits u) (type_pairs mir) (type-declared mir)

-- ---- some of a list

pub front-passes : {X : Type 0} (p : X → Bool) (n : ℕ) (xs : List X) → list_all p xs ≡ true → list_all p (take n xs) ≡ true
front-passes p zero xs all = refl
front-passes p (suc n) [] all = refl
front-passes p (suc n) (x ∷ xs) all = let parts = and_parts (p x) (list_all p xs) all in and_from (p x) _ parts.0 (front-passes p n xs parts.1)

pub rest-passes : {X : Type 0} (p : X → Bool) (n : ℕ) (xs : List X) → list_all p xs ≡ true → list_all p (drop n xs) ≡ true
rest-passes p zero xs all = all
rest-passes p (suc n) [] all = refl
rest-passes p (suc n) (x ∷ xs) all = rest-passes p n xs (and_parts (p x) (list_all p xs) all).1
