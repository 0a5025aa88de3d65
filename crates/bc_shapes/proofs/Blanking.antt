-- Blanking the regions of a type does not change what its shape says.
use Rattle.std.proofs.Common.{◌≡◌, ℕ, zero, suc, Bool, ◌&&◌, ◌==◌, is_some, Option, List, [], ◌∷◌, map, length, refl, sym, ap, ◌∙◌}
use Rattle.std.proofs.lemmas.List.{length-map}
use Rattle.std.specs.Option.{option_map}
use Rattle.bc_syntax.specs.declared.syntax.Region.{Region}
use Rattle.bc_syntax.specs.declared.syntax.Region.TheVariants.{Universal, Variable}
use Rattle.bc_syntax.specs.declared.syntax.Base.{Base}
use Rattle.bc_syntax.specs.declared.syntax.Base.TheVariants.{Int, Struct, Closure}
use Rattle.bc_syntax.specs.declared.syntax.ClosureInstance.{ClosureInstance}
use Rattle.bc_syntax.specs.declared.syntax.Ty.{Ty}
use Rattle.bc_syntax.specs.declared.syntax.Reference.{Reference}
use Rattle.bc_shapes.specs.Mutabilities.{same_mutability}
use Rattle.bc_shapes.specs.Replaced.{replaced_region, replaced_reference, replaced_base, replaced_ty}
use Rattle.bc_shapes.specs.Shapes.{same_name, blanked, alike_bases, alike_types, one_shape, is_copyable_type}
use Rattle.bc_shapes.specs.Forms.{type_referenced, closure_behind}

blank-region : (region : Region) → replaced_region [] region ≡ Universal 0
blank-region (Universal zero) = refl
blank-region (Universal (suc number)) = refl
blank-region (Variable number) = refl

map-again : {A : Type 0} (f g : A → A) → ((x : A) → f (g x) ≡ f x) → (xs : List A) → map f (map g xs) ≡ map f xs
map-again f g again [] = refl
map-again f g again (x ∷ xs) = ap (λ y. y ∷ map f (map g xs)) (again x) ∙ ap (λ ys. f x ∷ ys) (map-again f g again xs)

region-again : (arguments : List Region) (region : Region) → replaced_region [] (replaced_region arguments region) ≡ replaced_region [] region
region-again arguments region = blank-region (replaced_region arguments region) ∙ sym (blank-region region)

reference-again : (arguments : List Region) (reference : Reference) → replaced_reference [] (replaced_reference arguments reference) ≡ replaced_reference [] reference
reference-again arguments reference = ap (λ (region : Region). record { region = region; mutability = reference.mutability }) (region-again arguments reference.region)

base-again : (arguments : List Region) (base : Base) → replaced_base [] (replaced_base arguments base) ≡ replaced_base [] base
base-again arguments Int = refl
base-again arguments (Struct instance) =
    ap (λ (regions : List Region). Struct (record { name = instance.name; regions = regions })) (map-again (replaced_region []) (replaced_region arguments) (region-again arguments) instance.regions)
base-again arguments (Closure closure) =
    ap (λ (regions : List Region). Closure (record { number = closure.number; regions = regions })) (map-again (replaced_region []) (replaced_region arguments) (region-again arguments) closure.regions)

-- blanking a type gives the same with its regions replaced
pub blanked-replaced : (arguments : List Region) (ty : Ty) → blanked (replaced_ty arguments ty) ≡ blanked ty
blanked-replaced arguments ty =
    ap (λ (references : List Reference). record { references = references; base = replaced_base [] (replaced_base arguments ty.base) }) (map-again (replaced_reference []) (replaced_reference arguments) (reference-again arguments) ty.references)
    ∙ ap (λ (base : Base). record { references = map (replaced_reference []) ty.references; base = base }) (base-again arguments ty.base)

bases-left : (base other : Base) → alike_bases (replaced_base [] base) other ≡ alike_bases base other
bases-left Int other = refl
bases-left (Struct instance) Int = refl
bases-left (Struct instance) (Closure closure) = refl
bases-left (Closure closure) Int = refl
bases-left (Closure closure) (Struct instance) = refl
bases-left (Closure closure) (Closure other) =
    ap (λ n. closure.number == other.number && n == length other.regions) (length-map closure.regions (replaced_region []))
bases-left (Struct instance) (Struct other) =
    ap (λ n. same_name instance.name other.name && n == length other.regions) (length-map instance.regions (replaced_region []))

bases-right : (base other : Base) → alike_bases base (replaced_base [] other) ≡ alike_bases base other
bases-right Int Int = refl
bases-right Int (Struct other) = refl
bases-right Int (Closure other) = refl
bases-right (Struct instance) Int = refl
bases-right (Struct instance) (Closure closure) = refl
bases-right (Closure closure) Int = refl
bases-right (Closure closure) (Struct instance) = refl
bases-right (Closure closure) (Closure other) =
    ap (λ n. closure.number == other.number && length closure.regions == n) (length-map other.regions (replaced_region []))
bases-right (Struct instance) (Struct other) =
    ap (λ n. same_name instance.name other.name && length instance.regions == n) (length-map other.regions (replaced_region []))

types-left : (references : List Reference) (base : Base) (others : List Reference) (other : Base) → alike_types (map (replaced_reference []) references) (replaced_base [] base) others other ≡ alike_types references base others other
types-left [] base [] other = bases-left base other
types-left [] base (one ∷ others) other = refl
types-left (reference ∷ references) base [] other = refl
types-left (reference ∷ references) base (one ∷ others) other =
    ap (λ b. same_mutability reference.mutability one.mutability && b) (types-left references base others other)

types-right : (references : List Reference) (base : Base) (others : List Reference) (other : Base) → alike_types references base (map (replaced_reference []) others) (replaced_base [] other) ≡ alike_types references base others other
types-right [] base [] other = bases-right base other
types-right [] base (one ∷ others) other = refl
types-right (reference ∷ references) base [] other = refl
types-right (reference ∷ references) base (one ∷ others) other =
    ap (λ b. same_mutability reference.mutability one.mutability && b) (types-right references base others other)

-- blanking either type does not change whether both have one shape
pub one_shape-left : (first second : Ty) → one_shape (blanked first) second ≡ one_shape first second
one_shape-left first second = types-left first.references first.base second.references second.base

pub one_shape-right : (first second : Ty) → one_shape first (blanked second) ≡ one_shape first second
one_shape-right first second = types-right first.references first.base second.references second.base

pub one_shape-both : (first second : Ty) → one_shape (blanked first) (blanked second) ≡ one_shape first second
one_shape-both first second = one_shape-left first (blanked second) ∙ one_shape-right first second

copyable-blanked : (references : List Reference) (base : Base) → is_copyable_type (blanked (record { references = references; base = base })) ≡ is_copyable_type (record { references = references; base = base })
copyable-blanked [] Int = refl
copyable-blanked [] (Struct instance) = refl
copyable-blanked [] (Closure closure) = refl
copyable-blanked (reference ∷ references) base = refl

pub is_copyable-blanked : (ty : Ty) → is_copyable_type (blanked ty) ≡ is_copyable_type ty
is_copyable-blanked ty = copyable-blanked ty.references ty.base

pub referenced-left : (reference : Reference) (ty expected : Ty) → one_shape (type_referenced reference (blanked ty)) expected ≡ one_shape (type_referenced reference ty) expected
referenced-left reference ty expected = by expected.references
  where
    by : (others : List Reference) → alike_types (reference ∷ map (replaced_reference []) ty.references) (replaced_base [] ty.base) others expected.base ≡ alike_types (reference ∷ ty.references) ty.base others expected.base
    by [] = refl
    by (one ∷ others) = ap (λ b. same_mutability reference.mutability one.mutability && b) (types-left ty.references ty.base others expected.base)

-- ---- closures

abbrev number_behind : List Reference → Base → Option ℕ
number_behind references base = option_map (λ (closure : ClosureInstance). closure.number) (closure_behind references base)

pub number-blanked : (references : List Reference) (base : Base) → number_behind (map (replaced_reference []) references) (replaced_base [] base) ≡ number_behind references base
number-blanked [] Int = refl
number-blanked [] (Struct instance) = refl
number-blanked [] (Closure closure) = refl
number-blanked (reference ∷ references) base = refl

pub is_closure-blanked : (references : List Reference) (base : Base) → is_some (closure_behind (map (replaced_reference []) references) (replaced_base [] base)) ≡ is_some (closure_behind references base)
is_closure-blanked [] Int = refl
is_closure-blanked [] (Struct instance) = refl
is_closure-blanked [] (Closure closure) = refl
is_closure-blanked (reference ∷ references) base = refl
