-- Blanking the regions of a type does not change what the typing rules ask of it.
use Rattle.std.proofs.Common.{◌≡◌, ℕ, Bool, true, false, not, is_some, Option, Some, None, option_and_then, List, [], ◌∷◌, map, refl, sym, ap, ◌∙◌}
use Rattle.std.specs.Option.{option_map}
use Rattle.bc_syntax.specs.declared.syntax.Region.{Region}
use Rattle.bc_syntax.specs.declared.syntax.Base.{Base}
use Rattle.bc_syntax.specs.declared.syntax.Base.TheVariants.{Int, Struct, Closure}
use Rattle.bc_syntax.specs.declared.syntax.Instance.{Instance}
use Rattle.bc_syntax.specs.declared.syntax.ClosureInstance.{ClosureInstance}
use Rattle.bc_syntax.specs.declared.syntax.Ty.{Ty}
use Rattle.bc_syntax.specs.declared.syntax.Reference.{Reference}
use Rattle.bc_syntax.specs.declared.syntax.Projection.{Projection}
use Rattle.bc_syntax.specs.declared.syntax.Projection.TheVariants.{Deref, Field}
use Rattle.bc_syntax.specs.declared.syntax.Declaration.{Declaration}
use Rattle.bc_shapes.specs.Replaced.{replaced_region, replaced_reference, replaced_base, replaced_ty}
use Rattle.bc_shapes.specs.Shapes.{blanked, one_shape, is_copyable_type}
use Rattle.bc_shapes.specs.Forms.{type_referenced, closure_of}
use Rattle.bc_shapes.proofs.Blanking.{blanked-replaced, one_shape-left, one_shape-right, is_copyable-blanked, referenced-left, number-blanked, is_closure-blanked}
use Rattle.bc_types.specs.Fields.{declared_field}
use Rattle.bc_bodies.specs.PlaceTypes.{type_behind}
use Rattle.bc_mir.specs.Rules.{allowed, has_shape, of_one_shape, unless_closure}

abbrev blanked_behind : List Declaration → List Projection → Ty → Option Ty
blanked_behind types projections ty = option_map blanked (type_behind types projections ty.references ty.base)

-- replacing regions changes only the regions of what projections lead to
behind-replaced : (types : List Declaration) (arguments : List Region) (projections : List Projection) (references : List Reference) (base : Base) → option_map blanked (type_behind types projections (map (replaced_reference arguments) references) (replaced_base arguments base)) ≡ option_map blanked (type_behind types projections references base)
behind-replaced types arguments [] references base = ap Some (blanked-replaced arguments (record { references = references; base = base }))
behind-replaced types arguments (Deref ∷ projections) [] base = refl
behind-replaced types arguments (Deref ∷ projections) (reference ∷ references) base = behind-replaced types arguments projections references base
behind-replaced types arguments (Field k ∷ projections) (reference ∷ references) base = refl
behind-replaced types arguments (Field k ∷ projections) [] Int = refl
behind-replaced types arguments (Field k ∷ projections) [] (Closure closure) = refl
behind-replaced types arguments (Field k ∷ projections) [] (Struct instance) =
    by (declared_field types instance.name k) (λ ty. behind-replaced types (map (replaced_region arguments) instance.regions) projections ty.references ty.base ∙ sym (behind-replaced types instance.regions projections ty.references ty.base))
  where
    by : (found : Option Ty) → ((ty : Ty) → blanked_behind types projections (replaced_ty (map (replaced_region arguments) instance.regions) ty) ≡ blanked_behind types projections (replaced_ty instance.regions ty))
        → option_map blanked (option_and_then (λ (ty : Ty). type_behind types projections ty.references ty.base) (option_map (replaced_ty (map (replaced_region arguments) instance.regions)) found))
        ≡ option_map blanked (option_and_then (λ (ty : Ty). type_behind types projections ty.references ty.base) (option_map (replaced_ty instance.regions) found))
    by None same = refl
    by (Some ty) same = same ty

-- ---- types that are found

allowed-blanked : (holds : Bool) (found : Option Ty) → option_map blanked (allowed holds found) ≡ allowed holds (option_map blanked found)
allowed-blanked true found = refl
allowed-blanked false found = refl

abbrev copied : Option Ty → Option Ty
copied found = option_and_then (λ ty. allowed (is_copyable_type ty) (Some ty)) found

copied-blanked : (found : Option Ty) → option_map blanked (copied found) ≡ copied (option_map blanked found)
copied-blanked None = refl
copied-blanked (Some ty) =
    allowed-blanked (is_copyable_type ty) (Some ty) ∙ ap (λ holds. allowed holds (Some (blanked ty))) (sym (is_copyable-blanked ty))

pub has_shape-blanked : (expected : Ty) (found : Option Ty) → has_shape expected (option_map blanked found) ≡ has_shape expected found
has_shape-blanked expected None = refl
has_shape-blanked expected (Some ty) = one_shape-left ty expected

pub has_shape-expected : (expected : Ty) (found : Option Ty) → has_shape (blanked expected) found ≡ has_shape expected found
has_shape-expected expected None = refl
has_shape-expected expected (Some ty) = one_shape-right ty expected

pub of_one_shape-blanked : (target value : Option Ty) → of_one_shape (option_map blanked target) value ≡ of_one_shape target value
of_one_shape-blanked None value = refl
of_one_shape-blanked (Some target) value = has_shape-expected target value

-- ---- what is found, by its shape

-- a field and its declared type lead to the same shapes
pub field-behind : (types : List Declaration) (projections : List Projection) (instance : Instance) (k : ℕ) (ty : Ty) → Some ty ≡ declared_field types instance.name k → option_map blanked (type_behind types projections ty.references ty.base) ≡ option_map blanked (type_behind types (Field k ∷ projections) [] (Struct instance))
field-behind types projections instance k ty is =
    sym (behind-replaced types instance.regions projections ty.references ty.base)
    ∙ ap (λ found. option_map blanked (option_and_then (λ (ty : Ty). type_behind types projections ty.references ty.base) (option_map (replaced_ty instance.regions) found))) is

pub copy-shape : (expected : Ty) (found : Option Ty) (shape : Ty) → Some shape ≡ option_map blanked found → is_copyable_type shape ≡ true → one_shape shape expected ≡ has_shape expected (copied found)
copy-shape expected found shape is copyable =
    ap (λ holds. has_shape expected (allowed holds (Some shape))) (sym copyable)
    ∙ ap (λ o. has_shape expected (copied o)) is
    ∙ ap (has_shape expected) (sym (copied-blanked found))
    ∙ has_shape-blanked expected (copied found)

pub borrow-blanked : (reference : Reference) (expected : Ty) (found : Option Ty) → has_shape expected (option_map (type_referenced reference) (option_map blanked found)) ≡ has_shape expected (option_map (type_referenced reference) found)
borrow-blanked reference expected None = refl
borrow-blanked reference expected (Some ty) = referenced-left reference ty expected

-- ---- closures

abbrev number_found : Option Ty → Option ℕ
number_found found = option_map (λ (closure : ClosureInstance). closure.number) (option_and_then closure_of found)

-- a closure and its shape have the same number
pub number_found-blanked : (found : Option Ty) → number_found (option_map blanked found) ≡ number_found found
number_found-blanked None = refl
number_found-blanked (Some ty) = number-blanked ty.references ty.base

-- `unless_closure` drops a type exactly if it drops the type's shape
pub unless_closure-blanked : (found : Option Ty) → unless_closure (option_map blanked found) ≡ option_map blanked (unless_closure found)
unless_closure-blanked None = refl
unless_closure-blanked (Some ty) =
    ap (λ holds. allowed (not holds) (Some (blanked ty))) (is_closure-blanked ty.references ty.base)
    ∙ sym (allowed-blanked (not (is_some (closure_of ty))) (Some ty))
