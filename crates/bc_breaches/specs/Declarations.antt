-- Which rule a bad declaration breaks, and where. A list named `earlier` has the last declaration first.
use Rattle.std.specs.Prelude.{◌≡◌, ℕ, ◌+◌, Bool, true, false, if◌then◌else◌, Option, Some, None, is_some, List, [], ◌∷◌, ◌++◌, length, reverse, take, slice_get}
use Rattle.bc_syntax.specs.declared.syntax.Region.{Region}
use Rattle.bc_syntax.specs.declared.syntax.Ty.{Ty}
use Rattle.bc_syntax.specs.declared.syntax.Variance.{Variance}
use Rattle.bc_syntax.specs.declared.syntax.Declaration.{Declaration}
use Rattle.bc_syntax.specs.declared.syntax.Declaration.TheVariants.{Struct, Extern}
use Rattle.bc_types.specs.Declarations.{Position, struct_among, extern_among, has_declared_base, stands_well, positions}
use Rattle.bc_breaches.specs.Firsts.{first_of}
use Rattle.bc_breaches.specs.declared.declaration.DeclarationBreach.{DeclarationBreach}
use Rattle.bc_breaches.specs.declared.declaration.DeclarationBreach.TheVariants.{Name, Mention, Variance as Invariance}
use Rattle.bc_breaches.specs.declared.declaration.BadDeclaration.{BadDeclaration}

-- the region of the first position in which a region marked `+` may not be
abbrev pub misplaced : List Variance → List Position → Option Region
misplaced variances [] = None
misplaced variances (position ∷ positions) = if stands_well variances position then misplaced variances positions else Some position.region

-- the breach of a field: the struct that its type mentions is not declared with its number of regions, or a region marked `+` is in an
-- invariant position
abbrev pub variance_breach : ℕ → Option Region → Option DeclarationBreach
variance_breach field None = None
variance_breach field (Some region) = Some (Invariance field region)

abbrev pub field_breach : List Declaration → List Variance → ℕ → Ty → Option DeclarationBreach
field_breach earlier variances field ty =
    if has_declared_base earlier ty then variance_breach field (misplaced variances (positions earlier ty)) else Some (Mention field)

-- the first breach of fields, the first of which has this number
abbrev pub fields_breach : List Declaration → List Variance → ℕ → List Ty → Option DeclarationBreach
fields_breach earlier variances field [] = None
fields_breach earlier variances field (ty ∷ tys) = first_of (field_breach earlier variances field ty) (fields_breach earlier variances (field + 1) tys)

-- the first of some types, the first of which has this number, that mentions a struct which is not declared with its number of regions
abbrev pub types_breach : List Declaration → ℕ → List Ty → Option DeclarationBreach
types_breach earlier number [] = None
types_breach earlier number (ty ∷ tys) = if has_declared_base earlier ty then types_breach earlier (number + 1) tys else Some (Mention number)

-- the first breach of a declaration after the earlier ones, if it is bad: an earlier one of its kind has its name; otherwise that of its
-- fields, or of its parameters and its result
abbrev pub declaration_breach : List Declaration → Declaration → Option DeclarationBreach
declaration_breach earlier (Struct d) = if is_some (struct_among earlier d.name) then Some Name else fields_breach earlier d.variances 0 d.fields
declaration_breach earlier (Extern d) =
    if is_some (extern_among earlier d.name) then Some Name
    else first_of (types_breach earlier 0 d.signature.parameters) (types_breach earlier (length d.signature.parameters) (d.signature.result ∷ []))

-- ---- what a breach says

-- the types that a declaration mentions, in order
abbrev pub types_of : Declaration → List Ty
types_of (Struct d) = d.fields
types_of (Extern d) = d.signature.parameters ++ d.signature.result ∷ []

-- an earlier declaration of the same kind has the name
abbrev pub has_earlier_name : List Declaration → Declaration → Bool
has_earlier_name earlier (Struct d) = is_some (struct_among earlier d.name)
has_earlier_name earlier (Extern d) = is_some (extern_among earlier d.name)

-- a type of a list mentions a struct that is not declared with its number of regions
pub record MentionsUndeclared (earlier : List Declaration) (types : List Ty) (number : ℕ) : Type 0 where
  pub ty : Ty
  pub is_type : slice_get types number ≡ Some ty
  pub undeclared : has_declared_base earlier ty ≡ false

-- a region is in a position of a field's type in which it may not be
pub record IsMisplaced (earlier : List Declaration) (variances : List Variance) (types : List Ty) (field : ℕ) (region : Region) : Type 0 where
  pub ty : Ty
  pub number : ℕ
  pub position : Position
  pub is_field : slice_get types field ≡ Some ty
  pub is_position : slice_get (positions earlier ty) number ≡ Some position
  pub is_region : position.region ≡ region
  pub stands_badly : stands_well variances position ≡ false

-- the declaration breaks this rule there
abbrev pub Breaks : List Declaration → Declaration → DeclarationBreach → Type 0
Breaks earlier d Name = has_earlier_name earlier d ≡ true
Breaks earlier d (Mention number) = MentionsUndeclared earlier (types_of d) number
Breaks earlier (Struct d) (Invariance field region) = IsMisplaced earlier d.variances d.fields field region
Breaks earlier (Extern d) (Invariance field region) = ⊥

-- the declaration of a number breaks a rule, after those before it, and this is the first breach
pub record IsBadDeclaration (declarations : List Declaration) (bad : BadDeclaration) : Type 0 where
  pub declaration : Declaration
  pub is_declaration : slice_get declarations bad.number ≡ Some declaration
  pub first : declaration_breach (reverse (take bad.number declarations)) declaration ≡ Some bad.breach
  pub breaks : Breaks (reverse (take bad.number declarations)) declaration bad.breach
