-- Names lead to declarations.
use Rattle.std.proofs.Common.{◌≡◌, ℕ, zero, suc, ◌<◌, Bool, true, false, cond, Option, Some, None, List, [], ◌∷◌, ◌++◌, length, reverse, slice_get, option_and_then, unwrap_or, refl, sym, ap, ◌∙◌, arith}
use Rattle.std.specs.Str.{bytes_eq}
use Rattle.std.proofs.lemmas.List.{reverse-append, reverse-reverse, length-reverse}
use Rattle.bc_syntax.specs.declared.syntax.ItemName.{ItemName}
use Rattle.bc_syntax.specs.declared.syntax.Declaration.{Declaration}
use Rattle.bc_syntax.specs.declared.syntax.Declaration.TheVariants.{Struct, Extern}
use Rattle.bc_syntax.specs.declared.syntax.StructDeclaration.{StructDeclaration}
use Rattle.bc_types.specs.declared.table.KnownStruct.{KnownStruct}
use Rattle.bc_types.specs.Declarations.{struct_among, extern_among, struct_of, extern_of}
use Rattle.bc_types.specs.Known.{known_behind, known_struct, known_extern, as_struct, as_extern, struct_at, extern_at}

get-front : {A : Type 0} (xs : List A) (x : A) (i : ℕ) → i < length xs → slice_get (xs ++ x ∷ []) i ≡ slice_get xs i
get-front [] x i below = absurd (omega arith)
get-front (y ∷ xs) x zero below = refl
get-front (y ∷ xs) x (suc i) below = get-front xs x i (omega arith)

get-last : {A : Type 0} (xs : List A) (x : A) → slice_get (xs ++ x ∷ []) (length xs) ≡ Some x
get-last [] x = refl
get-last (y ∷ xs) x = get-last xs x

-- the last declaration comes after the others
pub reverse-cons : (d : Declaration) (earlier : List Declaration) → reverse (d ∷ earlier) ≡ reverse earlier ++ d ∷ []
reverse-cons d earlier = reverse-append (d ∷ []) earlier

at-front : (earlier : List Declaration) (d : Declaration) (i : ℕ) → i < length earlier → slice_get (reverse (d ∷ earlier)) i ≡ slice_get (reverse earlier) i
at-front earlier d i below = rw (reverse-cons d earlier) (get-front (reverse earlier) d i (omega (arith, length-reverse earlier)))

at-last : (earlier : List Declaration) (d : Declaration) → slice_get (reverse (d ∷ earlier)) (length earlier) ≡ Some d
at-last earlier d = rw (reverse-cons d earlier, sym (length-reverse earlier)) (get-last (reverse earlier) d)

-- a stored position is one of a declaration
known_struct-within : (earlier : List Declaration) (name : List ℕ) (k : KnownStruct) → known_struct earlier name ≡ Some k → k.position < length earlier
known_struct-within [] name k is = cc
known_struct-within (Extern d ∷ earlier) name k is = let rest = known_struct-within earlier name k is in omega arith
known_struct-within (Struct d ∷ earlier) name k is = by (bytes_eq name d.name.bytes) (known_behind earlier d) refl (known_struct-within earlier name k) is
  where
    by : (same : Bool) (first : KnownStruct) → first.position ≡ length earlier → (known_struct earlier name ≡ Some k → k.position < length earlier) → cond same (Some first) (known_struct earlier name) ≡ Some k → k.position < length (Struct d ∷ earlier)
    by true first at rest is = let position : first.position ≡ k.position = ap (λ o. (unwrap_or o first).position) is in omega arith
    by false first at rest is = let below = rest is in omega arith

known_extern-within : (earlier : List Declaration) (name : List ℕ) (k : ℕ) → known_extern earlier name ≡ Some k → k < length earlier
known_extern-within [] name k is = cc
known_extern-within (Struct d ∷ earlier) name k is = let rest = known_extern-within earlier name k is in omega arith
known_extern-within (Extern d ∷ earlier) name k is = by (bytes_eq name d.name.bytes) (known_extern-within earlier name k) is
  where
    by : (same : Bool) → (known_extern earlier name ≡ Some k → k < length earlier) → cond same (Some (length earlier)) (known_extern earlier name) ≡ Some k → k < length (Extern d ∷ earlier)
    by true rest is = let position : length earlier ≡ k = ap (λ o. unwrap_or o 0) is in omega arith
    by false rest is = let below = rest is in omega arith

abbrev struct_found : List Declaration → Option KnownStruct → Option StructDeclaration
struct_found declarations known = option_and_then (λ (k : KnownStruct). struct_at declarations k.position) known

struct-wider : (earlier : List Declaration) (d : Declaration) (known : Option KnownStruct) → ((k : KnownStruct) → known ≡ Some k → k.position < length earlier) → struct_found (reverse (d ∷ earlier)) known ≡ struct_found (reverse earlier) known
struct-wider earlier d None within = refl
struct-wider earlier d (Some k) within = ap (option_and_then as_struct) (at-front earlier d k.position (within k refl))

extern-wider : (earlier : List Declaration) (d : Declaration) (known : Option ℕ) → ((k : ℕ) → known ≡ Some k → k < length earlier) → option_and_then (extern_at (reverse (d ∷ earlier))) known ≡ option_and_then (extern_at (reverse earlier)) known
extern-wider earlier d None within = refl
extern-wider earlier d (Some k) within = ap (option_and_then as_extern) (at-front earlier d k (within k refl))

-- the struct with the name is at the stored position
struct-there : (earlier : List Declaration) (name : ItemName) → struct_found (reverse earlier) (known_struct earlier name.bytes) ≡ struct_among earlier name
struct-there [] name = refl
struct-there (Extern d ∷ earlier) name =
    struct-wider earlier (Extern d) (known_struct earlier name.bytes) (known_struct-within earlier name.bytes) ∙ struct-there earlier name
struct-there (Struct d ∷ earlier) name = by (bytes_eq name.bytes d.name.bytes) (struct-there earlier name)
  where
    by : (same : Bool) → struct_found (reverse earlier) (known_struct earlier name.bytes) ≡ struct_among earlier name → struct_found (reverse (Struct d ∷ earlier)) (cond same (Some (known_behind earlier d)) (known_struct earlier name.bytes)) ≡ cond same (Some d) (struct_among earlier name)
    by true rest = ap (option_and_then as_struct) (at-last earlier (Struct d))
    by false rest = struct-wider earlier (Struct d) (known_struct earlier name.bytes) (known_struct-within earlier name.bytes) ∙ rest

extern-there : (earlier : List Declaration) (name : ItemName) → option_and_then (extern_at (reverse earlier)) (known_extern earlier name.bytes) ≡ extern_among earlier name
extern-there [] name = refl
extern-there (Struct d ∷ earlier) name =
    extern-wider earlier (Struct d) (known_extern earlier name.bytes) (known_extern-within earlier name.bytes) ∙ extern-there earlier name
extern-there (Extern d ∷ earlier) name = by (bytes_eq name.bytes d.name.bytes) (extern-there earlier name)
  where
    by : (same : Bool) → option_and_then (extern_at (reverse earlier)) (known_extern earlier name.bytes) ≡ extern_among earlier name → option_and_then (extern_at (reverse (Extern d ∷ earlier))) (cond same (Some (length earlier)) (known_extern earlier name.bytes)) ≡ cond same (Some d) (extern_among earlier name)
    by true rest = ap (option_and_then as_extern) (at-last earlier (Extern d))
    by false rest = extern-wider earlier (Extern d) (known_extern earlier name.bytes) (known_extern-within earlier name.bytes) ∙ rest

pub found-struct : (declarations : List Declaration) (name : ItemName) (known : Option KnownStruct) → known ≡ known_struct (reverse declarations) name.bytes → struct_found declarations known ≡ struct_of declarations name
found-struct declarations name known is =
    ap (struct_found declarations) is
    ∙ ap (λ ds. struct_found ds (known_struct (reverse declarations) name.bytes)) (sym (reverse-reverse declarations))
    ∙ struct-there (reverse declarations) name

pub found-extern : (declarations : List Declaration) (name : ItemName) (known : Option ℕ) → known ≡ known_extern (reverse declarations) name.bytes → option_and_then (extern_at declarations) known ≡ extern_of declarations name
found-extern declarations name known is =
    ap (option_and_then (extern_at declarations)) is
    ∙ ap (λ ds. option_and_then (extern_at ds) (known_extern (reverse declarations) name.bytes)) (sym (reverse-reverse declarations))
    ∙ extern-there (reverse declarations) name
