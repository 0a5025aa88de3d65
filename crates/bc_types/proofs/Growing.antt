-- A table with one more declaration.
use Rattle.std.proofs.Common.{◌≡◌, ℕ, cond, Some, List, [], ◌∷◌, ◌++◌, length, reverse, sym, ap, subst, ◌∙◌}
use Rattle.std.specs.Str.{bytes_eq}
use Rattle.std.specs.HashMap.{HashMap}
use Rattle.std.proofs.lemmas.List.{reverse-append, length-reverse}
use Rattle.bc_syntax.specs.declared.syntax.StructDeclaration.{StructDeclaration}
use Rattle.bc_syntax.specs.declared.syntax.ExternDeclaration.{ExternDeclaration}
use Rattle.bc_syntax.specs.declared.syntax.Declaration.{Declaration}
use Rattle.bc_syntax.specs.declared.syntax.Declaration.TheVariants.{Struct, Extern}
use Rattle.bc_types.specs.declared.table.KnownStruct.{KnownStruct}
use Rattle.bc_types.specs.Known.{known_behind, known_struct, known_extern, AreKnown, Adds}

-- the last declaration comes first if their order is reversed
pub turned : (declarations more : List Declaration) (d : Declaration) → more ≡ declarations ++ d ∷ [] → reverse more ≡ d ∷ reverse declarations
turned declarations more d is = ap reverse is ∙ reverse-append declarations (d ∷ [])

module _ {K S : Type 0} (bytes : K → List ℕ) where
  pub with-struct : (declarations more : List Declaration) (d : StructDeclaration) (old new : HashMap K KnownStruct S) (externs : HashMap K ℕ S) (name : List ℕ) (known : KnownStruct)
      → known ≡ known_behind (reverse declarations) d → name ≡ d.name.bytes → Adds bytes old new name known → more ≡ declarations ++ Struct d ∷ []
      → AreKnown bytes declarations old externs → AreKnown bytes more new externs
  with-struct declarations more d old new externs own known is named adds grown before = record {
    known_structs = λ name.
        subst (λ n. Adds bytes old new n known) named adds name
        ∙ ap (cond (bytes_eq name d.name.bytes) (Some known)) (before.known_structs name)
        ∙ ap (λ k. cond (bytes_eq name d.name.bytes) (Some k) (known_struct (reverse declarations) name)) is
        ∙ ap (λ e. known_struct e name) (sym (turned declarations more (Struct d) grown));
    known_externs = λ name. before.known_externs name ∙ ap (λ e. known_extern e name) (sym (turned declarations more (Struct d) grown));
  }

  pub with-extern : (declarations more : List Declaration) (d : ExternDeclaration) (structs : HashMap K KnownStruct S) (old new : HashMap K ℕ S) (name : List ℕ) (position : ℕ)
      → position ≡ length declarations → name ≡ d.name.bytes → Adds bytes old new name position → more ≡ declarations ++ Extern d ∷ []
      → AreKnown bytes declarations structs old → AreKnown bytes more structs new
  with-extern declarations more d structs old new own position at named adds grown known = record {
    known_structs = λ name. known.known_structs name ∙ ap (λ e. known_struct e name) (sym (turned declarations more (Extern d) grown));
    known_externs = λ name.
        subst (λ n. Adds bytes old new n position) named adds name
        ∙ ap (cond (bytes_eq name d.name.bytes) (Some position)) (known.known_externs name)
        ∙ ap (λ n. cond (bytes_eq name d.name.bytes) (Some n) (known_extern (reverse declarations) name)) (at ∙ sym (length-reverse declarations))
        ∙ ap (λ e. known_extern e name) (sym (turned declarations more (Extern d) grown));
  }
