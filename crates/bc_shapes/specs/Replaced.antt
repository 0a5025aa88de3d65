-- A declaration's regions replaced by arguments.
use Rattle.std.specs.Prelude.{unwrap_or, List, ◌∷◌, map, slice_get}
use Rattle.bc_syntax.specs.declared.syntax.Region.{Region}
use Rattle.bc_syntax.specs.declared.syntax.Region.TheVariants.{Universal, Variable}
use Rattle.bc_syntax.specs.declared.syntax.Reference.{Reference}
use Rattle.bc_syntax.specs.declared.syntax.Instance.{Instance}
use Rattle.bc_syntax.specs.declared.syntax.ClosureInstance.{ClosureInstance}
use Rattle.bc_syntax.specs.declared.syntax.Base.{Base}
use Rattle.bc_syntax.specs.declared.syntax.Base.TheVariants.{Int, Struct, Closure}
use Rattle.bc_syntax.specs.declared.syntax.Ty.{Ty}

-- `'static` stays, and the declared region k becomes the k-th argument, counted from 1. Any other region becomes `'static`: one beyond the
-- last argument, which no typed unit has, and a variable, which no declaration names.
abbrev pub replaced_region : List Region → Region → Region
replaced_region arguments (Universal number) = unwrap_or (slice_get (Universal 0 ∷ arguments) number) (Universal 0)
replaced_region arguments (Variable number) = Universal 0

-- a reference with its region replaced by its argument
abbrev pub replaced_reference : List Region → Reference → Reference
replaced_reference arguments reference = record { region = replaced_region arguments reference.region; mutability = reference.mutability }

-- an instance with each region replaced by its argument
abbrev pub replaced_instance : List Region → Instance → Instance
replaced_instance arguments instance = record { name = instance.name; regions = map (replaced_region arguments) instance.regions }

-- a closure with each region replaced by its argument
abbrev pub replaced_closure : List Region → ClosureInstance → ClosureInstance
replaced_closure arguments closure = record { number = closure.number; regions = map (replaced_region arguments) closure.regions }

-- a base with each region replaced by its argument
abbrev pub replaced_base : List Region → Base → Base
replaced_base arguments Int = Int
replaced_base arguments (Struct instance) = Struct (replaced_instance arguments instance)
replaced_base arguments (Closure closure) = Closure (replaced_closure arguments closure)

-- a type with each region replaced by its argument
abbrev pub replaced_ty : List Region → Ty → Ty
replaced_ty arguments ty = record {
  references = map (replaced_reference arguments) ty.references;
  base = replaced_base arguments ty.base;
}
