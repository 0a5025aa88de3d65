-- Types by their form: `int`, a struct, a reference to a type, a closure.
use Rattle.std.specs.Prelude.{Option, Some, None, List, [], ◌∷◌}
use Rattle.bc_syntax.specs.declared.syntax.Reference.{Reference}
use Rattle.bc_syntax.specs.declared.syntax.Base.{Base}
use Rattle.bc_syntax.specs.declared.syntax.Base.TheVariants.{Int, Struct, Closure}
use Rattle.bc_syntax.specs.declared.syntax.Instance.{Instance}
use Rattle.bc_syntax.specs.declared.syntax.ClosureInstance.{ClosureInstance}
use Rattle.bc_syntax.specs.declared.syntax.Ty.{Ty}

-- the type `int`
abbrev pub int_type : Ty
int_type = record { references = []; base = Int }

-- the type of a struct
abbrev pub struct_type : Instance → Ty
struct_type instance = record { references = []; base = Struct instance }

-- the type of a reference to a value of this type
abbrev pub type_referenced : Reference → Ty → Ty
type_referenced reference ty = record { references = reference ∷ ty.references; base = ty.base }

-- the type of a closure
abbrev pub closure_type : ClosureInstance → Ty
closure_type closure = record { references = []; base = Closure closure }

-- the closure that a type with these references and this base is, if it is one
abbrev pub closure_behind : List Reference → Base → Option ClosureInstance
closure_behind [] Int = None
closure_behind [] (Struct instance) = None
closure_behind [] (Closure closure) = Some closure
closure_behind (reference ∷ references) base = None

-- the closure that a type is, if it is one
abbrev pub closure_of : Ty → Option ClosureInstance
closure_of ty = closure_behind ty.references ty.base
