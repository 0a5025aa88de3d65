-- The regions that occur in types.
use Rattle.std.specs.Prelude.{List, [], ◌++◌, map}
use Rattle.bc_syntax.specs.declared.syntax.Region.{Region}
use Rattle.bc_syntax.specs.declared.syntax.Reference.{Reference}
use Rattle.bc_syntax.specs.declared.syntax.Base.{Base}
use Rattle.bc_syntax.specs.declared.syntax.Base.TheVariants.{Int, Struct, Closure}
use Rattle.bc_syntax.specs.declared.syntax.Ty.{Ty}

-- the regions of references
abbrev pub regions_of_references : List Reference → List Region
regions_of_references references = map (λ (reference : Reference). reference.region) references

-- the arguments of a struct or of a closure
abbrev pub regions_of_base : Base → List Region
regions_of_base Int = []
regions_of_base (Struct instance) = instance.regions
regions_of_base (Closure closure) = closure.regions

-- the regions of a type: those of its references, then the arguments of its base
abbrev pub regions_of : Ty → List Region
regions_of ty = regions_of_references ty.references ++ regions_of_base ty.base
