-- What the well-formed types of a unit demand, closures included.
use Rattle.std.specs.Prelude.{ℕ, Bool, true, ◌&&◌, List, [], ◌++◌, drop, slice_range}
use Rattle.std.specs.List.{flat_map}
use Rattle.std.specs.Option.{option_map_or}
use Rattle.bc_syntax.specs.declared.syntax.ClosureInstance.{ClosureInstance}
use Rattle.bc_syntax.specs.declared.syntax.Declaration.{Declaration}
use Rattle.bc_syntax.specs.declared.syntax.Ty.{Ty}
use Rattle.bc_syntax.specs.declared.syntax.Header.{Header}
use Rattle.bc_syntax.specs.Fits.{region_fits}
use Rattle.bc_types.specs.declared.subtype.Constraint.{Constraint}
use Rattle.bc_types.specs.WellFormed.{well_formed_pairs, replaced_well_formed}
use Rattle.bc_bodies.specs.Mir.{Mir}
use Rattle.bc_shapes.specs.Forms.{closure_of}
use Rattle.bc_bodies.specs.Children.{child_of, arguments_of}

-- what the types of captures demand, with the external regions replaced by those of the closure
abbrev pub capture_pairs : List Declaration → ClosureInstance → Header → List Constraint
capture_pairs types closure header = replaced_well_formed types (arguments_of header closure.regions []) header.captures

-- what a closure demands: what the types of its captures demand
abbrev pub closure_pairs : Mir → ClosureInstance → List Constraint
closure_pairs mir closure =
    option_map_or (capture_pairs mir.types closure) (child_of mir.children closure.number) []

-- what a well-formed type demands, given the headers of the children (RFC 1214)
abbrev pub type_pairs : Mir → Ty → List Constraint
type_pairs mir ty = well_formed_pairs mir.types ty ++ option_map_or (closure_pairs mir) (closure_of ty) []

-- the types of the captures and the parameters: the locals after the result and before the first `let` local
abbrev pub input_types : Mir → List Ty
input_types mir = slice_range mir.locals 1 mir.first_let

-- the types of the `let` locals
abbrev pub let_types : Mir → List Ty
let_types mir = drop mir.first_let mir.locals

-- what the types of the `let` locals demand (RFC 1214)
abbrev pub let_pairs : Mir → List Constraint
let_pairs mir = flat_map (type_pairs mir) (let_types mir)

-- what the types of the captures and parameters demand: the body may rely on it, since each caller has to meet it (RFC 1214, "implied
-- bounds")
abbrev pub implied_pairs : Mir → List Constraint
implied_pairs mir = flat_map (type_pairs mir) (input_types mir)

-- each region of the pair is a variable or declared, given the number of universal regions
abbrev pub is_declared_pair : ℕ → Constraint → Bool
is_declared_pair universals pair = region_fits true universals pair.longer && region_fits true universals pair.shorter
