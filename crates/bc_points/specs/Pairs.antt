-- What each point demands of regions, apart from reborrows.
use Rattle.std.specs.Prelude.{Bool, not, Option, Some, List, [], ◌∷◌, ◌++◌, map, filter}
use Rattle.std.specs.Option.{option_map_or}
use Rattle.bc_syntax.specs.declared.syntax.Region.{Region}
use Rattle.bc_syntax.specs.declared.syntax.Region.TheVariants.{Universal}
use Rattle.bc_syntax.specs.declared.syntax.Ty.{Ty}
use Rattle.bc_syntax.specs.declared.syntax.Place.{Place}
use Rattle.bc_syntax.specs.declared.syntax.Operand.{Operand}
use Rattle.bc_syntax.specs.declared.syntax.Outlives.{Outlives}
use Rattle.bc_syntax.specs.declared.syntax.ClosureInstance.{ClosureInstance}
use Rattle.bc_syntax.specs.declared.syntax.Header.{Header}
use Rattle.bc_syntax.specs.declared.syntax.Creation.{Creation}
use Rattle.bc_syntax.specs.declared.syntax.Invocation.{Invocation}
use Rattle.bc_syntax.specs.declared.syntax.Call.{Call as Calling}
use Rattle.bc_syntax.specs.declared.syntax.Assignment.{Assignment}
use Rattle.bc_syntax.specs.declared.syntax.Rvalue.{Rvalue}
use Rattle.bc_syntax.specs.declared.syntax.Rvalue.TheVariants.{Use, Borrow, Aggregate, Closure, Calc}
use Rattle.bc_syntax.specs.declared.syntax.StructDeclaration.{StructDeclaration}
use Rattle.bc_syntax.specs.declared.syntax.ExternDeclaration.{ExternDeclaration}
use Rattle.bc_syntax.specs.declared.syntax.Declaration.{Declaration}
use Rattle.bc_types.specs.declared.subtype.Constraint.{Constraint}
use Rattle.bc_types.specs.Declarations.{struct_of, extern_of}
use Rattle.bc_bodies.specs.Mir.{Mir}
use Rattle.bc_bodies.specs.PlaceTypes.{type_of_place}
use Rattle.bc_bodies.specs.Children.{child_of, arguments_of, is_outer_clause}
use Rattle.bc_shapes.specs.Replaced.{replaced_region, replaced_ty}
use Rattle.bc_mir.specs.Rules.{type_of_operand, type_of_rvalue, closure_in}
use Rattle.bc_types.specs.Subtype.{outlives}
use Rattle.bc_types.specs.Subtyping.{sub}
use Rattle.bc_types.specs.WellFormed.{replaced_well_formed}

-- a type, if there is one, is a subtype of another
abbrev pub sub_found : List Declaration → Option Ty → Ty → List Constraint
sub_found types value target = option_map_or (λ ty. sub types ty target) value []

-- a value of this type is a subtype of the type of a place
abbrev pub sub_place : Mir → Option Ty → Place → List Constraint
sub_place mir value place = option_map_or (λ target. sub_found mir.types value target) (type_of_place mir place) []

-- the operand is a subtype of this type, with the declared regions replaced by arguments
abbrev pub operand_pair : Mir → List Region → Operand → Ty → List Constraint
operand_pair mir arguments operand expected =
    sub_found mir.types (type_of_operand mir operand) (replaced_ty arguments expected)

-- each operand is a subtype of its expected type, with the declared regions replaced by arguments
abbrev pub operand_pairs : Mir → List Region → List Operand → List Ty → List Constraint
operand_pairs mir arguments [] expected = []
operand_pairs mir arguments (operand ∷ operands) [] = []
operand_pairs mir arguments (operand ∷ operands) (ty ∷ expected) =
    operand_pair mir arguments operand ty ++ operand_pairs mir arguments operands expected

-- each operand is a subtype of its parameter, and the types of the parameters are well-formed
abbrev pub parameter_pairs : Mir → List Region → List Operand → List Ty → List Constraint
parameter_pairs mir arguments operands parameters =
    operand_pairs mir arguments operands parameters ++ replaced_well_formed mir.types arguments parameters

-- a clause of a declaration, with its regions replaced by arguments
abbrev pub replaced_clause : List Region → Outlives → Constraint
replaced_clause arguments clause =
    outlives (replaced_region arguments (Universal clause.longer)) (replaced_region arguments (Universal clause.shorter))

-- the clauses that pass a test, with their regions replaced by arguments
abbrev pub clauses_where : (Outlives → Bool) → List Region → List Outlives → List Constraint
clauses_where test arguments clauses = map (replaced_clause arguments) (filter test clauses)

-- the operands are subtypes of the captures, and the clauses between external regions and `'static` alone hold, with the external regions
-- replaced by those of the closure
abbrev pub captured_pairs : Mir → Creation → Header → List Constraint
captured_pairs mir creation header =
    operand_pairs mir (arguments_of header creation.closure.regions []) creation.operands header.captures
    ++ clauses_where (is_outer_clause header.captures) (arguments_of header creation.closure.regions []) header.signature.clauses

-- the pairs of what an rvalue makes: the operands of a struct are subtypes of its fields; for a closure, those of its captures and of the
-- clauses that its creation demands
abbrev pub field_pairs : Mir → Rvalue → List Constraint
field_pairs mir (Use operand) = []
field_pairs mir (Borrow borrow) = []
field_pairs mir (Aggregate aggregate) =
    option_map_or
    (λ (d : StructDeclaration). operand_pairs mir aggregate.instance.regions aggregate.operands d.fields)
    (struct_of mir.types aggregate.instance.name)
    []
field_pairs mir (Closure creation) =
    option_map_or (captured_pairs mir creation) (child_of mir.children creation.closure.number) []
field_pairs mir (Calc operands) = []

-- the pairs of an assignment: those of the fields or captures of what it makes, and the value is a subtype of the target (RFC 2094,
-- "Subtyping"; RFC 1214)
abbrev pub assignment_pairs : Mir → Assignment → List Constraint
assignment_pairs mir assignment =
    field_pairs mir assignment.value
    ++ sub_place mir (type_of_rvalue mir assignment.value) assignment.target

-- the operands are passed for the parameters, the clauses hold, and the result is a subtype of the destination, with the function's regions
-- replaced by arguments
abbrev pub called_pairs : Mir → Calling → ExternDeclaration → List Constraint
called_pairs mir call d =
    parameter_pairs mir call.function.regions call.operands d.signature.parameters
    ++ (map (replaced_clause call.function.regions) d.signature.clauses
    ++ sub_place mir (Some (replaced_ty call.function.regions d.signature.result)) call.destination)

-- the pairs of a call (RFC 2094, "Subtyping"; RFC 1214)
abbrev pub call_pairs : Mir → Calling → List Constraint
call_pairs mir call = option_map_or (called_pairs mir call) (extern_of mir.types call.function.name) []

-- the creation of a closure does not demand the clause, so each invocation does
abbrev pub is_inner_clause : Header → Outlives → Bool
is_inner_clause header clause = not (is_outer_clause header.captures clause)

-- the operands are passed for the parameters, the clauses that the creation does not demand hold, and the result is a subtype of the
-- destination, with the child's regions replaced by arguments
abbrev pub passed_pairs : Mir → List Region → Invocation → Header → List Constraint
passed_pairs mir arguments invocation header =
    parameter_pairs mir arguments invocation.operands header.signature.parameters
    ++ (clauses_where (is_inner_clause header) arguments header.signature.clauses
    ++ sub_place mir (Some (replaced_ty arguments header.signature.result)) invocation.destination)

-- the pairs of an invocation of this closure: its external regions are those that the closure has, its local ones those that the invocation
-- gives
abbrev pub invoked_pairs : Mir → Invocation → ClosureInstance → List Constraint
invoked_pairs mir invocation closure =
    option_map_or
    (λ (header : Header). passed_pairs mir (arguments_of header closure.regions invocation.regions) invocation header)
    (child_of mir.children closure.number)
    []

-- the pairs of an invocation (RFC 2094, "Subtyping"; RFC 1214)
abbrev pub invocation_pairs : Mir → Invocation → List Constraint
invocation_pairs mir invocation = option_map_or (invoked_pairs mir invocation) (closure_in mir invocation.closure) []
