-- The typing rules. An operand or an rvalue has a type only if the rules of its form hold.
use Rattle.std.specs.Prelude.{ℕ, Bool, true, false, not, ◌&&◌, ◌==◌, nat_lt, if◌then◌else◌, Option, Some, None, option_and_then, is_some, List, [], ◌∷◌, length, reverse}
use Rattle.std.specs.List.{list_all}
use Rattle.std.specs.Option.{option_map, option_map_or}
use Rattle.bc_syntax.specs.declared.syntax.Ty.{Ty}
use Rattle.bc_syntax.specs.declared.syntax.Mutability.{Mutability}
use Rattle.bc_syntax.specs.declared.syntax.Mutability.TheVariants.{Shared, Mutable}
use Rattle.bc_syntax.specs.declared.syntax.Place.{Place}
use Rattle.bc_syntax.specs.declared.syntax.Operand.{Operand}
use Rattle.bc_syntax.specs.declared.syntax.Operand.TheVariants.{Copy, Move, Number}
use Rattle.bc_syntax.specs.declared.syntax.Aggregate.{Aggregate as Making}
use Rattle.bc_syntax.specs.declared.syntax.Creation.{Creation}
use Rattle.bc_syntax.specs.declared.syntax.Call.{Call as Calling}
use Rattle.bc_syntax.specs.declared.syntax.Invocation.{Invocation}
use Rattle.bc_syntax.specs.declared.syntax.ClosureInstance.{ClosureInstance}
use Rattle.bc_syntax.specs.declared.syntax.Header.{Header}
use Rattle.bc_syntax.specs.declared.syntax.Rvalue.{Rvalue}
use Rattle.bc_syntax.specs.declared.syntax.Rvalue.TheVariants.{Use, Borrow, Aggregate, Closure, Calc}
use Rattle.bc_syntax.specs.declared.syntax.Statement.{Statement as Simple}
use Rattle.bc_syntax.specs.declared.syntax.Statement.TheVariants.{Assign, Dead, Drop, Nop}
use Rattle.bc_syntax.specs.declared.syntax.Terminator.{Terminator as Ending}
use Rattle.bc_syntax.specs.declared.syntax.Terminator.TheVariants.{Goto, If, Call, Invoke, Return, Stop}
use Rattle.bc_syntax.specs.declared.syntax.StructDeclaration.{StructDeclaration}
use Rattle.bc_syntax.specs.declared.syntax.ExternDeclaration.{ExternDeclaration}
use Rattle.bc_types.specs.Declarations.{takes_regions, has_declared_base, struct_of, extern_of}
use Rattle.bc_bodies.specs.Places.{are_mutable, has_no_deref}
use Rattle.bc_bodies.specs.Mir.{Mir}
use Rattle.bc_bodies.specs.Children.{child_of, takes_externals, takes_locals, is_known}
use Rattle.bc_shapes.specs.Forms.{int_type, struct_type, type_referenced, closure_type, closure_of}
use Rattle.bc_bodies.specs.PlaceTypes.{type_of_place, references_of_place}
use Rattle.bc_shapes.specs.Shapes.{one_shape, is_int_type, is_copyable_type}

-- the value, if a rule allows it
abbrev pub allowed : {A : Type 0} → Bool → Option A → Option A
allowed holds value = if holds then value else None

-- the type of an operand: `copy` takes what may be copied, `move` takes a place without `.*`, and a number is `int`
abbrev pub type_of_operand : Mir → Operand → Option Ty
type_of_operand mir (Copy place) =
    option_and_then (λ ty. allowed (is_copyable_type ty) (Some ty)) (type_of_place mir place)
type_of_operand mir (Move place) = allowed (has_no_deref place) (type_of_place mir place)
type_of_operand mir (Number n) = Some int_type

-- the type exists and has the expected shape
abbrev pub has_shape : Ty → Option Ty → Bool
has_shape expected found = option_map_or (λ ty. one_shape ty expected) found false

-- the type exists and is `int`
abbrev pub is_int_found : Option Ty → Bool
is_int_found found = option_map_or is_int_type found false

-- the operand is an `int`
abbrev pub is_operand_int : Mir → Operand → Bool
is_operand_int mir operand = is_int_found (type_of_operand mir operand)

-- there are as many operands as expected types, and each has the shape of its type
abbrev pub have_shapes : Mir → List Operand → List Ty → Bool
have_shapes mir [] [] = true
have_shapes mir [] (ty ∷ expected) = false
have_shapes mir (operand ∷ operands) [] = false
have_shapes mir (operand ∷ operands) (ty ∷ expected) =
    has_shape ty (type_of_operand mir operand) && have_shapes mir operands expected

-- the type of a place that may be written: no shared reference is dereferenced on the way to it
abbrev pub type_to_write : Mir → Place → Option Ty
type_to_write mir place =
    allowed (are_mutable (references_of_place mir place)) (type_of_place mir place)

-- the type, unless it is a closure
abbrev pub unless_closure : Option Ty → Option Ty
unless_closure found = option_and_then (λ ty. allowed (not (is_some (closure_of ty))) (Some ty)) found

-- the type of a place that is borrowed; for a mutable borrow, the place may be written
abbrev pub type_reached : Mir → Mutability → Place → Option Ty
type_reached mir Shared place = type_of_place mir place
type_reached mir Mutable place = type_to_write mir place

-- the type of a place that may be borrowed: it is no closure
abbrev pub type_to_borrow : Mir → Mutability → Place → Option Ty
type_to_borrow mir mutability place = unless_closure (type_reached mir mutability place)

-- the aggregate keeps its rules: the struct is declared with this number of regions, and there is one operand for each field, of its shape
abbrev pub can_create : Mir → Making → Bool
can_create mir aggregate =
    option_map_or
    (λ (d : StructDeclaration). takes_regions aggregate.instance d && have_shapes mir aggregate.operands d.fields)
    (struct_of mir.types aggregate.instance.name)
    false

-- the creation keeps its rules: the closure is a child, it has as many regions as the child has external ones, and there is one operand for
-- each capture, of its shape
abbrev pub can_capture : Mir → Creation → Bool
can_capture mir creation =
    option_map_or
    (λ (header : Header). takes_externals creation.closure header && have_shapes mir creation.operands header.captures)
    (child_of mir.children creation.closure.number)
    false

-- the type of an rvalue: a borrow is a reference to what it borrows, and `calc` computes an `int` from `int`s
abbrev pub type_of_rvalue : Mir → Rvalue → Option Ty
type_of_rvalue mir (Use operand) = type_of_operand mir operand
type_of_rvalue mir (Borrow borrow) =
    option_map (type_referenced borrow.reference) (type_to_borrow mir borrow.reference.mutability borrow.place)
type_of_rvalue mir (Aggregate aggregate) =
    allowed (can_create mir aggregate) (Some (struct_type aggregate.instance))
type_of_rvalue mir (Closure creation) = allowed (can_capture mir creation) (Some (closure_type creation.closure))
type_of_rvalue mir (Calc operands) = allowed (list_all (is_operand_int mir) operands) (Some int_type)

-- both types exist and have the same shape
abbrev pub of_one_shape : Option Ty → Option Ty → Bool
of_one_shape None value = false
of_one_shape (Some target) value = has_shape target value

-- a place that may be dropped: it has a type, and no `.*`
abbrev pub can_drop : Mir → Place → Bool
can_drop mir place = has_no_deref place && is_some (type_of_place mir place)

-- a statement keeps the rules: the target of an assignment may be written and has the shape of the value, `dead` names a declared local,
-- and `drop` a place that may be dropped
abbrev pub statement_keeps_rules : Mir → Simple → Bool
statement_keeps_rules mir (Assign assignment) =
    of_one_shape (type_to_write mir assignment.target) (type_of_rvalue mir assignment.value)
statement_keeps_rules mir (Dead local) = nat_lt local (length mir.locals)
statement_keeps_rules mir (Drop place) = can_drop mir place
statement_keeps_rules mir Nop = true

-- the call keeps its rules: it gives as many regions as the function declares, there is one operand for each parameter, of its shape, and
-- the result has the shape of the destination
abbrev pub can_call : Mir → Calling → ExternDeclaration → Bool
can_call mir call d =
    length d.signature.regions == length call.function.regions
    && (have_shapes mir call.operands d.signature.parameters
    && of_one_shape (type_to_write mir call.destination) (Some d.signature.result))

-- the closure in a place that may be invoked: the place has no `.*`, and its type is a closure
abbrev pub closure_in : Mir → Place → Option ClosureInstance
closure_in mir place = allowed (has_no_deref place) (option_and_then closure_of (type_of_place mir place))

-- the number of the closure in a place that may be invoked
abbrev pub number_in : Mir → Place → Option ℕ
number_in mir place = option_map (λ (closure : ClosureInstance). closure.number) (closure_in mir place)

-- the header of the child whose closure is in a place
abbrev pub child_in : Mir → Place → Option Header
child_in mir place = option_and_then (child_of mir.children) (number_in mir place)

-- the invocation keeps its rules: it gives as many regions as the child has local ones, there is one operand for each parameter, of its
-- shape, and the result has the shape of the destination
abbrev pub can_invoke : Mir → Invocation → Header → Bool
can_invoke mir invocation header =
    takes_locals invocation.regions header
    && (have_shapes mir invocation.operands header.signature.parameters
    && of_one_shape (type_to_write mir invocation.destination) (Some header.signature.result))

-- a terminator keeps the rules: its labels are blocks, its condition is an `int`, and its call or invocation keeps the rules of a declared
-- function or of a child
abbrev pub terminator_keeps_rules : Mir → Ending → Bool
terminator_keeps_rules mir (Goto label) = nat_lt label (length mir.entries)
terminator_keeps_rules mir (If condition) =
    is_operand_int mir condition.operand && (nat_lt condition.then (length mir.entries) && nat_lt condition.otherwise (length mir.entries))
terminator_keeps_rules mir (Call call) =
    nat_lt call.target (length mir.entries) && option_map_or (can_call mir call) (extern_of mir.types call.function.name) false
terminator_keeps_rules mir (Invoke invocation) =
    nat_lt invocation.target (length mir.entries) && option_map_or (can_invoke mir invocation) (child_in mir invocation.closure) false
terminator_keeps_rules mir Return = true
terminator_keeps_rules mir Stop = true

-- no header rule fails: each struct in the type of a local is declared with its number of regions, and each closure is a child and has as
-- many regions as the child has external ones
abbrev pub header_keeps_rules : Mir → Bool
header_keeps_rules mir =
    list_all (has_declared_base (reverse mir.types)) mir.locals && list_all (is_known mir.children) mir.locals
