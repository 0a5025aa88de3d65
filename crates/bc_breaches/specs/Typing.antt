-- Which typing rule a point breaks, and of which of its parts: the first in a fixed order.
use Rattle.std.specs.Prelude.{ℕ, ◌+◌, Bool, true, false, not, ◌==◌, nat_lt, if◌then◌else◌, Option, Some, None, option_and_then, is_some, List, [], ◌∷◌, length, reverse}
use Rattle.std.specs.Option.{option_map, option_map_or}
use Rattle.bc_syntax.specs.declared.syntax.Ty.{Ty}
use Rattle.bc_syntax.specs.declared.syntax.Mutability.{Mutability}
use Rattle.bc_syntax.specs.declared.syntax.Mutability.TheVariants.{Shared, Mutable}
use Rattle.bc_syntax.specs.declared.syntax.Place.{Place}
use Rattle.bc_syntax.specs.declared.syntax.Operand.{Operand}
use Rattle.bc_syntax.specs.declared.syntax.Operand.TheVariants.{Copy, Move, Number}
use Rattle.bc_syntax.specs.declared.syntax.Borrow.{Borrow as Borrowing}
use Rattle.bc_syntax.specs.declared.syntax.Aggregate.{Aggregate as Making}
use Rattle.bc_syntax.specs.declared.syntax.ClosureInstance.{ClosureInstance}
use Rattle.bc_syntax.specs.declared.syntax.Creation.{Creation}
use Rattle.bc_syntax.specs.declared.syntax.Call.{Call as Calling}
use Rattle.bc_syntax.specs.declared.syntax.Invocation.{Invocation}
use Rattle.bc_syntax.specs.declared.syntax.Assignment.{Assignment}
use Rattle.bc_syntax.specs.declared.syntax.Header.{Header}
use Rattle.bc_syntax.specs.declared.syntax.Rvalue.{Rvalue}
use Rattle.bc_syntax.specs.declared.syntax.Rvalue.TheVariants.{Use, Borrow, Aggregate, Closure, Calc}
use Rattle.bc_syntax.specs.declared.syntax.Statement.{Statement as Simple}
use Rattle.bc_syntax.specs.declared.syntax.Statement.TheVariants.{Assign, Dead, Drop, Nop}
use Rattle.bc_syntax.specs.declared.syntax.Terminator.{Terminator as Ending}
use Rattle.bc_syntax.specs.declared.syntax.Terminator.TheVariants.{Goto, If, Call, Invoke, Return, Stop}
use Rattle.bc_syntax.specs.declared.syntax.StructDeclaration.{StructDeclaration}
use Rattle.bc_syntax.specs.declared.syntax.ExternDeclaration.{ExternDeclaration}
use Rattle.bc_types.specs.Declarations.{takes_regions, has_declared_base, struct_of, extern_of}
use Rattle.bc_bodies.specs.declared.mir.Step.{Step}
use Rattle.bc_bodies.specs.declared.mir.Instruction.{Instruction}
use Rattle.bc_bodies.specs.declared.mir.Instruction.TheVariants.{Statement, Terminator}
use Rattle.bc_bodies.specs.Places.{are_mutable, has_no_deref}
use Rattle.bc_bodies.specs.Mir.{Mir}
use Rattle.bc_bodies.specs.Children.{child_of, takes_externals, takes_locals, is_known}
use Rattle.bc_bodies.specs.PlaceTypes.{type_of_place, references_of_place}
use Rattle.bc_shapes.specs.Forms.{struct_type, type_referenced, closure_type, closure_of}
use Rattle.bc_shapes.specs.Shapes.{one_shape, is_int_type, is_copyable_type}
use Rattle.bc_mir.specs.declared.typed.Where.{Where}
use Rattle.bc_mir.specs.declared.typed.Where.TheVariants as places
use Rattle.bc_mir.specs.Rules.{type_of_operand, has_shape, is_operand_int, of_one_shape}
use Rattle.bc_breaches.specs.Firsts.{first_of}
use Rattle.bc_breaches.specs.declared.rule.TypedPart.{TypedPart}
use Rattle.bc_breaches.specs.declared.rule.TypedPart.TheVariants as parts
use Rattle.bc_breaches.specs.declared.rule.TypingRule.{TypingRule}
use Rattle.bc_breaches.specs.declared.rule.TypingRule.TheVariants as rules
use Rattle.bc_breaches.specs.declared.rule.PointBreach.{PointBreach}
use Rattle.bc_breaches.specs.declared.unit.IllBreach.{IllBreach}
use Rattle.bc_breaches.specs.declared.unit.IllBreach.TheVariants as ills

-- a part breaks a rule unless this holds
abbrev pub unless : Bool → TypedPart → TypingRule → Option PointBreach
unless true part rule = None
unless false part rule = Some (record { part = part; rule = rule })

-- a place has a type
abbrev pub place_breach : Mir → TypedPart → Place → Option PointBreach
place_breach mir part place = unless (is_some (type_of_place mir place)) part rules.HasType

-- a place has a type, and no shared reference is dereferenced on the way to it
abbrev pub written_breach : Mir → TypedPart → Place → Option PointBreach
written_breach mir part place = first_of (place_breach mir part place) (unless (are_mutable (references_of_place mir place)) part rules.IsMutable)

-- ---- operands

-- what `copy` takes has a type, and may be copied
abbrev pub copied_breach : TypedPart → Option Ty → Option PointBreach
copied_breach part None = unless false part rules.HasType
copied_breach part (Some ty) = unless (is_copyable_type ty) part rules.IsCopyable

-- an operand, by its number: `copy` takes what may be copied, `move` takes a place without `.*`
abbrev pub operand_breach : Mir → ℕ → Operand → Option PointBreach
operand_breach mir k (Copy place) = copied_breach (parts.Operand k) (type_of_place mir place)
operand_breach mir k (Move place) =
    first_of (unless (has_no_deref place) (parts.Operand k) rules.HasNoDereference) (place_breach mir (parts.Operand k) place)
operand_breach mir k (Number n) = None

-- an operand breaks no rule of its own, and has the shape of its expected type
abbrev pub fit_breach : Mir → ℕ → Operand → Ty → Option PointBreach
fit_breach mir k operand ty = first_of (operand_breach mir k operand) (unless (has_shape ty (type_of_operand mir operand)) (parts.Operand k) rules.HasShape)

-- there are as many operands as expected types, and each fits its type; the first operand has this number
abbrev pub operands_breach : Mir → ℕ → List Operand → List Ty → Option PointBreach
operands_breach mir k [] [] = None
operands_breach mir k [] (ty ∷ expected) = unless false parts.Named rules.HasOperandCount
operands_breach mir k (operand ∷ operands) [] = unless false parts.Named rules.HasOperandCount
operands_breach mir k (operand ∷ operands) (ty ∷ expected) = first_of (fit_breach mir k operand ty) (operands_breach mir (k + 1) operands expected)

-- an operand breaks no rule of its own, and is an `int`
abbrev pub int_breach : Mir → ℕ → Operand → Option PointBreach
int_breach mir k operand = first_of (operand_breach mir k operand) (unless (is_operand_int mir operand) (parts.Operand k) rules.IsInt)

-- each operand is an `int`; the first has this number
abbrev pub ints_breach : Mir → ℕ → List Operand → Option PointBreach
ints_breach mir k [] = None
ints_breach mir k (operand ∷ operands) = first_of (int_breach mir k operand) (ints_breach mir (k + 1) operands)

-- ---- values

-- the type exists and is no closure
abbrev pub is_no_closure : Option Ty → Bool
is_no_closure found = option_map_or (λ ty. not (is_some (closure_of ty))) found false

-- a place may be reached by a borrow: it has a type, and for a mutable borrow it may be written
abbrev pub reached_breach : Mir → Mutability → Place → Option PointBreach
reached_breach mir Shared place = place_breach mir parts.Borrowed place
reached_breach mir Mutable place = written_breach mir parts.Borrowed place

-- a place may be borrowed: it may be reached, and is no closure
abbrev pub borrow_breach : Mir → Borrowing → Option PointBreach
borrow_breach mir borrow =
    first_of (reached_breach mir borrow.reference.mutability borrow.place)
    (unless (is_no_closure (type_of_place mir borrow.place)) parts.Borrowed rules.IsNoClosure)

-- a struct is declared with this number of regions, and the operands fit its fields
abbrev pub aggregate_breach : Mir → Making → Option StructDeclaration → Option PointBreach
aggregate_breach mir aggregate None = unless false parts.Named rules.IsDeclared
aggregate_breach mir aggregate (Some d) =
    first_of (unless (takes_regions aggregate.instance d) parts.Named rules.HasRegionCount) (operands_breach mir 0 aggregate.operands d.fields)

-- a closure is a child, and the regions and operands fit its external regions and captures
abbrev pub creation_breach : Mir → Creation → Option Header → Option PointBreach
creation_breach mir creation None = unless false parts.Named rules.IsDeclared
creation_breach mir creation (Some header) =
    first_of (unless (takes_externals creation.closure header) parts.Named rules.HasRegionCount)
    (operands_breach mir 0 creation.operands header.captures)

-- an rvalue
abbrev pub value_breach : Mir → Rvalue → Option PointBreach
value_breach mir (Use operand) = operand_breach mir 0 operand
value_breach mir (Borrow borrow) = borrow_breach mir borrow
value_breach mir (Aggregate aggregate) = aggregate_breach mir aggregate (struct_of mir.types aggregate.instance.name)
value_breach mir (Closure creation) = creation_breach mir creation (child_of mir.children creation.closure.number)
value_breach mir (Calc operands) = ints_breach mir 0 operands

-- an rvalue that breaks no rule of its own has the shape of a target
abbrev pub value_fits : Mir → Ty → Rvalue → Bool
value_fits mir target (Use operand) = has_shape target (type_of_operand mir operand)
value_fits mir target (Borrow borrow) = has_shape target (option_map (type_referenced borrow.reference) (type_of_place mir borrow.place))
value_fits mir target (Aggregate aggregate) = one_shape (struct_type aggregate.instance) target
value_fits mir target (Closure creation) = one_shape (closure_type creation.closure) target
value_fits mir target (Calc operands) = is_int_type target

-- ---- statements and terminators

-- an assignment, in this order: its target may be written, its value breaks no rule of its own, and both have one shape
abbrev pub assignment_breach : Mir → Assignment → Option PointBreach
assignment_breach mir assignment =
    first_of (written_breach mir parts.Target assignment.target)
    (first_of (value_breach mir assignment.value)
    (unless (option_map_or (λ target. value_fits mir target assignment.value) (type_of_place mir assignment.target) false) parts.Target rules.HasShape))

-- a place without `.*` that has a type
abbrev pub dropped_breach : Mir → Place → Option PointBreach
dropped_breach mir place = first_of (unless (has_no_deref place) parts.Dropped rules.HasNoDereference) (place_breach mir parts.Dropped place)

-- a statement
abbrev pub statement_breach : Mir → Simple → Option PointBreach
statement_breach mir (Assign assignment) = assignment_breach mir assignment
statement_breach mir (Dead local) = unless (nat_lt local (length mir.locals)) parts.Target rules.HasType
statement_breach mir (Drop place) = dropped_breach mir place
statement_breach mir Nop = None

-- a destination may be written, and has the shape of a result
abbrev pub result_breach : Mir → Place → Ty → Option PointBreach
result_breach mir destination returned =
    first_of (written_breach mir parts.Target destination)
    (unless (of_one_shape (type_of_place mir destination) (Some returned)) parts.Target rules.HasShape)

-- a function is declared with this number of regions, the operands fit its parameters, and its result the destination
abbrev pub called_breach : Mir → Calling → Option ExternDeclaration → Option PointBreach
called_breach mir call None = unless false parts.Named rules.IsDeclared
called_breach mir call (Some d) =
    first_of (unless (length d.signature.regions == length call.function.regions) parts.Named rules.HasRegionCount)
    (first_of (operands_breach mir 0 call.operands d.signature.parameters) (result_breach mir call.destination d.signature.result))

-- the place of `invoke` has no `.*`, and its type is a closure
abbrev pub invoked_breach : Mir → Place → Option PointBreach
invoked_breach mir place =
    first_of (unless (has_no_deref place) parts.Invoked rules.HasNoDereference)
    (first_of (place_breach mir parts.Invoked place)
    (unless (is_some (option_and_then closure_of (type_of_place mir place))) parts.Invoked rules.IsClosure))

-- the header of the child whose closure a type is, if there is one
abbrev pub child_found : Mir → Option Ty → Option Header
child_found mir found = option_and_then (λ (closure : ClosureInstance). child_of mir.children closure.number) (option_and_then closure_of found)

-- a closure is a child, the regions and operands fit its local regions and parameters, and its result the destination
abbrev pub passed_breach : Mir → Invocation → Option Header → Option PointBreach
passed_breach mir invocation None = unless false parts.Invoked rules.IsDeclared
passed_breach mir invocation (Some header) =
    first_of (unless (takes_locals invocation.regions header) parts.Named rules.HasRegionCount)
    (first_of (operands_breach mir 0 invocation.operands header.signature.parameters) (result_breach mir invocation.destination header.signature.result))

-- a label is one of a block
abbrev pub label_breach : Mir → ℕ → Option PointBreach
label_breach mir label = unless (nat_lt label (length mir.entries)) parts.Label rules.IsBlock

-- a terminator
abbrev pub terminator_breach : Mir → Ending → Option PointBreach
terminator_breach mir (Goto label) = label_breach mir label
terminator_breach mir (If condition) =
    first_of (int_breach mir 0 condition.operand) (first_of (label_breach mir condition.then) (label_breach mir condition.otherwise))
terminator_breach mir (Call call) = first_of (label_breach mir call.target) (called_breach mir call (extern_of mir.types call.function.name))
terminator_breach mir (Invoke invocation) =
    first_of (label_breach mir invocation.target)
    (first_of (invoked_breach mir invocation.closure) (passed_breach mir invocation (child_found mir (type_of_place mir invocation.closure))))
terminator_breach mir Return = None
terminator_breach mir Stop = None

-- the first typing rule that a point breaks
abbrev pub point_breach : Mir → Instruction → Option PointBreach
point_breach mir (Statement statement) = statement_breach mir statement
point_breach mir (Terminator terminator) = terminator_breach mir terminator

-- ---- units

-- the first local, from this number on, whose type mentions a struct that is not declared with its number of regions
abbrev pub struct_breach : Mir → ℕ → List Ty → Option IllBreach
struct_breach mir local [] = None
struct_breach mir local (ty ∷ tys) = if has_declared_base (reverse mir.types) ty then struct_breach mir (local + 1) tys else Some (ills.Struct local)

-- the first local, from this number on, whose type is a closure that is no child or has another number of external regions
abbrev pub closure_breach : Mir → ℕ → List Ty → Option IllBreach
closure_breach mir local [] = None
closure_breach mir local (ty ∷ tys) = if is_known mir.children ty then closure_breach mir (local + 1) tys else Some (ills.Closure local)

-- the first point that breaks a rule, with the first rule that it breaks
abbrev pub steps_breach : Mir → List Step → Option IllBreach
steps_breach mir [] = None
steps_breach mir (step ∷ steps) = first_of (option_map (ills.Point step.point) (point_breach mir step.instruction)) (steps_breach mir steps)

-- the first rule that a unit breaks: at its header, otherwise at its least point
abbrev pub unit_breach : Mir → Option IllBreach
unit_breach mir = first_of (struct_breach mir 0 mir.locals) (first_of (closure_breach mir 0 mir.locals) (steps_breach mir mir.steps))

-- where a breach is
abbrev pub place_of : IllBreach → Where
place_of (ills.Struct local) = places.Header
place_of (ills.Closure local) = places.Header
place_of (ills.Point point breach) = places.At point
