-- What each point does: its accesses in order, and the locals that it uses and defines.
use Rattle.std.specs.Prelude.{ℕ, Bool, true, false, Option, Some, None, List, [], ◌∷◌, ◌++◌, length, map, if◌then◌else◌}
use Rattle.std.specs.List.{flat_map, range_with_len}
use Rattle.std.specs.Option.{option_map_or}
use Rattle.bc_syntax.specs.declared.syntax.Mutability.{Mutability}
use Rattle.bc_syntax.specs.declared.syntax.Mutability.TheVariants.{Shared, Mutable}
use Rattle.bc_syntax.specs.declared.syntax.Projection.{Projection}
use Rattle.bc_syntax.specs.declared.syntax.Place.{Place}
use Rattle.bc_syntax.specs.declared.syntax.Operand.{Operand}
use Rattle.bc_syntax.specs.declared.syntax.Operand.TheVariants.{Copy, Move, Number}
use Rattle.bc_syntax.specs.declared.syntax.Rvalue.{Rvalue}
use Rattle.bc_syntax.specs.declared.syntax.Rvalue.TheVariants.{Use, Borrow, Aggregate, Closure, Calc}
use Rattle.bc_syntax.specs.declared.syntax.Statement.{Statement as Simple}
use Rattle.bc_syntax.specs.declared.syntax.Statement.TheVariants.{Assign, Dead, Drop, Nop}
use Rattle.bc_syntax.specs.declared.syntax.Terminator.{Terminator as Ending}
use Rattle.bc_syntax.specs.declared.syntax.Terminator.TheVariants.{Goto, If, Call, Invoke, Return, Stop}
use Rattle.bc_bodies.specs.declared.mir.Instruction.{Instruction}
use Rattle.bc_bodies.specs.declared.mir.Instruction.TheVariants.{Statement, Terminator}
use Rattle.bc_points.specs.declared.access.Access.{Access}
use Rattle.bc_points.specs.declared.access.Depth.{Depth}
use Rattle.bc_points.specs.declared.access.Depth.TheVariants.{Shallow, Deep}
use Rattle.bc_points.specs.declared.access.AccessKind.{AccessKind}
use Rattle.bc_points.specs.declared.access.AccessKind.TheVariants.{Read, Write}
use Rattle.bc_bodies.specs.Mir.{Mir}
use Rattle.bc_mir.specs.Drops.{type_holds_drop}
use Rattle.bc_bodies.specs.PlaceTypes.{type_of_place}

-- a local alone, as a place
abbrev pub local_place : ℕ → Place
local_place local = record { local = local; projections = [] }

-- an access of this depth and this kind to a place
abbrev pub access_of : Depth → AccessKind → Place → Access
access_of depth kind place = record { place = place; depth = depth; kind = kind }

-- `copy` reads deeply, `move` writes deeply, and a number has no access
abbrev pub operand_accesses : Operand → List Access
operand_accesses (Copy place) = access_of Deep Read place ∷ []
operand_accesses (Move place) = access_of Deep Write place ∷ []
operand_accesses (Number n) = []

-- a shared borrow reads, a mutable one writes
abbrev pub borrow_access : Mutability → AccessKind
borrow_access Shared = Read
borrow_access Mutable = Write

-- the accesses of an rvalue, in order
abbrev pub rvalue_accesses : Rvalue → List Access
rvalue_accesses (Use operand) = operand_accesses operand
rvalue_accesses (Borrow borrow) = access_of Deep (borrow_access borrow.reference.mutability) borrow.place ∷ []
rvalue_accesses (Aggregate aggregate) = flat_map operand_accesses aggregate.operands
rvalue_accesses (Closure creation) = flat_map operand_accesses creation.operands
rvalue_accesses (Calc operands) = flat_map operand_accesses operands

-- the type of the place needs drop
abbrev pub runs_drop : Mir → Place → Bool
runs_drop mir place = option_map_or (type_holds_drop mir) (type_of_place mir place) false

-- dropping a place writes it: deeply if its type needs drop, otherwise shallowly
abbrev pub drop_access : Mir → Place → Access
drop_access mir place =
    if runs_drop mir place then access_of Deep Write place else access_of Shallow Write place

-- dropping a place uses its local if its type needs drop
abbrev pub drop_uses : Mir → Place → List ℕ
drop_uses mir place = if runs_drop mir place then place.local ∷ [] else []

-- the accesses of a statement, in order; the access of the target is the last
abbrev pub statement_accesses : Mir → Simple → List Access
statement_accesses mir (Assign assignment) =
    rvalue_accesses assignment.value ++ access_of Shallow Write assignment.target ∷ []
statement_accesses mir (Dead local) = access_of Shallow Write (local_place local) ∷ []
statement_accesses mir (Drop place) = drop_access mir place ∷ []
statement_accesses mir Nop = []

-- `return` writes every local in order
abbrev pub return_accesses : ℕ → List Access
return_accesses locals = map (λ local. access_of Shallow Write (local_place local)) (range_with_len 0 locals)

-- the accesses of a terminator, in order, in a body with this many locals
abbrev pub terminator_accesses : ℕ → Ending → List Access
terminator_accesses locals (Goto label) = []
terminator_accesses locals (If condition) = operand_accesses condition.operand
terminator_accesses locals (Call call) =
    flat_map operand_accesses call.operands ++ access_of Shallow Write call.destination ∷ []
terminator_accesses locals (Invoke invocation) =
    access_of Deep Write invocation.closure
    ∷ (flat_map operand_accesses invocation.operands ++ access_of Shallow Write invocation.destination ∷ [])
terminator_accesses locals Return = return_accesses locals
terminator_accesses locals Stop = []

-- the accesses of a point, in order (RFC 2094, "Borrow checker phase 2")
abbrev pub accesses_of : Mir → Instruction → List Access
accesses_of mir (Statement statement) = statement_accesses mir statement
accesses_of mir (Terminator terminator) = terminator_accesses (length mir.locals) terminator

-- the place that a point overwrites, if it overwrites one
abbrev pub overwritten : Instruction → Option Place
overwritten (Statement (Assign assignment)) = Some assignment.target
overwritten (Statement (Dead local)) = Some (local_place local)
overwritten (Statement (Drop place)) = None
overwritten (Statement Nop) = None
overwritten (Terminator (Goto label)) = None
overwritten (Terminator (If condition)) = None
overwritten (Terminator (Call call)) = Some call.destination
overwritten (Terminator (Invoke invocation)) = Some invocation.destination
overwritten (Terminator Return) = None
overwritten (Terminator Stop) = None

-- an operand uses the local of its place
abbrev pub operand_uses : Operand → List ℕ
operand_uses (Copy place) = place.local ∷ []
operand_uses (Move place) = place.local ∷ []
operand_uses (Number n) = []

-- the locals that an rvalue uses
abbrev pub rvalue_uses : Rvalue → List ℕ
rvalue_uses (Use operand) = operand_uses operand
rvalue_uses (Borrow borrow) = borrow.place.local ∷ []
rvalue_uses (Aggregate aggregate) = flat_map operand_uses aggregate.operands
rvalue_uses (Closure creation) = flat_map operand_uses creation.operands
rvalue_uses (Calc operands) = flat_map operand_uses operands

-- there are no projections
abbrev pub are_none : List Projection → Bool
are_none [] = true
are_none (projection ∷ projections) = false

-- the place is a local alone
abbrev pub is_whole_local : Place → Bool
is_whole_local place = are_none place.projections

-- the local that a write to a place uses: the place's local, if the place has a projection
abbrev pub target_uses : Place → List ℕ
target_uses place = if is_whole_local place then [] else place.local ∷ []

-- the local that a write to a place defines: the place's local, if the place is that local alone
abbrev pub target_defines : Place → Option ℕ
target_defines place = if is_whole_local place then Some place.local else None

-- the locals that a point uses (RFC 2094, "Liveness")
abbrev pub uses_of : Mir → Instruction → List ℕ
uses_of mir (Statement (Assign assignment)) = rvalue_uses assignment.value ++ target_uses assignment.target
uses_of mir (Statement (Dead local)) = []
uses_of mir (Statement (Drop place)) = drop_uses mir place
uses_of mir (Statement Nop) = []
uses_of mir (Terminator (Goto label)) = []
uses_of mir (Terminator (If condition)) = operand_uses condition.operand
uses_of mir (Terminator (Call call)) = flat_map operand_uses call.operands ++ target_uses call.destination
uses_of mir (Terminator (Invoke invocation)) =
    invocation.closure.local ∷ (flat_map operand_uses invocation.operands ++ target_uses invocation.destination)
uses_of mir (Terminator Return) = 0 ∷ []
uses_of mir (Terminator Stop) = []

-- the local that a point defines, if it defines one (RFC 2094, "Liveness")
abbrev pub defines_of : Instruction → Option ℕ
defines_of (Statement (Assign assignment)) = target_defines assignment.target
defines_of (Statement (Dead local)) = Some local
defines_of (Statement (Drop place)) = None
defines_of (Statement Nop) = None
defines_of (Terminator (Goto label)) = None
defines_of (Terminator (If condition)) = None
defines_of (Terminator (Call call)) = target_defines call.destination
defines_of (Terminator (Invoke invocation)) = target_defines invocation.destination
defines_of (Terminator Return) = None
defines_of (Terminator Stop) = None
