-- The accesses of an instruction, each with the part of the instruction that makes it.
use Rattle.std.specs.Prelude.{ℕ, List, [], ◌∷◌, ◌++◌, length, map}
use Rattle.std.specs.List.{flat_map, enumerate_from, range_with_len}
use Rattle.bc_syntax.specs.declared.syntax.Operand.{Operand}
use Rattle.bc_syntax.specs.declared.syntax.Operand.TheVariants.{Copy, Move, Number}
use Rattle.bc_syntax.specs.declared.syntax.Rvalue.{Rvalue}
use Rattle.bc_syntax.specs.declared.syntax.Rvalue.TheVariants.{Use, Borrow, Aggregate, Closure, Calc}
use Rattle.bc_syntax.specs.declared.syntax.Statement.{Statement as Simple}
use Rattle.bc_syntax.specs.declared.syntax.Statement.TheVariants.{Assign, Dead, Drop, Nop}
use Rattle.bc_syntax.specs.declared.syntax.Terminator.{Terminator as Ending}
use Rattle.bc_syntax.specs.declared.syntax.Terminator.TheVariants.{Goto, If, Call, Invoke, Return, Stop}
use Rattle.bc_bodies.specs.declared.mir.Instruction.{Instruction}
use Rattle.bc_bodies.specs.declared.mir.Instruction.TheVariants.{Statement, Terminator}
use Rattle.bc_bodies.specs.Mir.{Mir}
use Rattle.bc_points.specs.declared.access.Access.{Access}
use Rattle.bc_points.specs.declared.access.Depth.TheVariants.{Shallow, Deep}
use Rattle.bc_points.specs.declared.access.AccessKind.TheVariants.{Write}
use Rattle.bc_points.specs.Accesses.{access_of, operand_accesses, rvalue_accesses, statement_accesses, return_accesses}
use Rattle.bc_reasons.specs.declared.part.Part.{Part}
use Rattle.bc_reasons.specs.declared.part.Part.TheVariants as parts
use Rattle.bc_reasons.specs.declared.access.AccessReason.{AccessReason}

-- accesses that one part makes
abbrev pub made_by : Part → List Access → List AccessReason
made_by part accesses = map (λ (access : Access). record { access = access; part = part }) accesses

-- the access of an operand, by its number
abbrev pub operand_reasons : ℕ → Operand → List AccessReason
operand_reasons k operand = made_by (parts.Operand k) (operand_accesses operand)

-- the accesses of operands, each operand by its number among all
abbrev pub operands_reasons : List Operand → List AccessReason
operands_reasons operands = flat_map (λ (here : ℕ × Operand). operand_reasons here.0 here.1) (enumerate_from 0 operands)

-- a place that is overwritten
abbrev pub target_reasons : Access → List AccessReason
target_reasons access = made_by parts.Target (access ∷ [])

-- the accesses of an rvalue, in order
abbrev pub rvalue_reasons : Rvalue → List AccessReason
rvalue_reasons (Use operand) = operand_reasons 0 operand
rvalue_reasons (Borrow borrow) = made_by parts.Borrowed (rvalue_accesses (Borrow borrow))
rvalue_reasons (Aggregate aggregate) = operands_reasons aggregate.operands
rvalue_reasons (Closure creation) = operands_reasons creation.operands
rvalue_reasons (Calc operands) = operands_reasons operands

-- the accesses of a statement, in order; that of the target is the last
abbrev pub statement_reasons : Mir → Simple → List AccessReason
statement_reasons mir (Assign assignment) =
    rvalue_reasons assignment.value ++ target_reasons (access_of Shallow Write assignment.target)
statement_reasons mir (Dead local) = made_by parts.Dead (statement_accesses mir (Dead local))
statement_reasons mir (Drop place) = made_by parts.Drop (statement_accesses mir (Drop place))
statement_reasons mir Nop = []

-- the accesses of a terminator, in order, in a body with this many locals
abbrev pub terminator_reasons : ℕ → Ending → List AccessReason
terminator_reasons locals (Goto label) = []
terminator_reasons locals (If condition) = operand_reasons 0 condition.operand
terminator_reasons locals (Call call) = operands_reasons call.operands ++ target_reasons (access_of Shallow Write call.destination)
terminator_reasons locals (Invoke invocation) =
    made_by parts.Invoked (access_of Deep Write invocation.closure ∷ [])
    ++ (operands_reasons invocation.operands ++ target_reasons (access_of Shallow Write invocation.destination))
terminator_reasons locals Return = made_by parts.Return (return_accesses locals)
terminator_reasons locals Stop = []

-- the accesses of an instruction, in order, each with the part that makes it (RFC 2094, "Borrow checker phase 2")
abbrev pub access_reasons : Mir → Instruction → List AccessReason
access_reasons mir (Statement statement) = statement_reasons mir statement
access_reasons mir (Terminator terminator) = terminator_reasons (length mir.locals) terminator

-- ---- the parts alone

-- an operand by its number: a copy and a move access their place, and a number has no access
abbrev pub operand_parts : ℕ → Operand → List Part
operand_parts k (Copy place) = parts.Operand k ∷ []
operand_parts k (Move place) = parts.Operand k ∷ []
operand_parts k (Number n) = []

-- each operand that has an access, by its number among all
abbrev pub operands_parts : List Operand → List Part
operands_parts operands = flat_map (λ (here : ℕ × Operand). operand_parts here.0 here.1) (enumerate_from 0 operands)

-- the parts of an rvalue that have an access, in order
abbrev pub rvalue_parts : Rvalue → List Part
rvalue_parts (Use operand) = operand_parts 0 operand
rvalue_parts (Borrow borrow) = parts.Borrowed ∷ []
rvalue_parts (Aggregate aggregate) = operands_parts aggregate.operands
rvalue_parts (Closure creation) = operands_parts creation.operands
rvalue_parts (Calc operands) = operands_parts operands

-- the parts of a statement that have an access, in order; the target is the last
abbrev pub statement_parts : Simple → List Part
statement_parts (Assign assignment) = rvalue_parts assignment.value ++ parts.Target ∷ []
statement_parts (Dead local) = parts.Dead ∷ []
statement_parts (Drop place) = parts.Drop ∷ []
statement_parts Nop = []

-- `return` has an access of each local
abbrev pub return_parts : ℕ → List Part
return_parts locals = map (λ local. parts.Return) (range_with_len 0 locals)

-- the parts of a terminator that have an access, in order, in a body with this many locals
abbrev pub terminator_parts : ℕ → Ending → List Part
terminator_parts locals (Goto label) = []
terminator_parts locals (If condition) = operand_parts 0 condition.operand
terminator_parts locals (Call call) = operands_parts call.operands ++ parts.Target ∷ []
terminator_parts locals (Invoke invocation) = parts.Invoked ∷ (operands_parts invocation.operands ++ parts.Target ∷ [])
terminator_parts locals Return = return_parts locals
terminator_parts locals Stop = []

-- the part of an instruction that makes each of its accesses, in the order of the accesses
abbrev pub parts_of : Mir → Instruction → List Part
parts_of mir (Statement statement) = statement_parts statement
parts_of mir (Terminator terminator) = terminator_parts (length mir.locals) terminator
