-- The accesses with their parts are the accesses, and their parts are the parts.
use Rattle.std.proofs.Common.{◌≡◌, ℕ, zero, suc, ◌+◌, Option, Some, List, [], ◌∷◌, ◌++◌, length, map, refl, sym, ap, ◌∙◌, arith}
use Rattle.std.specs.Prelude.{slice_get}
use Rattle.std.specs.List.{flat_map, enumerate_from, range_with_len}
use Rattle.std.specs.Option.{option_map}
use Rattle.std.proofs.lemmas.List.{map-append, length-map}
use Rattle.std.proofs.lemmas.List.FromFn.{map-range_with_len_more}
use Rattle.std.proofs.lemmas.Option.{same_Some, slice_get-map}
use Rattle.bc_syntax.specs.declared.syntax.Operand.{Operand}
use Rattle.bc_syntax.specs.declared.syntax.Operand.TheVariants.{Copy, Move, Number}
use Rattle.bc_syntax.specs.declared.syntax.Rvalue.{Rvalue}
use Rattle.bc_syntax.specs.declared.syntax.Rvalue.TheVariants.{Use, Borrow, Aggregate, Closure, Calc}
use Rattle.bc_syntax.specs.declared.syntax.Statement.{Statement as Simple}
use Rattle.bc_syntax.specs.declared.syntax.Statement.TheVariants.{Assign, Dead, Drop, Nop}
use Rattle.bc_syntax.specs.declared.syntax.Terminator.{Terminator as Ending}
use Rattle.bc_syntax.specs.declared.syntax.Terminator.TheVariants.{Goto, If, Call, Invoke, Return, Stop}
use Rattle.bc_bodies.specs.declared.mir.Instruction.{Instruction}
use Rattle.bc_bodies.specs.declared.mir.Instruction.TheVariants.{Statement, Terminator}
use Rattle.bc_bodies.specs.Mir.{Mir}
use Rattle.bc_points.specs.declared.access.Access.{Access}
use Rattle.bc_points.specs.declared.access.Depth.TheVariants.{Shallow, Deep}
use Rattle.bc_points.specs.declared.access.AccessKind.TheVariants.{Write}
use Rattle.bc_points.specs.Accesses.{access_of, local_place, operand_accesses, rvalue_accesses, statement_accesses, terminator_accesses, accesses_of}
use Rattle.bc_reasons.specs.declared.part.Part.{Part}
use Rattle.bc_reasons.specs.declared.part.Part.TheVariants as parts
use Rattle.bc_reasons.specs.declared.access.AccessReason.{AccessReason}
use Rattle.bc_reasons.specs.Parts.{made_by, operand_reasons, operands_reasons, target_reasons, rvalue_reasons, statement_reasons, terminator_reasons, access_reasons, operand_parts, operands_parts, rvalue_parts, statement_parts, return_parts, terminator_parts, parts_of}

-- one more local adds one part
pub return_parts-more : (n : ℕ) → return_parts (n + 1) ≡ return_parts n ++ parts.Return ∷ []
return_parts-more n = map-range_with_len_more (λ (local : ℕ). parts.Return) 0 n n (omega arith)

abbrev pub accesses_in : List AccessReason → List Access
accesses_in reasons = map (λ (reason : AccessReason). reason.access) reasons

abbrev pub parts_in : List AccessReason → List Part
parts_in reasons = map (λ (reason : AccessReason). reason.part) reasons

-- these accesses are made by these parts, in order
abbrev AreMade : List AccessReason → List Access → List Part → Type 0
AreMade reasons accesses parts = (accesses_in reasons ≡ accesses) × (parts_in reasons ≡ parts)

both : (one two : List AccessReason) (first second : List Access) (left right : List Part) → AreMade one first left → AreMade two second right → AreMade (one ++ two) (first ++ second) (left ++ right)
both one two first second left right is are = (
  map-append (λ (reason : AccessReason). reason.access) one two ∙ ap (λ l. l ++ accesses_in two) is.0 ∙ ap (λ l. first ++ l) are.0,
  map-append (λ (reason : AccessReason). reason.part) one two ∙ ap (λ l. l ++ parts_in two) is.1 ∙ ap (λ l. left ++ l) are.1,
)

of_operand : (k : ℕ) (operand : Operand) → AreMade (operand_reasons k operand) (operand_accesses operand) (operand_parts k operand)
of_operand k (Copy place) = (refl, refl)
of_operand k (Move place) = (refl, refl)
of_operand k (Number n) = (refl, refl)

of_each : (k : ℕ) (operands : List Operand) → AreMade
    (flat_map (λ (here : ℕ × Operand). operand_reasons here.0 here.1) (enumerate_from k operands)) (flat_map operand_accesses operands)
    (flat_map (λ (here : ℕ × Operand). operand_parts here.0 here.1) (enumerate_from k operands))
of_each k [] = (refl, refl)
of_each k (operand ∷ operands) =
    both (operand_reasons k operand) _ (operand_accesses operand) (flat_map operand_accesses operands) (operand_parts k operand) _ (of_operand k operand) (of_each (k + 1) operands)

of_rvalue : (rvalue : Rvalue) → AreMade (rvalue_reasons rvalue) (rvalue_accesses rvalue) (rvalue_parts rvalue)
of_rvalue (Use operand) = of_operand 0 operand
of_rvalue (Borrow borrow) = (refl, refl)
of_rvalue (Aggregate aggregate) = of_each 0 aggregate.operands
of_rvalue (Closure creation) = of_each 0 creation.operands
of_rvalue (Calc operands) = of_each 0 operands

of_target : (access : Access) → AreMade (target_reasons access) (access ∷ []) (parts.Target ∷ [])
of_target access = (refl, refl)

of_statement : (mir : Mir) (statement : Simple) → AreMade (statement_reasons mir statement) (statement_accesses mir statement) (statement_parts statement)
of_statement mir (Assign assignment) =
    let target = access_of Shallow Write assignment.target in
    both (rvalue_reasons assignment.value) (target_reasons target) (rvalue_accesses assignment.value) (target ∷ []) (rvalue_parts assignment.value) (parts.Target ∷ [])
    (of_rvalue assignment.value) (of_target target)
of_statement mir (Dead local) = (refl, refl)
of_statement mir (Drop place) = (refl, refl)
of_statement mir Nop = (refl, refl)

-- accesses that one part makes
of_made : {X : Type 0} (part : Part) (f : X → Access) (xs : List X) → AreMade (made_by part (map f xs)) (map f xs) (map (λ x. part) xs)
of_made part f [] = (refl, refl)
of_made part f (x ∷ xs) = let more = of_made part f xs in (ap (λ l. f x ∷ l) more.0, ap (λ l. part ∷ l) more.1)

of_terminator : (locals : ℕ) (terminator : Ending) → AreMade (terminator_reasons locals terminator) (terminator_accesses locals terminator) (terminator_parts locals terminator)
of_terminator locals (Goto label) = (refl, refl)
of_terminator locals (If condition) = of_operand 0 condition.operand
of_terminator locals (Call call) =
    let target = access_of Shallow Write call.destination in
    both (operands_reasons call.operands) (target_reasons target) (flat_map operand_accesses call.operands) (target ∷ []) (operands_parts call.operands) (parts.Target ∷ [])
    (of_each 0 call.operands) (of_target target)
of_terminator locals (Invoke invocation) =
    let target = access_of Shallow Write invocation.destination in
    let rest = both (operands_reasons invocation.operands) (target_reasons target) (flat_map operand_accesses invocation.operands) (target ∷ []) (operands_parts invocation.operands) (parts.Target ∷ [])
    (of_each 0 invocation.operands) (of_target target) in
    (ap (λ l. access_of Deep Write invocation.closure ∷ l) rest.0, ap (λ l. parts.Invoked ∷ l) rest.1)
of_terminator locals Return = of_made parts.Return (λ (local : ℕ). access_of Shallow Write (local_place local)) (range_with_len 0 locals)
of_terminator locals Stop = (refl, refl)

-- the accesses with their parts have the accesses of the instruction, and the parts that make them
pub of_instruction : (mir : Mir) (instruction : Instruction) → (accesses_in (access_reasons mir instruction) ≡ accesses_of mir instruction) × (parts_in (access_reasons mir instruction) ≡ parts_of mir instruction)
of_instruction mir (Statement statement) = of_statement mir statement
of_instruction mir (Terminator terminator) = of_terminator (length mir.locals) terminator

-- ---- one access

-- an access and a part at one place are an access with its part
together : (reasons : List AccessReason) (n : ℕ) (access : Access) (part : Part) → slice_get (accesses_in reasons) n ≡ Some access → slice_get (parts_in reasons) n ≡ Some part →
    slice_get reasons n ≡ Some (record { access = access; part = part })
together [] n access part one other = cc
together (reason ∷ reasons) zero access part one other =
    let made : Access → Part → AccessReason = λ a p. record { access = a; part = p } in
    ap (λ r. Some r) (ap (λ a. made a reason.part) (same_Some reason.access access one) ∙ ap (λ p. made access p) (same_Some reason.part part other))
together (reason ∷ reasons) (suc n) access part one other = together reasons n access part one other

pub at_both : (mir : Mir) (instruction : Instruction) (n : ℕ) (access : Access) (part : Part) → slice_get (accesses_of mir instruction) n ≡ Some access → slice_get (parts_of mir instruction) n ≡ Some part →
    slice_get (access_reasons mir instruction) n ≡ Some (record { access = access; part = part })
at_both mir instruction n access part one other =
    let made = of_instruction mir instruction in
    together (access_reasons mir instruction) n access part (rw made.0 one) (rw made.1 other)

-- there are as many accesses with their parts as accesses
pub as_many : (mir : Mir) (instruction : Instruction) → length (access_reasons mir instruction) ≡ length (accesses_of mir instruction)
as_many mir instruction = sym (length-map (access_reasons mir instruction) (λ (reason : AccessReason). reason.access)) ∙ ap length (of_instruction mir instruction).0

-- and as many parts
pub as_many_parts : (mir : Mir) (instruction : Instruction) → length (parts_of mir instruction) ≡ length (accesses_of mir instruction)
as_many_parts mir instruction =
    sym (ap length (of_instruction mir instruction).1) ∙ length-map (access_reasons mir instruction) (λ (reason : AccessReason). reason.part) ∙ as_many mir instruction

-- the access of a number with its part has the access of that number
pub has_access : (mir : Mir) (instruction : Instruction) (n : ℕ) (found : Option AccessReason) → found ≡ slice_get (access_reasons mir instruction) n →
    option_map (λ (reason : AccessReason). reason.access) found ≡ slice_get (accesses_of mir instruction) n
has_access mir instruction n found is =
    ap (option_map (λ (reason : AccessReason). reason.access)) is
    ∙ sym (slice_get-map (λ (reason : AccessReason). reason.access) (access_reasons mir instruction) n)
    ∙ ap (λ l. slice_get l n) (of_instruction mir instruction).0
