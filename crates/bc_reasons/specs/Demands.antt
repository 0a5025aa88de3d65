-- What demands each constraint of a body, in a fixed order: the points in their order, each with its rules in order, and then the types of the
-- `let` locals. The header demands nothing: a body may rely on what its clauses and the types of its captures and parameters say.
use Rattle.std.specs.Prelude.{◌≡◌, ℕ, ◌+◌, ◌<◌, Bool, ◌&&◌, ◌==◌, Option, Some, List, [], ◌∷◌, ◌++◌, map, filter, slice_get}
use Rattle.std.specs.List.{flat_map, enumerate_from, find}
use Rattle.std.specs.Option.{option_map, option_map_or}
use Rattle.bc_syntax.specs.declared.syntax.Region.{Region}
use Rattle.bc_syntax.specs.declared.syntax.Ty.{Ty}
use Rattle.bc_syntax.specs.declared.syntax.Operand.{Operand}
use Rattle.bc_syntax.specs.declared.syntax.Header.{Header}
use Rattle.bc_syntax.specs.declared.syntax.ClosureInstance.{ClosureInstance}
use Rattle.bc_syntax.specs.declared.syntax.Creation.{Creation}
use Rattle.bc_syntax.specs.declared.syntax.Invocation.{Invocation}
use Rattle.bc_syntax.specs.declared.syntax.Call.{Call as Calling}
use Rattle.bc_syntax.specs.declared.syntax.Assignment.{Assignment}
use Rattle.bc_syntax.specs.declared.syntax.Rvalue.{Rvalue}
use Rattle.bc_syntax.specs.declared.syntax.Rvalue.TheVariants.{Use, Borrow, Aggregate, Closure, Calc}
use Rattle.bc_syntax.specs.declared.syntax.Statement.TheVariants.{Assign, Dead, Drop, Nop}
use Rattle.bc_syntax.specs.declared.syntax.Terminator.TheVariants.{Goto, If, Call, Invoke, Return, Stop}
use Rattle.bc_syntax.specs.declared.syntax.StructDeclaration.{StructDeclaration}
use Rattle.bc_syntax.specs.declared.syntax.ExternDeclaration.{ExternDeclaration}
use Rattle.bc_types.specs.declared.subtype.Constraint.{Constraint}
use Rattle.bc_types.specs.Declarations.{struct_of, extern_of}
use Rattle.bc_types.specs.WellFormed.{replaced_well_formed}
use Rattle.bc_shapes.specs.Replaced.{replaced_ty}
use Rattle.bc_bodies.specs.declared.mir.Step.{Step}
use Rattle.bc_bodies.specs.declared.mir.Instruction.{Instruction}
use Rattle.bc_bodies.specs.declared.mir.Instruction.TheVariants.{Statement, Terminator}
use Rattle.bc_bodies.specs.Mir.{Mir}
use Rattle.bc_bodies.specs.Children.{child_of, arguments_of, is_outer_clause}
use Rattle.bc_mir.specs.Rules.{type_of_rvalue, closure_in}
use Rattle.bc_mir.specs.WellFormed.{let_types, type_pairs}
use Rattle.bc_points.specs.Pairs.{operand_pair, sub_place, replaced_clause, clauses_where, is_inner_clause}
use Rattle.bc_cons.specs.declared.facts.NumberedConstraint.{NumberedConstraint}
use Rattle.bc_cons.specs.declared.requirements.Requirements.{Requirements}
use Rattle.bc_cons.specs.Constraints.{differ, numbered, reborrow_pairs, required_pairs}
use Rattle.bc_reasons.specs.declared.demand.Rule.{Rule}
use Rattle.bc_reasons.specs.declared.demand.Rule.TheVariants as rules
use Rattle.bc_reasons.specs.declared.demand.LinkReason.{LinkReason}
use Rattle.bc_reasons.specs.declared.demand.LinkReason.TheVariants as reasons
use Rattle.bc_reasons.specs.declared.demand.Demand.{Demand}

-- a pair as a demand, by the numbers of its regions
abbrev pub as_demand : ℕ → LinkReason → Constraint → Demand
as_demand universals reason pair = record { reason = reason; constraint = numbered universals pair }

-- pairs as demands of one reason: a region makes no constraint with itself
abbrev pub demands_by : ℕ → LinkReason → List Constraint → List Demand
demands_by universals reason pairs = map (as_demand universals reason) (filter differ pairs)

-- pairs as demands by a rule of a numbered point
abbrev pub demands_at : Mir → ℕ → Rule → List Constraint → List Demand
demands_at mir p rule pairs = demands_by mir.universals (reasons.Point p rule) pairs

-- each operand, by its number, is a subtype of its expected type, with the declared regions replaced by arguments
abbrev pub operand_demands : Mir → ℕ → List Region → ℕ → List Operand → List Ty → List Demand
operand_demands mir p arguments k [] expected = []
operand_demands mir p arguments k (operand ∷ operands) [] = []
operand_demands mir p arguments k (operand ∷ operands) (ty ∷ expected) =
    demands_at mir p (rules.Argument k) (operand_pair mir arguments operand ty) ++ operand_demands mir p arguments (k + 1) operands expected

-- the operands are subtypes of the captures, and then the clauses hold that the creation of the closure demands
abbrev pub captured_demands : Mir → ℕ → Creation → Header → List Demand
captured_demands mir p creation header =
    operand_demands mir p (arguments_of header creation.closure.regions []) 0 creation.operands header.captures
    ++ demands_at mir p rules.Creation
    (clauses_where (is_outer_clause header.captures) (arguments_of header creation.closure.regions []) header.signature.clauses)

-- what an rvalue makes: a struct of its fields, a closure of its captures
abbrev pub field_demands : Mir → ℕ → Rvalue → List Demand
field_demands mir p (Use operand) = []
field_demands mir p (Borrow borrow) = []
field_demands mir p (Aggregate aggregate) =
    option_map_or
    (λ (d : StructDeclaration). operand_demands mir p aggregate.instance.regions 0 aggregate.operands d.fields)
    (struct_of mir.types aggregate.instance.name)
    []
field_demands mir p (Closure creation) =
    option_map_or (captured_demands mir p creation) (child_of mir.children creation.closure.number) []
field_demands mir p (Calc operands) = []

-- the rule by which a value is a subtype of its target: that of a borrow, or that of any other assignment
abbrev pub value_rule : Rvalue → Rule
value_rule (Use operand) = rules.Assignment
value_rule (Borrow borrow) = rules.Borrow
value_rule (Aggregate aggregate) = rules.Assignment
value_rule (Closure creation) = rules.Assignment
value_rule (Calc operands) = rules.Assignment

-- an assignment, by its rules in order: the fields or captures of what it makes, the value as a subtype of the target, what a closure
-- requires that it creates, and a reborrow
abbrev pub assignment_demands : Mir → List (ℕ × Requirements) → ℕ → Assignment → List Demand
assignment_demands mir kids p assignment =
    field_demands mir p assignment.value
    ++ (demands_at mir p (value_rule assignment.value) (sub_place mir (type_of_rvalue mir assignment.value) assignment.target)
    ++ (demands_at mir p rules.Creation (required_pairs mir kids assignment.value)
    ++ demands_at mir p rules.Reborrow (reborrow_pairs mir assignment.value)))

-- the operands are passed for the parameters, and then the types of the parameters are well-formed
abbrev pub parameter_demands : Mir → ℕ → List Region → List Operand → List Ty → List Demand
parameter_demands mir p arguments operands parameters =
    operand_demands mir p arguments 0 operands parameters
    ++ demands_at mir p rules.WellFormed (replaced_well_formed mir.types arguments parameters)

-- the call of a function with these regions, by its rules in order: the parameters, the clauses, and the result as a subtype of the
-- destination
abbrev pub called_demands : Mir → ℕ → List Region → Calling → ExternDeclaration → List Demand
called_demands mir p arguments call d =
    parameter_demands mir p arguments call.operands d.signature.parameters
    ++ (demands_at mir p rules.Clause (map (replaced_clause arguments) d.signature.clauses)
    ++ demands_at mir p rules.Result (sub_place mir (Some (replaced_ty arguments d.signature.result)) call.destination))

-- a call
abbrev pub call_demands : Mir → ℕ → Calling → List Demand
call_demands mir p call = option_map_or (called_demands mir p call.function.regions call) (extern_of mir.types call.function.name) []

-- the call of a closure, by its rules in order: the parameters, the clauses that the creation does not demand, and the result as a subtype of
-- the destination
abbrev pub passed_demands : Mir → ℕ → List Region → Invocation → Header → List Demand
passed_demands mir p arguments invocation header =
    parameter_demands mir p arguments invocation.operands header.signature.parameters
    ++ (demands_at mir p rules.Invocation (clauses_where (is_inner_clause header) arguments header.signature.clauses)
    ++ demands_at mir p rules.Result (sub_place mir (Some (replaced_ty arguments header.signature.result)) invocation.destination))

-- an invocation of this closure
abbrev pub invoked_demands : Mir → ℕ → Invocation → ClosureInstance → List Demand
invoked_demands mir p invocation closure =
    option_map_or
    (λ (header : Header). passed_demands mir p (arguments_of header closure.regions invocation.regions) invocation header)
    (child_of mir.children closure.number)
    []

-- an invocation
abbrev pub invocation_demands : Mir → ℕ → Invocation → List Demand
invocation_demands mir p invocation = option_map_or (invoked_demands mir p invocation) (closure_in mir invocation.closure) []

-- what a numbered point demands, given what the children require
abbrev pub point_demands : Mir → List (ℕ × Requirements) → ℕ → Instruction → List Demand
point_demands mir kids p (Statement (Assign assignment)) = assignment_demands mir kids p assignment
point_demands mir kids p (Statement (Dead local)) = []
point_demands mir kids p (Statement (Drop place)) = []
point_demands mir kids p (Statement Nop) = []
point_demands mir kids p (Terminator (Goto label)) = []
point_demands mir kids p (Terminator (If condition)) = []
point_demands mir kids p (Terminator (Call call)) = call_demands mir p call
point_demands mir kids p (Terminator (Invoke invocation)) = invocation_demands mir p invocation
point_demands mir kids p (Terminator Return) = []
point_demands mir kids p (Terminator Stop) = []

-- what a point demands, with its number
abbrev pub step_demands : Mir → List (ℕ × Requirements) → ℕ × Step → List Demand
step_demands mir kids here = point_demands mir kids here.0 here.1.instruction

-- what the type of a `let` local demands to be well-formed, given its number among the `let` locals, which come after all other locals
abbrev pub local_demands : Mir → ℕ × Ty → List Demand
local_demands mir here = demands_by mir.universals (reasons.Local (mir.first_let + here.0)) (type_pairs mir here.1)

-- all demands of a body in order: those of the points, and then those of the types of the `let` locals
abbrev pub demands_of : Mir → List (ℕ × Requirements) → List Demand
demands_of mir kids =
    flat_map (step_demands mir kids) (enumerate_from 0 mir.steps)
    ++ flat_map (local_demands mir) (enumerate_from 0 (let_types mir))

-- ---- links

-- the demand is of this constraint
abbrev pub is_of : NumberedConstraint → Demand → Bool
is_of link demand = demand.constraint.longer == link.longer && demand.constraint.shorter == link.shorter

-- the reason of the first demand that is of a constraint
abbrev pub first_reason : NumberedConstraint → List Demand → Option LinkReason
first_reason link demands = option_map (λ (demand : Demand). demand.reason) (find (is_of link) demands)

-- the reason is that of a demand of the constraint, and no demand before it is of the constraint
pub record IsFirstReason (demands : List Demand) (link : NumberedConstraint) (reason : LinkReason) : Type 0 where
  pub number : ℕ
  pub is_demand : slice_get demands number ≡ Some (record { reason = reason; constraint = link })
  pub first : (i : ℕ) (other : LinkReason) → i < number → slice_get demands i ≡ Some (record { reason = other; constraint = link }) → ⊥
