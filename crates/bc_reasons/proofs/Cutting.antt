-- The constraints of the demands of a body, in order, are the constraints of the body.
use Rattle.std.proofs.Common.{◌≡◌, ℕ, ◌+◌, Option, Some, None, List, [], ◌∷◌, ◌++◌, map, filter, refl, sym, ap, ◌∙◌, append_assoc}
use Rattle.std.specs.List.{flat_map, enumerate_from}
use Rattle.std.specs.Option.{option_map_or}
use Rattle.std.proofs.lemmas.List.{map-append}
use Rattle.std.proofs.lemmas.List.Elements.{filter-append}
use Rattle.bc_syntax.specs.declared.syntax.Region.{Region}
use Rattle.bc_syntax.specs.declared.syntax.Ty.{Ty}
use Rattle.bc_syntax.specs.declared.syntax.Operand.{Operand}
use Rattle.bc_syntax.specs.declared.syntax.Header.{Header}
use Rattle.bc_syntax.specs.declared.syntax.ClosureInstance.{ClosureInstance}
use Rattle.bc_syntax.specs.declared.syntax.Creation.{Creation}
use Rattle.bc_syntax.specs.declared.syntax.Invocation.{Invocation}
use Rattle.bc_syntax.specs.declared.syntax.Call.{Call as Calling}
use Rattle.bc_syntax.specs.declared.syntax.Assignment.{Assignment}
use Rattle.bc_syntax.specs.declared.syntax.Rvalue.{Rvalue}
use Rattle.bc_syntax.specs.declared.syntax.Rvalue.TheVariants.{Use, Borrow, Aggregate, Closure, Calc}
use Rattle.bc_syntax.specs.declared.syntax.Statement.TheVariants.{Assign, Dead, Drop, Nop}
use Rattle.bc_syntax.specs.declared.syntax.Terminator.TheVariants.{Goto, If, Call, Invoke, Return, Stop}
use Rattle.bc_syntax.specs.declared.syntax.StructDeclaration.{StructDeclaration}
use Rattle.bc_syntax.specs.declared.syntax.ExternDeclaration.{ExternDeclaration}
use Rattle.bc_types.specs.declared.subtype.Constraint.{Constraint}
use Rattle.bc_types.specs.Declarations.{struct_of, extern_of}
use Rattle.bc_types.specs.WellFormed.{replaced_well_formed}
use Rattle.bc_shapes.specs.Replaced.{replaced_ty}
use Rattle.bc_bodies.specs.declared.mir.Step.{Step}
use Rattle.bc_bodies.specs.declared.mir.Instruction.{Instruction}
use Rattle.bc_bodies.specs.declared.mir.Instruction.TheVariants.{Statement, Terminator}
use Rattle.bc_bodies.specs.Mir.{Mir}
use Rattle.bc_bodies.specs.Children.{child_of, arguments_of, is_outer_clause}
use Rattle.bc_mir.specs.Rules.{type_of_rvalue, closure_in}
use Rattle.bc_mir.specs.WellFormed.{let_types, let_pairs, type_pairs}
use Rattle.bc_points.specs.Pairs.{operand_pair, operand_pairs, parameter_pairs, sub_place, replaced_clause, clauses_where, is_inner_clause, captured_pairs, field_pairs, assignment_pairs, called_pairs, passed_pairs, invoked_pairs}
use Rattle.bc_cons.specs.declared.facts.NumberedConstraint.{NumberedConstraint}
use Rattle.bc_cons.specs.declared.requirements.Requirements.{Requirements}
use Rattle.bc_cons.specs.Constraints.{differ, numbered, reborrow_pairs, required_pairs, pairs_at, point_pairs, constraints_of}
use Rattle.bc_reasons.specs.declared.demand.Rule.{Rule}
use Rattle.bc_reasons.specs.declared.demand.Rule.TheVariants as rules
use Rattle.bc_reasons.specs.declared.demand.LinkReason.{LinkReason}
use Rattle.bc_reasons.specs.declared.demand.LinkReason.TheVariants as reasons
use Rattle.bc_reasons.specs.declared.demand.Demand.{Demand}
use Rattle.bc_reasons.specs.Demands.{as_demand, demands_by, demands_at, operand_demands, captured_demands, field_demands, value_rule, assignment_demands, parameter_demands, called_demands, passed_demands, invoked_demands, point_demands, step_demands, local_demands, demands_of}

-- the constraints of demands
abbrev pub constraints_in : List Demand → List NumberedConstraint
constraints_in demands = map (λ (demand : Demand). demand.constraint) demands

-- the constraints that pairs make
abbrev made : ℕ → List Constraint → List NumberedConstraint
made universals pairs = map (numbered universals) (filter differ pairs)

-- the constraints of the demands, in order, are those that the pairs make
abbrev AreOf : ℕ → List Demand → List Constraint → Type 0
AreOf universals demands pairs = constraints_in demands ≡ made universals pairs

mapped : (universals : ℕ) (reason : LinkReason) (pairs : List Constraint) → constraints_in (map (as_demand universals reason) pairs) ≡ map (numbered universals) pairs
mapped universals reason [] = refl
mapped universals reason (pair ∷ pairs) = ap (λ l. numbered universals pair ∷ l) (mapped universals reason pairs)

-- the demands of one reason are of its pairs
by_reason : (universals : ℕ) (reason : LinkReason) (pairs : List Constraint) → AreOf universals (demands_by universals reason pairs) pairs
by_reason universals reason pairs = mapped universals reason (filter differ pairs)

-- so are those of two in turn
both : (universals : ℕ) (one two : List Demand) (first second : List Constraint) → AreOf universals one first → AreOf universals two second → AreOf universals (one ++ two) (first ++ second)
both universals one two first second is are =
    map-append (λ (demand : Demand). demand.constraint) one two
    ∙ ap (λ l. l ++ constraints_in two) is
    ∙ ap (λ l. made universals first ++ l) are
    ∙ sym (ap (map (numbered universals)) (filter-append differ first second) ∙ map-append (numbered universals) (filter differ first) (filter differ second))

-- and those of what is found, if it is
maybe : {X : Type 0} (universals : ℕ) (demands : X → List Demand) (pairs : X → List Constraint) → ((x : X) → AreOf universals (demands x) (pairs x)) →
    (found : Option X) → AreOf universals (option_map_or demands found []) (option_map_or pairs found [])
maybe universals demands pairs each None = refl
maybe universals demands pairs each (Some x) = each x

-- and those of each element of a list
for_each : {X : Type 0} (universals : ℕ) (demands : ℕ × X → List Demand) (pairs : X → List Constraint) → ((k : ℕ) (x : X) → AreOf universals (demands (k, x)) (pairs x)) →
    (n : ℕ) (xs : List X) → AreOf universals (flat_map demands (enumerate_from n xs)) (flat_map pairs xs)
for_each universals demands pairs each n [] = refl
for_each universals demands pairs each n (x ∷ xs) =
    both universals (demands (n, x)) (flat_map demands (enumerate_from (n + 1) xs)) (pairs x) (flat_map pairs xs) (each n x) (for_each universals demands pairs each (n + 1) xs)

module _ (mir : Mir) (p : ℕ) where
  at_rule : (rule : Rule) (pairs : List Constraint) → AreOf mir.universals (demands_at mir p rule pairs) pairs
  at_rule rule pairs = by_reason mir.universals (reasons.Point p rule) pairs

  of_operands : (arguments : List Region) (k : ℕ) (operands : List Operand) (expected : List Ty) →
      AreOf mir.universals (operand_demands mir p arguments k operands expected) (operand_pairs mir arguments operands expected)
  of_operands arguments k [] expected = refl
  of_operands arguments k (operand ∷ operands) [] = refl
  of_operands arguments k (operand ∷ operands) (ty ∷ expected) =
      both mir.universals _ _ (operand_pair mir arguments operand ty) (operand_pairs mir arguments operands expected)
      (at_rule (rules.Argument k) (operand_pair mir arguments operand ty)) (of_operands arguments (k + 1) operands expected)

  of_captured : (creation : Creation) (header : Header) → AreOf mir.universals (captured_demands mir p creation header) (captured_pairs mir creation header)
  of_captured creation header =
      let given = arguments_of header creation.closure.regions [] in
      both mir.universals _ _ (operand_pairs mir given creation.operands header.captures) (clauses_where (is_outer_clause header.captures) given header.signature.clauses)
      (of_operands given 0 creation.operands header.captures) (at_rule rules.Creation (clauses_where (is_outer_clause header.captures) given header.signature.clauses))

  of_fields : (rvalue : Rvalue) → AreOf mir.universals (field_demands mir p rvalue) (field_pairs mir rvalue)
  of_fields (Use operand) = refl
  of_fields (Borrow borrow) = refl
  of_fields (Aggregate aggregate) =
      maybe mir.universals
      (λ (d : StructDeclaration). operand_demands mir p aggregate.instance.regions 0 aggregate.operands d.fields)
      (λ (d : StructDeclaration). operand_pairs mir aggregate.instance.regions aggregate.operands d.fields)
      (λ d. of_operands aggregate.instance.regions 0 aggregate.operands d.fields) (struct_of mir.types aggregate.instance.name)
  of_fields (Closure creation) =
      maybe mir.universals (captured_demands mir p creation) (captured_pairs mir creation) (of_captured creation) (child_of mir.children creation.closure.number)
  of_fields (Calc operands) = refl

  of_assignment : (kids : List (ℕ × Requirements)) (assignment : Assignment) →
      AreOf mir.universals (assignment_demands mir kids p assignment) (assignment_pairs mir assignment ++ (required_pairs mir kids assignment.value ++ reborrow_pairs mir assignment.value))
  of_assignment kids assignment =
      let fields = field_pairs mir assignment.value in
      let value = sub_place mir (type_of_rvalue mir assignment.value) assignment.target in
      let required = required_pairs mir kids assignment.value in
      let reborrow = reborrow_pairs mir assignment.value in
      both mir.universals _ _ fields (value ++ (required ++ reborrow)) (of_fields assignment.value)
      (both mir.universals _ _ value (required ++ reborrow) (at_rule (value_rule assignment.value) value)
      (both mir.universals _ _ required reborrow (at_rule rules.Creation required) (at_rule rules.Reborrow reborrow)))
      ∙ ap (made mir.universals) (sym (append_assoc fields value (required ++ reborrow)))

  of_parameters : (arguments : List Region) (operands : List Operand) (parameters : List Ty) →
      AreOf mir.universals (parameter_demands mir p arguments operands parameters) (parameter_pairs mir arguments operands parameters)
  of_parameters arguments operands parameters =
      both mir.universals _ _ (operand_pairs mir arguments operands parameters) (replaced_well_formed mir.types arguments parameters)
      (of_operands arguments 0 operands parameters) (at_rule rules.WellFormed (replaced_well_formed mir.types arguments parameters))

  of_called : (call : Calling) (d : ExternDeclaration) → AreOf mir.universals (called_demands mir p call.function.regions call d) (called_pairs mir call d)
  of_called call d =
      let regions = call.function.regions in
      let clauses = map (replaced_clause regions) d.signature.clauses in
      let returned = sub_place mir (Some (replaced_ty regions d.signature.result)) call.destination in
      both mir.universals _ _ (parameter_pairs mir regions call.operands d.signature.parameters) (clauses ++ returned)
      (of_parameters regions call.operands d.signature.parameters)
      (both mir.universals _ _ clauses returned (at_rule rules.Clause clauses) (at_rule rules.Result returned))

  of_passed : (arguments : List Region) (invocation : Invocation) (header : Header) →
      AreOf mir.universals (passed_demands mir p arguments invocation header) (passed_pairs mir arguments invocation header)
  of_passed arguments invocation header =
      let clauses = clauses_where (is_inner_clause header) arguments header.signature.clauses in
      let returned = sub_place mir (Some (replaced_ty arguments header.signature.result)) invocation.destination in
      both mir.universals _ _ (parameter_pairs mir arguments invocation.operands header.signature.parameters) (clauses ++ returned)
      (of_parameters arguments invocation.operands header.signature.parameters)
      (both mir.universals _ _ clauses returned (at_rule rules.Invocation clauses) (at_rule rules.Result returned))

  of_invoked : (invocation : Invocation) (closure : ClosureInstance) → AreOf mir.universals (invoked_demands mir p invocation closure) (invoked_pairs mir invocation closure)
  of_invoked invocation closure =
      maybe mir.universals
      (λ (header : Header). passed_demands mir p (arguments_of header closure.regions invocation.regions) invocation header)
      (λ (header : Header). passed_pairs mir (arguments_of header closure.regions invocation.regions) invocation header)
      (λ header. of_passed (arguments_of header closure.regions invocation.regions) invocation header) (child_of mir.children closure.number)

  -- the pairs by rule together are those of the point
  pub of_point : (kids : List (ℕ × Requirements)) (instruction : Instruction) → AreOf mir.universals (point_demands mir kids p instruction) (pairs_at mir kids instruction)
  of_point kids (Statement (Assign assignment)) = of_assignment kids assignment
  of_point kids (Statement (Dead local)) = refl
  of_point kids (Statement (Drop place)) = refl
  of_point kids (Statement Nop) = refl
  of_point kids (Terminator (Goto label)) = refl
  of_point kids (Terminator (If condition)) = refl
  of_point kids (Terminator (Call call)) = maybe mir.universals (called_demands mir p call.function.regions call) (called_pairs mir call) (of_called call) (extern_of mir.types call.function.name)
  of_point kids (Terminator (Invoke invocation)) =
      maybe mir.universals (invoked_demands mir p invocation) (invoked_pairs mir invocation) (of_invoked invocation) (closure_in mir invocation.closure)
  of_point kids (Terminator Return) = refl
  of_point kids (Terminator Stop) = refl

-- all demands together are of the constraints of the body
pub of_body : (mir : Mir) (kids : List (ℕ × Requirements)) → constraints_in (demands_of mir kids) ≡ constraints_of mir kids
of_body mir kids =
    both mir.universals _ _ (point_pairs mir kids) (let_pairs mir)
    (for_each mir.universals (step_demands mir kids) (λ (step : Step). pairs_at mir kids step.instruction) (λ k step. of_point mir k kids step.instruction) 0 mir.steps)
    (for_each mir.universals (local_demands mir) (type_pairs mir) (λ k ty. by_reason mir.universals (reasons.Local (mir.first_let + k)) (type_pairs mir ty)) 0 (let_types mir))
