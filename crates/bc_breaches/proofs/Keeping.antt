-- A point without a breach keeps the typing rules, and a unit has its first breach where it first breaks one.
use Rattle.std.proofs.Common.{◌≡◌, ℕ, ◌+◌, Bool, true, false, ◌&&◌, not, nat_lt, is_some, cond, Option, Some, None, option_and_then, List, [], ◌∷◌, length, reverse, refl, sym, ap, ◌∙◌}
use Rattle.std.specs.List.{list_all}
use Rattle.std.specs.Option.{option_map, option_map_or}
use Rattle.bc_syntax.specs.declared.syntax.Ty.{Ty}
use Rattle.bc_syntax.specs.declared.syntax.Base.{Base}
use Rattle.bc_syntax.specs.declared.syntax.Base.TheVariants as bases
use Rattle.bc_syntax.specs.declared.syntax.Reference.{Reference}
use Rattle.bc_syntax.specs.declared.syntax.Mutability.{Mutability}
use Rattle.bc_syntax.specs.declared.syntax.Mutability.TheVariants.{Shared, Mutable}
use Rattle.bc_syntax.specs.declared.syntax.Place.{Place}
use Rattle.bc_syntax.specs.declared.syntax.Operand.{Operand}
use Rattle.bc_syntax.specs.declared.syntax.Operand.TheVariants.{Copy, Move, Number}
use Rattle.bc_syntax.specs.declared.syntax.Borrow.{Borrow as Borrowing}
use Rattle.bc_syntax.specs.declared.syntax.Aggregate.{Aggregate as Making}
use Rattle.bc_syntax.specs.declared.syntax.ClosureInstance.{ClosureInstance}
use Rattle.bc_syntax.specs.declared.syntax.Creation.{Creation}
use Rattle.bc_syntax.specs.declared.syntax.Call.{Call as Calling}
use Rattle.bc_syntax.specs.declared.syntax.Invocation.{Invocation}
use Rattle.bc_syntax.specs.declared.syntax.Assignment.{Assignment}
use Rattle.bc_syntax.specs.declared.syntax.Header.{Header}
use Rattle.bc_syntax.specs.declared.syntax.Rvalue.{Rvalue}
use Rattle.bc_syntax.specs.declared.syntax.Rvalue.TheVariants.{Use, Borrow, Aggregate, Closure, Calc}
use Rattle.bc_syntax.specs.declared.syntax.Statement.{Statement as Simple}
use Rattle.bc_syntax.specs.declared.syntax.Statement.TheVariants.{Assign, Dead, Drop, Nop}
use Rattle.bc_syntax.specs.declared.syntax.Terminator.{Terminator as Ending}
use Rattle.bc_syntax.specs.declared.syntax.Terminator.TheVariants.{Goto, If, Call, Invoke, Return, Stop}
use Rattle.bc_syntax.specs.declared.syntax.StructDeclaration.{StructDeclaration}
use Rattle.bc_syntax.specs.declared.syntax.ExternDeclaration.{ExternDeclaration}
use Rattle.bc_types.specs.Declarations.{takes_regions, has_declared_base, struct_of, extern_of}
use Rattle.bc_bodies.specs.declared.mir.Step.{Step}
use Rattle.bc_bodies.specs.declared.mir.Instruction.{Instruction}
use Rattle.bc_bodies.specs.declared.mir.Instruction.TheVariants.{Statement, Terminator}
use Rattle.bc_bodies.specs.Places.{are_mutable, has_no_deref}
use Rattle.bc_bodies.specs.Mir.{Mir}
use Rattle.bc_bodies.specs.Children.{child_of, takes_externals, takes_locals, is_known}
use Rattle.bc_bodies.specs.PlaceTypes.{type_of_place, references_of_place}
use Rattle.bc_shapes.specs.Forms.{int_type, struct_type, type_referenced, closure_type, closure_of}
use Rattle.bc_shapes.specs.Shapes.{one_shape, is_int_type, is_copyable_type}
use Rattle.bc_mir.specs.declared.typed.Where.{Where}
use Rattle.bc_mir.specs.declared.typed.Where.TheVariants as places
use Rattle.bc_mir.specs.Rules.{allowed, type_of_operand, has_shape, is_int_found, is_operand_int, have_shapes, type_to_write, unless_closure, type_reached, can_create, can_capture, type_of_rvalue, of_one_shape, statement_keeps_rules, can_call, child_in, can_invoke, terminator_keeps_rules}
use Rattle.bc_mir.specs.Typing.{fits_at, first_unfit, misfit}
use Rattle.bc_breaches.specs.Firsts.{first_of}
use Rattle.bc_breaches.specs.declared.rule.TypedPart.{TypedPart}
use Rattle.bc_breaches.specs.declared.rule.TypedPart.TheVariants as parts
use Rattle.bc_breaches.specs.declared.rule.TypingRule.{TypingRule}
use Rattle.bc_breaches.specs.declared.rule.TypingRule.TheVariants as rules
use Rattle.bc_breaches.specs.declared.unit.IllBreach.{IllBreach}
use Rattle.bc_breaches.specs.declared.unit.IllBreach.TheVariants as ills
use Rattle.bc_breaches.specs.Typing.{unless, place_breach, written_breach, copied_breach, operand_breach, fit_breach, operands_breach, int_breach, ints_breach, is_no_closure, reached_breach, borrow_breach, aggregate_breach, creation_breach, value_breach, value_fits, assignment_breach, statement_breach, result_breach, called_breach, invoked_breach, child_found, passed_breach, label_breach, terminator_breach, point_breach, struct_breach, closure_breach, steps_breach, unit_breach, place_of}
use Rattle.bc_breaches.proofs.Firsts.{clear, clear_first}

clear_unless : (holds : Bool) (part : TypedPart) (rule : TypingRule) → clear (unless holds part rule) ≡ holds
clear_unless true part rule = refl
clear_unless false part rule = refl

-- nothing is found of two, where it is known when it is of each
pub clear_two : {X : Type 0} (one other : Option X) (a b : Bool) → clear one ≡ a → clear other ≡ b → clear (first_of one other) ≡ (a && b)
clear_two one other a b first second = clear_first one other ∙ ap (λ x. x && clear other) first ∙ ap (λ x. a && x) second

-- ---- places and operands

allowed_some : (holds : Bool) (found : Option Ty) → (is_some found && holds) ≡ is_some (allowed holds found)
allowed_some true None = refl
allowed_some true (Some ty) = refl
allowed_some false None = refl
allowed_some false (Some ty) = refl

some_allowed : (holds : Bool) (found : Option Ty) → (holds && is_some found) ≡ is_some (allowed holds found)
some_allowed true found = refl
some_allowed false found = refl

module _ (mir : Mir) where
  of_place : (part : TypedPart) (place : Place) → clear (place_breach mir part place) ≡ is_some (type_of_place mir place)
  of_place part place = clear_unless (is_some (type_of_place mir place)) part rules.HasType

  of_written : (part : TypedPart) (place : Place) → clear (written_breach mir part place) ≡ is_some (type_to_write mir place)
  of_written part place =
      clear_two (place_breach mir part place) _ (is_some (type_of_place mir place)) (are_mutable (references_of_place mir place)) (of_place part place) (clear_unless (are_mutable (references_of_place mir place)) part rules.IsMutable)
      ∙ allowed_some (are_mutable (references_of_place mir place)) (type_of_place mir place)

  of_copied : (part : TypedPart) (found : Option Ty) → clear (copied_breach part found) ≡ is_some (option_and_then (λ ty. allowed (is_copyable_type ty) (Some ty)) found)
  of_copied part None = refl
  of_copied part (Some ty) = clear_unless (is_copyable_type ty) part rules.IsCopyable ∙ allowed_some (is_copyable_type ty) (Some ty)

  of_operand : (k : ℕ) (operand : Operand) → clear (operand_breach mir k operand) ≡ is_some (type_of_operand mir operand)
  of_operand k (Copy place) = of_copied (parts.Operand k) (type_of_place mir place)
  of_operand k (Move place) =
      clear_two (unless (has_no_deref place) (parts.Operand k) rules.HasNoDereference) (place_breach mir (parts.Operand k) place) (has_no_deref place) (is_some (type_of_place mir place))
      (clear_unless (has_no_deref place) (parts.Operand k) rules.HasNoDereference) (of_place (parts.Operand k) place)
      ∙ some_allowed (has_no_deref place) (type_of_place mir place)
  of_operand k (Number n) = refl

  found_shape : (ty : Ty) (found : Option Ty) → (is_some found && has_shape ty found) ≡ has_shape ty found
  found_shape ty None = refl
  found_shape ty (Some other) = refl

  of_fit : (k : ℕ) (operand : Operand) (ty : Ty) → clear (fit_breach mir k operand ty) ≡ has_shape ty (type_of_operand mir operand)
  of_fit k operand ty =
      clear_two (operand_breach mir k operand) _ (is_some (type_of_operand mir operand)) (has_shape ty (type_of_operand mir operand)) (of_operand k operand)
      (clear_unless (has_shape ty (type_of_operand mir operand)) (parts.Operand k) rules.HasShape)
      ∙ found_shape ty (type_of_operand mir operand)

  of_operands : (k : ℕ) (operands : List Operand) (expected : List Ty) → clear (operands_breach mir k operands expected) ≡ have_shapes mir operands expected
  of_operands k [] [] = refl
  of_operands k [] (ty ∷ expected) = refl
  of_operands k (operand ∷ operands) [] = refl
  of_operands k (operand ∷ operands) (ty ∷ expected) =
      clear_two (fit_breach mir k operand ty) (operands_breach mir (k + 1) operands expected) _ _ (of_fit k operand ty) (of_operands (k + 1) operands expected)

  found_int : (found : Option Ty) → (is_some found && is_int_found found) ≡ is_int_found found
  found_int None = refl
  found_int (Some ty) = refl

  of_int : (k : ℕ) (operand : Operand) → clear (int_breach mir k operand) ≡ is_operand_int mir operand
  of_int k operand =
      clear_two (operand_breach mir k operand) _ (is_some (type_of_operand mir operand)) (is_operand_int mir operand) (of_operand k operand) (clear_unless (is_operand_int mir operand) (parts.Operand k) rules.IsInt)
      ∙ found_int (type_of_operand mir operand)

  of_ints : (k : ℕ) (operands : List Operand) → clear (ints_breach mir k operands) ≡ list_all (is_operand_int mir) operands
  of_ints k [] = refl
  of_ints k (operand ∷ operands) = clear_two (int_breach mir k operand) (ints_breach mir (k + 1) operands) _ _ (of_int k operand) (of_ints (k + 1) operands)

  -- ---- values

  of_reached : (mutability : Mutability) (place : Place) → clear (reached_breach mir mutability place) ≡ is_some (type_reached mir mutability place)
  of_reached Shared place = of_place parts.Borrowed place
  of_reached Mutable place = of_written parts.Borrowed place

  borrowed_some : (reference : Reference) (found : Option Ty) → (is_some found && is_no_closure found) ≡ is_some (option_map (type_referenced reference) (unless_closure found))
  borrowed_some reference None = refl
  borrowed_some reference (Some ty) =
      elim (not (is_some (closure_of ty))) as (λ b. b ≡ is_some (option_map (type_referenced reference) (allowed b (Some ty)))) [
        | true ↦ refl
        | false ↦ refl
      ]

  allowed_borrowed : (reference : Reference) (holds : Bool) (found : Option Ty) → (is_some (allowed holds found) && is_no_closure found) ≡ is_some (option_map (type_referenced reference) (unless_closure (allowed holds found)))
  allowed_borrowed reference true found = borrowed_some reference found
  allowed_borrowed reference false found = refl

  reached_some : (reference : Reference) (mutability : Mutability) (place : Place) →
      (is_some (type_reached mir mutability place) && is_no_closure (type_of_place mir place)) ≡ is_some (option_map (type_referenced reference) (unless_closure (type_reached mir mutability place)))
  reached_some reference Shared place = borrowed_some reference (type_of_place mir place)
  reached_some reference Mutable place = allowed_borrowed reference (are_mutable (references_of_place mir place)) (type_of_place mir place)

  of_borrow : (borrow : Borrowing) → clear (borrow_breach mir borrow) ≡ is_some (type_of_rvalue mir (Borrow borrow))
  of_borrow borrow =
      let reference = borrow.reference in
      clear_two (reached_breach mir reference.mutability borrow.place) _ (is_some (type_reached mir reference.mutability borrow.place)) (is_no_closure (type_of_place mir borrow.place))
      (of_reached reference.mutability borrow.place) (clear_unless (is_no_closure (type_of_place mir borrow.place)) parts.Borrowed rules.IsNoClosure)
      ∙ reached_some reference reference.mutability borrow.place

  of_aggregate : (aggregate : Making) (found : Option StructDeclaration) →
      clear (aggregate_breach mir aggregate found) ≡ option_map_or (λ (d : StructDeclaration). takes_regions aggregate.instance d && have_shapes mir aggregate.operands d.fields) found false
  of_aggregate aggregate None = refl
  of_aggregate aggregate (Some d) =
      clear_two (unless (takes_regions aggregate.instance d) parts.Named rules.HasRegionCount) (operands_breach mir 0 aggregate.operands d.fields) _ _
      (clear_unless (takes_regions aggregate.instance d) parts.Named rules.HasRegionCount) (of_operands 0 aggregate.operands d.fields)

  of_creation : (creation : Creation) (found : Option Header) →
      clear (creation_breach mir creation found) ≡ option_map_or (λ (header : Header). takes_externals creation.closure header && have_shapes mir creation.operands header.captures) found false
  of_creation creation None = refl
  of_creation creation (Some header) =
      clear_two (unless (takes_externals creation.closure header) parts.Named rules.HasRegionCount) (operands_breach mir 0 creation.operands header.captures) _ _
      (clear_unless (takes_externals creation.closure header) parts.Named rules.HasRegionCount) (of_operands 0 creation.operands header.captures)

  allowed_value : (holds : Bool) (ty : Ty) → holds ≡ is_some (allowed holds (Some ty))
  allowed_value true ty = refl
  allowed_value false ty = refl

  of_value : (value : Rvalue) → clear (value_breach mir value) ≡ is_some (type_of_rvalue mir value)
  of_value (Use operand) = of_operand 0 operand
  of_value (Borrow borrow) = of_borrow borrow
  of_value (Aggregate aggregate) = of_aggregate aggregate (struct_of mir.types aggregate.instance.name) ∙ allowed_value (can_create mir aggregate) (struct_type aggregate.instance)
  of_value (Closure creation) = of_creation creation (child_of mir.children creation.closure.number) ∙ allowed_value (can_capture mir creation) (closure_type creation.closure)
  of_value (Calc operands) = of_ints 0 operands ∙ allowed_value (list_all (is_operand_int mir) operands) int_type

  -- ---- shapes of values

  allowed_shape : (target ty : Ty) (holds : Bool) → (is_some (allowed holds (Some ty)) && one_shape ty target) ≡ has_shape target (allowed holds (Some ty))
  allowed_shape target ty true = refl
  allowed_shape target ty false = refl

  borrowed_shape : (target : Ty) (reference : Reference) (found : Option Ty) →
      (is_some (option_map (type_referenced reference) (unless_closure found)) && has_shape target (option_map (type_referenced reference) found)) ≡ has_shape target (option_map (type_referenced reference) (unless_closure found))
  borrowed_shape target reference None = refl
  borrowed_shape target reference (Some ty) =
      elim (not (is_some (closure_of ty))) as (λ b. (is_some (option_map (type_referenced reference) (allowed b (Some ty))) && one_shape (type_referenced reference ty) target) ≡ has_shape target (option_map (type_referenced reference) (allowed b (Some ty)))) [
        | true ↦ refl
        | false ↦ refl
      ]

  allowed_borrowed_shape : (target : Ty) (reference : Reference) (holds : Bool) (found : Option Ty) →
      (is_some (option_map (type_referenced reference) (unless_closure (allowed holds found))) && has_shape target (option_map (type_referenced reference) found))
      ≡ has_shape target (option_map (type_referenced reference) (unless_closure (allowed holds found)))
  allowed_borrowed_shape target reference true found = borrowed_shape target reference found
  allowed_borrowed_shape target reference false found = refl

  reached_shape : (target : Ty) (reference : Reference) (mutability : Mutability) (place : Place) →
      (is_some (option_map (type_referenced reference) (unless_closure (type_reached mir mutability place))) && has_shape target (option_map (type_referenced reference) (type_of_place mir place)))
      ≡ has_shape target (option_map (type_referenced reference) (unless_closure (type_reached mir mutability place)))
  reached_shape target reference Shared place = borrowed_shape target reference (type_of_place mir place)
  reached_shape target reference Mutable place = allowed_borrowed_shape target reference (are_mutable (references_of_place mir place)) (type_of_place mir place)

  int_base : (base : Base) → one_shape int_type (record { references = []; base = base }) ≡ is_int_type (record { references = []; base = base })
  int_base bases.Int = refl
  int_base (bases.Struct instance) = refl
  int_base (bases.Closure closure) = refl

  int_shape : (references : List Reference) (base : Base) → one_shape int_type (record { references = references; base = base }) ≡ is_int_type (record { references = references; base = base })
  int_shape [] base = int_base base
  int_shape (reference ∷ references) base = refl

  allowed_int : (target : Ty) (holds : Bool) → (is_some (allowed holds (Some int_type)) && is_int_type target) ≡ has_shape target (allowed holds (Some int_type))
  allowed_int target true = sym (int_shape target.references target.base)
  allowed_int target false = refl

  fits_value : (target : Ty) (value : Rvalue) → (is_some (type_of_rvalue mir value) && value_fits mir target value) ≡ has_shape target (type_of_rvalue mir value)
  fits_value target (Use operand) = found_shape target (type_of_operand mir operand)
  fits_value target (Borrow borrow) = reached_shape target borrow.reference borrow.reference.mutability borrow.place
  fits_value target (Aggregate aggregate) = allowed_shape target (struct_type aggregate.instance) (can_create mir aggregate)
  fits_value target (Closure creation) = allowed_shape target (closure_type creation.closure) (can_capture mir creation)
  fits_value target (Calc operands) = allowed_int target (list_all (is_operand_int mir) operands)

  -- ---- statements

  assigned : (value : Rvalue) (holds : Bool) (target : Option Ty) →
      (is_some (allowed holds target) && (is_some (type_of_rvalue mir value) && option_map_or (λ ty. value_fits mir ty value) target false)) ≡ of_one_shape (allowed holds target) (type_of_rvalue mir value)
  assigned value true None = refl
  assigned value true (Some ty) = fits_value ty value
  assigned value false target = refl

  of_assignment : (assignment : Assignment) → clear (assignment_breach mir assignment) ≡ statement_keeps_rules mir (Assign assignment)
  of_assignment assignment =
      let value = assignment.value in
      let target = type_of_place mir assignment.target in
      let fits = option_map_or (λ ty. value_fits mir ty value) target false in
      clear_two (written_breach mir parts.Target assignment.target) (first_of (value_breach mir value) (unless fits parts.Target rules.HasShape)) (is_some (type_to_write mir assignment.target)) (is_some (type_of_rvalue mir value) && fits)
      (of_written parts.Target assignment.target)
      (clear_two (value_breach mir value) (unless fits parts.Target rules.HasShape) (is_some (type_of_rvalue mir value)) fits (of_value value) (clear_unless fits parts.Target rules.HasShape))
      ∙ assigned value (are_mutable (references_of_place mir assignment.target)) target

  of_statement : (statement : Simple) → clear (statement_breach mir statement) ≡ statement_keeps_rules mir statement
  of_statement (Assign assignment) = of_assignment assignment
  of_statement (Dead local) = clear_unless (nat_lt local (length mir.locals)) parts.Target rules.HasType
  of_statement (Drop place) =
      clear_two (unless (has_no_deref place) parts.Dropped rules.HasNoDereference) (place_breach mir parts.Dropped place) (has_no_deref place) (is_some (type_of_place mir place))
      (clear_unless (has_no_deref place) parts.Dropped rules.HasNoDereference) (of_place parts.Dropped place)
  of_statement Nop = refl

  -- ---- terminators

  returned : (ty : Ty) (holds : Bool) (target : Option Ty) → (is_some (allowed holds target) && of_one_shape target (Some ty)) ≡ of_one_shape (allowed holds target) (Some ty)
  returned ty true None = refl
  returned ty true (Some target) = refl
  returned ty false target = refl

  of_result : (destination : Place) (ty : Ty) → clear (result_breach mir destination ty) ≡ of_one_shape (type_to_write mir destination) (Some ty)
  of_result destination ty =
      let fits = of_one_shape (type_of_place mir destination) (Some ty) in
      clear_two (written_breach mir parts.Target destination) (unless fits parts.Target rules.HasShape) (is_some (type_to_write mir destination)) fits (of_written parts.Target destination) (clear_unless fits parts.Target rules.HasShape)
      ∙ returned ty (are_mutable (references_of_place mir destination)) (type_of_place mir destination)

  of_passing : (holds : Bool) (operands : List Operand) (parameters : List Ty) (destination : Place) (ty : Ty) →
      clear (first_of (unless holds parts.Named rules.HasRegionCount) (first_of (operands_breach mir 0 operands parameters) (result_breach mir destination ty)))
      ≡ (holds && (have_shapes mir operands parameters && of_one_shape (type_to_write mir destination) (Some ty)))
  of_passing holds operands parameters destination ty =
      clear_two (unless holds parts.Named rules.HasRegionCount) _ holds _ (clear_unless holds parts.Named rules.HasRegionCount)
      (clear_two (operands_breach mir 0 operands parameters) (result_breach mir destination ty) _ _ (of_operands 0 operands parameters) (of_result destination ty))

  of_called : (call : Calling) (found : Option ExternDeclaration) → clear (called_breach mir call found) ≡ option_map_or (can_call mir call) found false
  of_called call None = refl
  of_called call (Some d) = of_passing _ call.operands d.signature.parameters call.destination d.signature.result

  of_passed : (invocation : Invocation) (found : Option Header) → clear (passed_breach mir invocation found) ≡ option_map_or (can_invoke mir invocation) found false
  of_passed invocation None = refl
  of_passed invocation (Some header) = of_passing (takes_locals invocation.regions header) invocation.operands header.signature.parameters invocation.destination header.signature.result

  of_invoked : (place : Place) → clear (invoked_breach mir place) ≡ (has_no_deref place && (is_some (type_of_place mir place) && is_some (option_and_then closure_of (type_of_place mir place))))
  of_invoked place =
      let closure = is_some (option_and_then closure_of (type_of_place mir place)) in
      clear_two (unless (has_no_deref place) parts.Invoked rules.HasNoDereference) _ (has_no_deref place) _ (clear_unless (has_no_deref place) parts.Invoked rules.HasNoDereference)
      (clear_two (place_breach mir parts.Invoked place) (unless closure parts.Invoked rules.IsClosure) (is_some (type_of_place mir place)) closure (of_place parts.Invoked place) (clear_unless closure parts.Invoked rules.IsClosure))

  -- the header of the child whose closure a place has, if the place has no `.*`
  child_behind : (invocation : Invocation) (holds : Bool) (closure : Option ClosureInstance) →
      ((holds && is_some closure) && option_map_or (can_invoke mir invocation) (option_and_then (λ (c : ClosureInstance). child_of mir.children c.number) closure) false)
      ≡ option_map_or (can_invoke mir invocation) (option_and_then (child_of mir.children) (option_map (λ (c : ClosureInstance). c.number) (allowed holds closure))) false
  child_behind invocation true None = refl
  child_behind invocation true (Some closure) = refl
  child_behind invocation false closure = refl

  some_closure : (holds : Bool) (found : Option Ty) → (holds && (is_some found && is_some (option_and_then closure_of found))) ≡ (holds && is_some (option_and_then closure_of found))
  some_closure holds None = refl
  some_closure holds (Some ty) = refl

  of_invocation : (invocation : Invocation) →
      clear (first_of (invoked_breach mir invocation.closure) (passed_breach mir invocation (child_found mir (type_of_place mir invocation.closure)))) ≡ option_map_or (can_invoke mir invocation) (child_in mir invocation.closure) false
  of_invocation invocation =
      let place = invocation.closure in
      let closure = option_and_then closure_of (type_of_place mir place) in
      clear_two (invoked_breach mir place) (passed_breach mir invocation (child_found mir (type_of_place mir place))) (has_no_deref place && is_some closure) _
      (of_invoked place ∙ some_closure (has_no_deref place) (type_of_place mir place)) (of_passed invocation (child_found mir (type_of_place mir place)))
      ∙ child_behind invocation (has_no_deref place) closure

  of_label : (label : ℕ) → clear (label_breach mir label) ≡ nat_lt label (length mir.entries)
  of_label label = clear_unless (nat_lt label (length mir.entries)) parts.Label rules.IsBlock

  of_terminator : (terminator : Ending) → clear (terminator_breach mir terminator) ≡ terminator_keeps_rules mir terminator
  of_terminator (Goto label) = of_label label
  of_terminator (If condition) =
      clear_two (int_breach mir 0 condition.operand) _ _ _ (of_int 0 condition.operand)
      (clear_two (label_breach mir condition.then) (label_breach mir condition.otherwise) _ _ (of_label condition.then) (of_label condition.otherwise))
  of_terminator (Call call) =
      clear_two (label_breach mir call.target) (called_breach mir call (extern_of mir.types call.function.name)) _ _ (of_label call.target) (of_called call (extern_of mir.types call.function.name))
  of_terminator (Invoke invocation) = clear_two (label_breach mir invocation.target) _ _ _ (of_label invocation.target) (of_invocation invocation)
  of_terminator Return = refl
  of_terminator Stop = refl

  -- a point without a breach keeps the typing rules
  of_point : (instruction : Instruction) → clear (point_breach mir instruction) ≡ fits_at mir instruction
  of_point (Statement statement) = of_statement statement
  of_point (Terminator terminator) = of_terminator terminator

  -- ---- units

  of_structs : (k : ℕ) (tys : List Ty) → option_map place_of (struct_breach mir k tys) ≡ cond (list_all (has_declared_base (reverse mir.types)) tys) None (Some places.Header)
  of_structs k [] = refl
  of_structs k (ty ∷ tys) =
      elim (has_declared_base (reverse mir.types) ty) as (λ b. option_map place_of (cond b (struct_breach mir (k + 1) tys) (Some (ills.Struct k))) ≡ cond (b && list_all (has_declared_base (reverse mir.types)) tys) None (Some places.Header)) [
        | true ↦ of_structs (k + 1) tys
        | false ↦ refl
      ]

  of_closures : (k : ℕ) (tys : List Ty) → option_map place_of (closure_breach mir k tys) ≡ cond (list_all (is_known mir.children) tys) None (Some places.Header)
  of_closures k [] = refl
  of_closures k (ty ∷ tys) =
      elim (is_known mir.children ty) as (λ b. option_map place_of (cond b (closure_breach mir (k + 1) tys) (Some (ills.Closure k))) ≡ cond (b && list_all (is_known mir.children) tys) None (Some places.Header)) [
        | true ↦ of_closures (k + 1) tys
        | false ↦ refl
      ]

  of_steps : (steps : List Step) → option_map place_of (steps_breach mir steps) ≡ option_map places.At (first_unfit mir steps)
  of_steps [] = refl
  of_steps (step ∷ steps) =
      let later = steps_breach mir steps in
      elim (point_breach mir step.instruction) as (λ o. clear o ≡ fits_at mir step.instruction →
      option_map place_of (first_of (option_map (ills.Point step.point) o) later) ≡ option_map places.At (cond (fits_at mir step.instruction) (first_unfit mir steps) (Some step.point))) [
        | None ↦ λ fits. of_steps steps ∙ ap (λ b. option_map places.At (cond b (first_unfit mir steps) (Some step.point))) fits
        | Some breach ↦ λ unfit. ap (λ b. option_map places.At (cond b (first_unfit mir steps) (Some step.point))) unfit
      ] (of_point step.instruction)

  mapped_first : (one other : Option IllBreach) → option_map place_of (first_of one other) ≡ first_of (option_map place_of one) (option_map place_of other)
  mapped_first None other = refl
  mapped_first (Some breach) other = refl

  header_first : (structs closures : Bool) (later : Option Where) → first_of (cond structs None (Some places.Header)) (first_of (cond closures None (Some places.Header)) later) ≡ cond (structs && closures) later (Some places.Header)
  header_first true true later = refl
  header_first true false later = refl
  header_first false closures later = refl

  -- the first breach of a unit is where the unit first breaks a rule
  pub of_unit : option_map place_of (unit_breach mir) ≡ misfit mir
  of_unit =
      let structs = struct_breach mir 0 mir.locals in
      let closures = closure_breach mir 0 mir.locals in
      let later = steps_breach mir mir.steps in
      mapped_first structs (first_of closures later)
      ∙ ap (first_of (option_map place_of structs)) (mapped_first closures later)
      ∙ ap (λ o. first_of o (first_of (option_map place_of closures) (option_map place_of later))) (of_structs 0 mir.locals)
      ∙ ap (λ o. first_of (cond (list_all (has_declared_base (reverse mir.types)) mir.locals) None (Some places.Header)) (first_of o (option_map place_of later))) (of_closures 0 mir.locals)
      ∙ ap (λ o. first_of (cond (list_all (has_declared_base (reverse mir.types)) mir.locals) None (Some places.Header)) (first_of (cond (list_all (is_known mir.children) mir.locals) None (Some places.Header)) o)) (of_steps mir.steps)
      ∙ header_first (list_all (has_declared_base (reverse mir.types)) mir.locals) (list_all (is_known mir.children) mir.locals) (option_map places.At (first_unfit mir mir.steps))
