-- `==` on what units and declarations are made of decides `≡`.
use Rattle.std.proofs.Common.{◌≡◌, false, true≢false, refl, sym, ap}
use Rattle.std.specs.Bool.{Decides}
use Rattle.std.specs.Cmp.{booleans_Decides}
use Rattle.std.proofs.lemmas.Bool.Decides.{Decides-and, Decides-like, Decides-eqb}
use Rattle.std.proofs.lemmas.Slice.Eq.{slice_eq-Decides}
use Rattle.bc_syntax.specs.declared.syntax.Region.{Region}
use Rattle.bc_syntax.specs.declared.syntax.Region.TheVariants as regions
use Rattle.bc_syntax.specs.declared.syntax.Mutability.{Mutability}
use Rattle.bc_syntax.specs.declared.syntax.Mutability.TheVariants as mutabilities
use Rattle.bc_syntax.specs.declared.syntax.Reference.{Reference}
use Rattle.bc_syntax.specs.declared.syntax.ItemName.{ItemName}
use Rattle.bc_syntax.specs.declared.syntax.Instance.{Instance}
use Rattle.bc_syntax.specs.declared.syntax.ClosureInstance.{ClosureInstance}
use Rattle.bc_syntax.specs.declared.syntax.Base.{Base}
use Rattle.bc_syntax.specs.declared.syntax.Base.TheVariants as bases
use Rattle.bc_syntax.specs.declared.syntax.Ty.{Ty}
use Rattle.bc_syntax.specs.declared.syntax.Projection.{Projection}
use Rattle.bc_syntax.specs.declared.syntax.Projection.TheVariants as projections
use Rattle.bc_syntax.specs.declared.syntax.Place.{Place}
use Rattle.bc_syntax.specs.declared.syntax.Operand.{Operand}
use Rattle.bc_syntax.specs.declared.syntax.Operand.TheVariants as operands
use Rattle.bc_syntax.specs.declared.syntax.Borrow.{Borrow}
use Rattle.bc_syntax.specs.declared.syntax.Aggregate.{Aggregate}
use Rattle.bc_syntax.specs.declared.syntax.Creation.{Creation}
use Rattle.bc_syntax.specs.declared.syntax.Rvalue.{Rvalue}
use Rattle.bc_syntax.specs.declared.syntax.Rvalue.TheVariants as rvalues
use Rattle.bc_syntax.specs.declared.syntax.Assignment.{Assignment}
use Rattle.bc_syntax.specs.declared.syntax.Statement.{Statement}
use Rattle.bc_syntax.specs.declared.syntax.Statement.TheVariants as statements
use Rattle.bc_syntax.specs.declared.syntax.Condition.{Condition}
use Rattle.bc_syntax.specs.declared.syntax.Call.{Call}
use Rattle.bc_syntax.specs.declared.syntax.Invocation.{Invocation}
use Rattle.bc_syntax.specs.declared.syntax.Terminator.{Terminator}
use Rattle.bc_syntax.specs.declared.syntax.Terminator.TheVariants as terminators
use Rattle.bc_syntax.specs.declared.syntax.Block.{Block}
use Rattle.bc_syntax.specs.declared.syntax.Outlives.{Outlives}
use Rattle.bc_syntax.specs.declared.syntax.RegionName.{RegionName}
use Rattle.bc_syntax.specs.declared.syntax.UnitKind.{UnitKind}
use Rattle.bc_syntax.specs.declared.syntax.UnitKind.TheVariants as unit_kinds
use Rattle.bc_syntax.specs.declared.syntax.Signature.{Signature}
use Rattle.bc_syntax.specs.declared.syntax.Header.{Header}
use Rattle.bc_syntax.specs.declared.syntax.Body.{Body}
use Rattle.bc_syntax.specs.declared.syntax.Variance.{Variance}
use Rattle.bc_syntax.specs.declared.syntax.Variance.TheVariants as variances
use Rattle.bc_syntax.specs.declared.syntax.StructDeclaration.{StructDeclaration}
use Rattle.bc_syntax.specs.declared.syntax.ExternDeclaration.{ExternDeclaration}
use Rattle.bc_syntax.specs.declared.syntax.Declaration.{Declaration}
use Rattle.bc_syntax.specs.declared.syntax.Declaration.TheVariants as declarations
use Rattle.bc_syntax.specs.contracts.syntax.RegionPartialEq.TheImpl as region_impl
use Rattle.bc_syntax.specs.contracts.syntax.MutabilityPartialEq.TheImpl as mutability_impl
use Rattle.bc_syntax.specs.contracts.syntax.ReferencePartialEq.TheImpl as reference_impl
use Rattle.bc_syntax.specs.contracts.syntax.ItemNamePartialEq.TheImpl as item_name_impl
use Rattle.bc_syntax.specs.contracts.syntax.InstancePartialEq.TheImpl as instance_impl
use Rattle.bc_syntax.specs.contracts.syntax.ClosureInstancePartialEq.TheImpl as closure_instance_impl
use Rattle.bc_syntax.specs.contracts.syntax.BasePartialEq.TheImpl as base_impl
use Rattle.bc_syntax.specs.contracts.syntax.TyPartialEq.TheImpl as ty_impl
use Rattle.bc_syntax.specs.contracts.syntax.ProjectionPartialEq.TheImpl as projection_impl
use Rattle.bc_syntax.specs.contracts.syntax.PlacePartialEq.TheImpl as place_impl
use Rattle.bc_syntax.specs.contracts.syntax.OperandPartialEq.TheImpl as operand_impl
use Rattle.bc_syntax.specs.contracts.syntax.BorrowPartialEq.TheImpl as borrow_impl
use Rattle.bc_syntax.specs.contracts.syntax.AggregatePartialEq.TheImpl as aggregate_impl
use Rattle.bc_syntax.specs.contracts.syntax.CreationPartialEq.TheImpl as creation_impl
use Rattle.bc_syntax.specs.contracts.syntax.RvaluePartialEq.TheImpl as rvalue_impl
use Rattle.bc_syntax.specs.contracts.syntax.AssignmentPartialEq.TheImpl as assignment_impl
use Rattle.bc_syntax.specs.contracts.syntax.StatementPartialEq.TheImpl as statement_impl
use Rattle.bc_syntax.specs.contracts.syntax.ConditionPartialEq.TheImpl as condition_impl
use Rattle.bc_syntax.specs.contracts.syntax.CallPartialEq.TheImpl as call_impl
use Rattle.bc_syntax.specs.contracts.syntax.InvocationPartialEq.TheImpl as invocation_impl
use Rattle.bc_syntax.specs.contracts.syntax.TerminatorPartialEq.TheImpl as terminator_impl
use Rattle.bc_syntax.specs.contracts.syntax.BlockPartialEq.TheImpl as block_impl
use Rattle.bc_syntax.specs.contracts.syntax.OutlivesPartialEq.TheImpl as outlives_impl
use Rattle.bc_syntax.specs.contracts.syntax.RegionNamePartialEq.TheImpl as region_name_impl
use Rattle.bc_syntax.specs.contracts.syntax.UnitKindPartialEq.TheImpl as unit_kind_impl
use Rattle.bc_syntax.specs.contracts.syntax.SignaturePartialEq.TheImpl as signature_impl
use Rattle.bc_syntax.specs.contracts.syntax.HeaderPartialEq.TheImpl as header_impl
use Rattle.bc_syntax.specs.contracts.syntax.BodyPartialEq.TheImpl as body_impl
use Rattle.bc_syntax.specs.contracts.syntax.VariancePartialEq.TheImpl as variance_impl
use Rattle.bc_syntax.specs.contracts.syntax.StructDeclarationPartialEq.TheImpl as struct_declaration_impl
use Rattle.bc_syntax.specs.contracts.syntax.ExternDeclarationPartialEq.TheImpl as extern_declaration_impl
use Rattle.bc_syntax.specs.contracts.syntax.DeclarationPartialEq.TheImpl as declaration_impl

pub apart : {P : Type 0} → (P → ⊥) → Decides false P
apart never = (λ f. absurd (true≢false (sym f)), λ p. absurd (never p))

pub region : (a b : Region) → Decides ((region_impl.ghosts).eq a b) (a ≡ b)
region (regions.Universal x) (regions.Universal y) = Decides-like _ (λ e. ap (λ k. regions.Universal k) e) (λ e. cc) (Decides-eqb x y)
region (regions.Universal x) (regions.Variable y) = apart (λ e. absurd (cc))
region (regions.Variable x) (regions.Universal y) = apart (λ e. absurd (cc))
region (regions.Variable x) (regions.Variable y) = Decides-like _ (λ e. ap (λ k. regions.Variable k) e) (λ e. cc) (Decides-eqb x y)

pub mutability : (a b : Mutability) → Decides ((mutability_impl.ghosts).eq a b) (a ≡ b)
mutability mutabilities.Shared mutabilities.Shared = (λ _. refl, λ _. refl)
mutability mutabilities.Shared mutabilities.Mutable = apart (λ e. absurd (cc))
mutability mutabilities.Mutable mutabilities.Shared = apart (λ e. absurd (cc))
mutability mutabilities.Mutable mutabilities.Mutable = (λ _. refl, λ _. refl)

pub reference : (a b : Reference) → Decides ((reference_impl.ghosts).eq a b) (a ≡ b)
reference a b =
    Decides-like _ (λ p i. record { region = p.0 i; mutability = p.1 i }) (λ e. (ap (λ (r : Reference). r.region) e, ap (λ (r : Reference). r.mutability) e))
    (Decides-and _ _ (region a.region b.region) (mutability a.mutability b.mutability))

pub item_name : (a b : ItemName) → Decides ((item_name_impl.ghosts).eq a b) (a ≡ b)
item_name a b =
    Decides-like _ (λ p i. record { bytes = p i }) (λ e. ap (λ (r : ItemName). r.bytes) e)
    (slice_eq-Decides Decides-eqb a.bytes b.bytes _ refl)

pub instance : (a b : Instance) → Decides ((instance_impl.ghosts).eq a b) (a ≡ b)
instance a b =
    Decides-like _ (λ p i. record { name = p.0 i; regions = p.1 i }) (λ e. (ap (λ (r : Instance). r.name) e, ap (λ (r : Instance). r.regions) e))
    (Decides-and _ _ (item_name a.name b.name) (slice_eq-Decides region a.regions b.regions _ refl))

pub closure_instance : (a b : ClosureInstance) → Decides ((closure_instance_impl.ghosts).eq a b) (a ≡ b)
closure_instance a b =
    Decides-like _ (λ p i. record { number = p.0 i; regions = p.1 i }) (λ e. (ap (λ (r : ClosureInstance). r.number) e, ap (λ (r : ClosureInstance). r.regions) e))
    (Decides-and _ _ (Decides-eqb a.number b.number) (slice_eq-Decides region a.regions b.regions _ refl))

pub base : (a b : Base) → Decides ((base_impl.ghosts).eq a b) (a ≡ b)
base bases.Int bases.Int = (λ _. refl, λ _. refl)
base bases.Int (bases.Struct y) = apart (λ e. absurd (cc))
base bases.Int (bases.Closure y) = apart (λ e. absurd (cc))
base (bases.Struct x) bases.Int = apart (λ e. absurd (cc))
base (bases.Struct x) (bases.Struct y) = Decides-like _ (λ e. ap (λ k. bases.Struct k) e) (λ e. cc) (instance x y)
base (bases.Struct x) (bases.Closure y) = apart (λ e. absurd (cc))
base (bases.Closure x) bases.Int = apart (λ e. absurd (cc))
base (bases.Closure x) (bases.Struct y) = apart (λ e. absurd (cc))
base (bases.Closure x) (bases.Closure y) = Decides-like _ (λ e. ap (λ k. bases.Closure k) e) (λ e. cc) (closure_instance x y)

pub ty : (a b : Ty) → Decides ((ty_impl.ghosts).eq a b) (a ≡ b)
ty a b =
    Decides-like _ (λ p i. record { references = p.0 i; base = p.1 i }) (λ e. (ap (λ (r : Ty). r.references) e, ap (λ (r : Ty). r.base) e))
    (Decides-and _ _ (slice_eq-Decides reference a.references b.references _ refl) (base a.base b.base))

pub projection : (a b : Projection) → Decides ((projection_impl.ghosts).eq a b) (a ≡ b)
projection projections.Deref projections.Deref = (λ _. refl, λ _. refl)
projection projections.Deref (projections.Field y) = apart (λ e. absurd (cc))
projection (projections.Field x) projections.Deref = apart (λ e. absurd (cc))
projection (projections.Field x) (projections.Field y) = Decides-like _ (λ e. ap (λ k. projections.Field k) e) (λ e. cc) (Decides-eqb x y)

pub place : (a b : Place) → Decides ((place_impl.ghosts).eq a b) (a ≡ b)
place a b =
    Decides-like _ (λ p i. record { local = p.0 i; projections = p.1 i }) (λ e. (ap (λ (r : Place). r.local) e, ap (λ (r : Place). r.projections) e))
    (Decides-and _ _ (Decides-eqb a.local b.local) (slice_eq-Decides projection a.projections b.projections _ refl))

pub operand : (a b : Operand) → Decides ((operand_impl.ghosts).eq a b) (a ≡ b)
operand (operands.Copy x) (operands.Copy y) = Decides-like _ (λ e. ap (λ k. operands.Copy k) e) (λ e. cc) (place x y)
operand (operands.Copy x) (operands.Move y) = apart (λ e. absurd (cc))
operand (operands.Copy x) (operands.Number y) = apart (λ e. absurd (cc))
operand (operands.Move x) (operands.Copy y) = apart (λ e. absurd (cc))
operand (operands.Move x) (operands.Move y) = Decides-like _ (λ e. ap (λ k. operands.Move k) e) (λ e. cc) (place x y)
operand (operands.Move x) (operands.Number y) = apart (λ e. absurd (cc))
operand (operands.Number x) (operands.Copy y) = apart (λ e. absurd (cc))
operand (operands.Number x) (operands.Move y) = apart (λ e. absurd (cc))
operand (operands.Number x) (operands.Number y) = Decides-like _ (λ e. ap (λ k. operands.Number k) e) (λ e. cc) (Decides-eqb x y)

pub borrow : (a b : Borrow) → Decides ((borrow_impl.ghosts).eq a b) (a ≡ b)
borrow a b =
    Decides-like _ (λ p i. record { reference = p.0 i; place = p.1 i }) (λ e. (ap (λ (r : Borrow). r.reference) e, ap (λ (r : Borrow). r.place) e))
    (Decides-and _ _ (reference a.reference b.reference) (place a.place b.place))

pub aggregate : (a b : Aggregate) → Decides ((aggregate_impl.ghosts).eq a b) (a ≡ b)
aggregate a b =
    Decides-like _ (λ p i. record { instance = p.0 i; operands = p.1 i }) (λ e. (ap (λ (r : Aggregate). r.instance) e, ap (λ (r : Aggregate). r.operands) e))
    (Decides-and _ _ (instance a.instance b.instance) (slice_eq-Decides operand a.operands b.operands _ refl))

pub creation : (a b : Creation) → Decides ((creation_impl.ghosts).eq a b) (a ≡ b)
creation a b =
    Decides-like _ (λ p i. record { closure = p.0 i; operands = p.1 i }) (λ e. (ap (λ (r : Creation). r.closure) e, ap (λ (r : Creation). r.operands) e))
    (Decides-and _ _ (closure_instance a.closure b.closure) (slice_eq-Decides operand a.operands b.operands _ refl))

pub rvalue : (a b : Rvalue) → Decides ((rvalue_impl.ghosts).eq a b) (a ≡ b)
rvalue (rvalues.Use x) (rvalues.Use y) = Decides-like _ (λ e. ap (λ k. rvalues.Use k) e) (λ e. cc) (operand x y)
rvalue (rvalues.Use x) (rvalues.Borrow y) = apart (λ e. absurd (cc))
rvalue (rvalues.Use x) (rvalues.Aggregate y) = apart (λ e. absurd (cc))
rvalue (rvalues.Use x) (rvalues.Closure y) = apart (λ e. absurd (cc))
rvalue (rvalues.Use x) (rvalues.Calc y) = apart (λ e. absurd (cc))
rvalue (rvalues.Borrow x) (rvalues.Use y) = apart (λ e. absurd (cc))
rvalue (rvalues.Borrow x) (rvalues.Borrow y) = Decides-like _ (λ e. ap (λ k. rvalues.Borrow k) e) (λ e. cc) (borrow x y)
rvalue (rvalues.Borrow x) (rvalues.Aggregate y) = apart (λ e. absurd (cc))
rvalue (rvalues.Borrow x) (rvalues.Closure y) = apart (λ e. absurd (cc))
rvalue (rvalues.Borrow x) (rvalues.Calc y) = apart (λ e. absurd (cc))
rvalue (rvalues.Aggregate x) (rvalues.Use y) = apart (λ e. absurd (cc))
rvalue (rvalues.Aggregate x) (rvalues.Borrow y) = apart (λ e. absurd (cc))
rvalue (rvalues.Aggregate x) (rvalues.Aggregate y) = Decides-like _ (λ e. ap (λ k. rvalues.Aggregate k) e) (λ e. cc) (aggregate x y)
rvalue (rvalues.Aggregate x) (rvalues.Closure y) = apart (λ e. absurd (cc))
rvalue (rvalues.Aggregate x) (rvalues.Calc y) = apart (λ e. absurd (cc))
rvalue (rvalues.Closure x) (rvalues.Use y) = apart (λ e. absurd (cc))
rvalue (rvalues.Closure x) (rvalues.Borrow y) = apart (λ e. absurd (cc))
rvalue (rvalues.Closure x) (rvalues.Aggregate y) = apart (λ e. absurd (cc))
rvalue (rvalues.Closure x) (rvalues.Closure y) = Decides-like _ (λ e. ap (λ k. rvalues.Closure k) e) (λ e. cc) (creation x y)
rvalue (rvalues.Closure x) (rvalues.Calc y) = apart (λ e. absurd (cc))
rvalue (rvalues.Calc x) (rvalues.Use y) = apart (λ e. absurd (cc))
rvalue (rvalues.Calc x) (rvalues.Borrow y) = apart (λ e. absurd (cc))
rvalue (rvalues.Calc x) (rvalues.Aggregate y) = apart (λ e. absurd (cc))
rvalue (rvalues.Calc x) (rvalues.Closure y) = apart (λ e. absurd (cc))
rvalue (rvalues.Calc x) (rvalues.Calc y) = Decides-like _ (λ e. ap (λ k. rvalues.Calc k) e) (λ e. cc) (slice_eq-Decides operand x y _ refl)

pub assignment : (a b : Assignment) → Decides ((assignment_impl.ghosts).eq a b) (a ≡ b)
assignment a b =
    Decides-like _ (λ p i. record { target = p.0 i; value = p.1 i }) (λ e. (ap (λ (r : Assignment). r.target) e, ap (λ (r : Assignment). r.value) e))
    (Decides-and _ _ (place a.target b.target) (rvalue a.value b.value))

pub statement : (a b : Statement) → Decides ((statement_impl.ghosts).eq a b) (a ≡ b)
statement (statements.Assign x) (statements.Assign y) = Decides-like _ (λ e. ap (λ k. statements.Assign k) e) (λ e. cc) (assignment x y)
statement (statements.Assign x) (statements.Dead y) = apart (λ e. absurd (cc))
statement (statements.Assign x) (statements.Drop y) = apart (λ e. absurd (cc))
statement (statements.Assign x) statements.Nop = apart (λ e. absurd (cc))
statement (statements.Dead x) (statements.Assign y) = apart (λ e. absurd (cc))
statement (statements.Dead x) (statements.Dead y) = Decides-like _ (λ e. ap (λ k. statements.Dead k) e) (λ e. cc) (Decides-eqb x y)
statement (statements.Dead x) (statements.Drop y) = apart (λ e. absurd (cc))
statement (statements.Dead x) statements.Nop = apart (λ e. absurd (cc))
statement (statements.Drop x) (statements.Assign y) = apart (λ e. absurd (cc))
statement (statements.Drop x) (statements.Dead y) = apart (λ e. absurd (cc))
statement (statements.Drop x) (statements.Drop y) = Decides-like _ (λ e. ap (λ k. statements.Drop k) e) (λ e. cc) (place x y)
statement (statements.Drop x) statements.Nop = apart (λ e. absurd (cc))
statement statements.Nop (statements.Assign y) = apart (λ e. absurd (cc))
statement statements.Nop (statements.Dead y) = apart (λ e. absurd (cc))
statement statements.Nop (statements.Drop y) = apart (λ e. absurd (cc))
statement statements.Nop statements.Nop = (λ _. refl, λ _. refl)

pub condition : (a b : Condition) → Decides ((condition_impl.ghosts).eq a b) (a ≡ b)
condition a b =
    Decides-like _ (λ p i. record { operand = p.0 i; then = p.1.0 i; otherwise = p.1.1 i }) (λ e. (ap (λ (r : Condition). r.operand) e, (ap (λ (r : Condition). r.then) e, ap (λ (r : Condition). r.otherwise) e)))
    (Decides-and _ _ (operand a.operand b.operand) (Decides-and _ _ (Decides-eqb a.then b.then) (Decides-eqb a.otherwise b.otherwise)))

pub call : (a b : Call) → Decides ((call_impl.ghosts).eq a b) (a ≡ b)
call a b =
    Decides-like _ (λ p i. record { destination = p.0 i; function = p.1.0 i; operands = p.1.1.0 i; target = p.1.1.1 i }) (λ e. (ap (λ (r : Call). r.destination) e, (ap (λ (r : Call). r.function) e, (ap (λ (r : Call). r.operands) e, ap (λ (r : Call). r.target) e))))
    (Decides-and _ _ (place a.destination b.destination) (Decides-and _ _ (instance a.function b.function) (Decides-and _ _ (slice_eq-Decides operand a.operands b.operands _ refl) (Decides-eqb a.target b.target))))

pub invocation : (a b : Invocation) → Decides ((invocation_impl.ghosts).eq a b) (a ≡ b)
invocation a b =
    Decides-like _ (λ p i. record { destination = p.0 i; closure = p.1.0 i; regions = p.1.1.0 i; operands = p.1.1.1.0 i; target = p.1.1.1.1 i }) (λ e. (ap (λ (r : Invocation). r.destination) e, (ap (λ (r : Invocation). r.closure) e, (ap (λ (r : Invocation). r.regions) e, (ap (λ (r : Invocation). r.operands) e, ap (λ (r : Invocation). r.target) e)))))
    (Decides-and _ _ (place a.destination b.destination) (Decides-and _ _ (place a.closure b.closure) (Decides-and _ _ (slice_eq-Decides region a.regions b.regions _ refl) (Decides-and _ _ (slice_eq-Decides operand a.operands b.operands _ refl) (Decides-eqb a.target b.target)))))

pub terminator : (a b : Terminator) → Decides ((terminator_impl.ghosts).eq a b) (a ≡ b)
terminator (terminators.Goto x) (terminators.Goto y) = Decides-like _ (λ e. ap (λ k. terminators.Goto k) e) (λ e. cc) (Decides-eqb x y)
terminator (terminators.Goto x) (terminators.If y) = apart (λ e. absurd (cc))
terminator (terminators.Goto x) (terminators.Call y) = apart (λ e. absurd (cc))
terminator (terminators.Goto x) (terminators.Invoke y) = apart (λ e. absurd (cc))
terminator (terminators.Goto x) terminators.Return = apart (λ e. absurd (cc))
terminator (terminators.Goto x) terminators.Stop = apart (λ e. absurd (cc))
terminator (terminators.If x) (terminators.Goto y) = apart (λ e. absurd (cc))
terminator (terminators.If x) (terminators.If y) = Decides-like _ (λ e. ap (λ k. terminators.If k) e) (λ e. cc) (condition x y)
terminator (terminators.If x) (terminators.Call y) = apart (λ e. absurd (cc))
terminator (terminators.If x) (terminators.Invoke y) = apart (λ e. absurd (cc))
terminator (terminators.If x) terminators.Return = apart (λ e. absurd (cc))
terminator (terminators.If x) terminators.Stop = apart (λ e. absurd (cc))
terminator (terminators.Call x) (terminators.Goto y) = apart (λ e. absurd (cc))
terminator (terminators.Call x) (terminators.If y) = apart (λ e. absurd (cc))
terminator (terminators.Call x) (terminators.Call y) = Decides-like _ (λ e. ap (λ k. terminators.Call k) e) (λ e. cc) (call x y)
terminator (terminators.Call x) (terminators.Invoke y) = apart (λ e. absurd (cc))
terminator (terminators.Call x) terminators.Return = apart (λ e. absurd (cc))
terminator (terminators.Call x) terminators.Stop = apart (λ e. absurd (cc))
terminator (terminators.Invoke x) (terminators.Goto y) = apart (λ e. absurd (cc))
terminator (terminators.Invoke x) (terminators.If y) = apart (λ e. absurd (cc))
terminator (terminators.Invoke x) (terminators.Call y) = apart (λ e. absurd (cc))
terminator (terminators.Invoke x) (terminators.Invoke y) = Decides-like _ (λ e. ap (λ k. terminators.Invoke k) e) (λ e. cc) (invocation x y)
terminator (terminators.Invoke x) terminators.Return = apart (λ e. absurd (cc))
terminator (terminators.Invoke x) terminators.Stop = apart (λ e. absurd (cc))
terminator terminators.Return (terminators.Goto y) = apart (λ e. absurd (cc))
terminator terminators.Return (terminators.If y) = apart (λ e. absurd (cc))
terminator terminators.Return (terminators.Call y) = apart (λ e. absurd (cc))
terminator terminators.Return (terminators.Invoke y) = apart (λ e. absurd (cc))
terminator terminators.Return terminators.Return = (λ _. refl, λ _. refl)
terminator terminators.Return terminators.Stop = apart (λ e. absurd (cc))
terminator terminators.Stop (terminators.Goto y) = apart (λ e. absurd (cc))
terminator terminators.Stop (terminators.If y) = apart (λ e. absurd (cc))
terminator terminators.Stop (terminators.Call y) = apart (λ e. absurd (cc))
terminator terminators.Stop (terminators.Invoke y) = apart (λ e. absurd (cc))
terminator terminators.Stop terminators.Return = apart (λ e. absurd (cc))
terminator terminators.Stop terminators.Stop = (λ _. refl, λ _. refl)

pub block : (a b : Block) → Decides ((block_impl.ghosts).eq a b) (a ≡ b)
block a b =
    Decides-like _ (λ p i. record { statements = p.0 i; terminator = p.1 i }) (λ e. (ap (λ (r : Block). r.statements) e, ap (λ (r : Block). r.terminator) e))
    (Decides-and _ _ (slice_eq-Decides statement a.statements b.statements _ refl) (terminator a.terminator b.terminator))

pub outlives : (a b : Outlives) → Decides ((outlives_impl.ghosts).eq a b) (a ≡ b)
outlives a b =
    Decides-like _ (λ p i. record { longer = p.0 i; shorter = p.1 i }) (λ e. (ap (λ (r : Outlives). r.longer) e, ap (λ (r : Outlives). r.shorter) e))
    (Decides-and _ _ (Decides-eqb a.longer b.longer) (Decides-eqb a.shorter b.shorter))

pub region_name : (a b : RegionName) → Decides ((region_name_impl.ghosts).eq a b) (a ≡ b)
region_name a b =
    Decides-like _ (λ p i. record { bytes = p i }) (λ e. ap (λ (r : RegionName). r.bytes) e)
    (slice_eq-Decides Decides-eqb a.bytes b.bytes _ refl)

pub unit_kind : (a b : UnitKind) → Decides ((unit_kind_impl.ghosts).eq a b) (a ≡ b)
unit_kind unit_kinds.Function unit_kinds.Function = (λ _. refl, λ _. refl)
unit_kind unit_kinds.Function unit_kinds.Closure = apart (λ e. absurd (cc))
unit_kind unit_kinds.Closure unit_kinds.Function = apart (λ e. absurd (cc))
unit_kind unit_kinds.Closure unit_kinds.Closure = (λ _. refl, λ _. refl)

pub signature : (a b : Signature) → Decides ((signature_impl.ghosts).eq a b) (a ≡ b)
signature a b =
    Decides-like _ (λ p i. record { regions = p.0 i; clauses = p.1.0 i; parameters = p.1.1.0 i; result = p.1.1.1 i }) (λ e. (ap (λ (r : Signature). r.regions) e, (ap (λ (r : Signature). r.clauses) e, (ap (λ (r : Signature). r.parameters) e, ap (λ (r : Signature). r.result) e))))
    (Decides-and _ _ (slice_eq-Decides region_name a.regions b.regions _ refl) (Decides-and _ _ (slice_eq-Decides outlives a.clauses b.clauses _ refl) (Decides-and _ _ (slice_eq-Decides ty a.parameters b.parameters _ refl) (ty a.result b.result))))

pub header : (a b : Header) → Decides ((header_impl.ghosts).eq a b) (a ≡ b)
header a b =
    Decides-like _ (λ p i. record { kind = p.0 i; captures = p.1.0 i; signature = p.1.1 i }) (λ e. (ap (λ (r : Header). r.kind) e, (ap (λ (r : Header). r.captures) e, ap (λ (r : Header). r.signature) e)))
    (Decides-and _ _ (unit_kind a.kind b.kind) (Decides-and _ _ (slice_eq-Decides ty a.captures b.captures _ refl) (signature a.signature b.signature)))

pub body : (a b : Body) → Decides ((body_impl.ghosts).eq a b) (a ≡ b)
body a b =
    Decides-like _ (λ p i. record { header = p.0 i; lets = p.1.0 i; blocks = p.1.1 i }) (λ e. (ap (λ (r : Body). r.header) e, (ap (λ (r : Body). r.lets) e, ap (λ (r : Body). r.blocks) e)))
    (Decides-and _ _ (header a.header b.header) (Decides-and _ _ (slice_eq-Decides ty a.lets b.lets _ refl) (slice_eq-Decides block a.blocks b.blocks _ refl)))

pub variance : (a b : Variance) → Decides ((variance_impl.ghosts).eq a b) (a ≡ b)
variance variances.Covariant variances.Covariant = (λ _. refl, λ _. refl)
variance variances.Covariant variances.Invariant = apart (λ e. absurd (cc))
variance variances.Invariant variances.Covariant = apart (λ e. absurd (cc))
variance variances.Invariant variances.Invariant = (λ _. refl, λ _. refl)

pub struct_declaration : (a b : StructDeclaration) → Decides ((struct_declaration_impl.ghosts).eq a b) (a ≡ b)
struct_declaration a b =
    Decides-like _ (λ p i. record { name = p.0 i; regions = p.1.0 i; variances = p.1.1.0 i; has_drop = p.1.1.1.0 i; fields = p.1.1.1.1 i }) (λ e. (ap (λ (r : StructDeclaration). r.name) e, (ap (λ (r : StructDeclaration). r.regions) e, (ap (λ (r : StructDeclaration). r.variances) e, (ap (λ (r : StructDeclaration). r.has_drop) e, ap (λ (r : StructDeclaration). r.fields) e)))))
    (Decides-and _ _ (item_name a.name b.name) (Decides-and _ _ (slice_eq-Decides region_name a.regions b.regions _ refl) (Decides-and _ _ (slice_eq-Decides variance a.variances b.variances _ refl) (Decides-and _ _ (booleans_Decides a.has_drop b.has_drop) (slice_eq-Decides ty a.fields b.fields _ refl)))))

pub extern_declaration : (a b : ExternDeclaration) → Decides ((extern_declaration_impl.ghosts).eq a b) (a ≡ b)
extern_declaration a b =
    Decides-like _ (λ p i. record { name = p.0 i; signature = p.1 i }) (λ e. (ap (λ (r : ExternDeclaration). r.name) e, ap (λ (r : ExternDeclaration). r.signature) e))
    (Decides-and _ _ (item_name a.name b.name) (signature a.signature b.signature))

pub declaration : (a b : Declaration) → Decides ((declaration_impl.ghosts).eq a b) (a ≡ b)
declaration (declarations.Struct x) (declarations.Struct y) = Decides-like _ (λ e. ap (λ k. declarations.Struct k) e) (λ e. cc) (struct_declaration x y)
declaration (declarations.Struct x) (declarations.Extern y) = apart (λ e. absurd (cc))
declaration (declarations.Extern x) (declarations.Struct y) = apart (λ e. absurd (cc))
declaration (declarations.Extern x) (declarations.Extern y) = Decides-like _ (λ e. ap (λ k. declarations.Extern k) e) (λ e. cc) (extern_declaration x y)
