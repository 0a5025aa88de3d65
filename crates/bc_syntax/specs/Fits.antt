-- Which units and declarations a text can spell, with all their numbers within their limits.
use Rattle.std.specs.Prelude.{◌≡◌, ℕ, ◌+◌, ◌≤◌, Bool, true, false, not, ◌&&◌, ◌||◌, nat_lt, nat_le, List, [], ◌∷◌, ◌++◌, length, sum_by, ◌==◌, codes}
use Rattle.std.specs.List.{list_all, list_any, filter}
use Rattle.std.specs.Str.{bytes_eq}
use Rattle.bc_syntax.specs.declared.syntax.Region.{Region}
use Rattle.bc_syntax.specs.declared.syntax.Region.TheVariants.{Universal, Variable}
use Rattle.bc_syntax.specs.declared.syntax.RegionName.{RegionName}
use Rattle.bc_syntax.specs.declared.syntax.ItemName.{ItemName}
use Rattle.bc_syntax.specs.declared.syntax.Instance.{Instance}
use Rattle.bc_syntax.specs.declared.syntax.Reference.{Reference}
use Rattle.bc_syntax.specs.declared.syntax.ClosureInstance.{ClosureInstance}
use Rattle.bc_syntax.specs.declared.syntax.Base.{Base}
use Rattle.bc_syntax.specs.declared.syntax.Base.TheVariants as bases
use Rattle.bc_syntax.specs.declared.syntax.Ty.{Ty}
use Rattle.bc_syntax.specs.declared.syntax.Projection.{Projection}
use Rattle.bc_syntax.specs.declared.syntax.Projection.TheVariants.{Deref, Field}
use Rattle.bc_syntax.specs.declared.syntax.Place.{Place}
use Rattle.bc_syntax.specs.declared.syntax.Operand.{Operand}
use Rattle.bc_syntax.specs.declared.syntax.Operand.TheVariants as operands
use Rattle.bc_syntax.specs.declared.syntax.Borrow.{Borrow}
use Rattle.bc_syntax.specs.declared.syntax.Aggregate.{Aggregate}
use Rattle.bc_syntax.specs.declared.syntax.Creation.{Creation}
use Rattle.bc_syntax.specs.declared.syntax.Rvalue.{Rvalue}
use Rattle.bc_syntax.specs.declared.syntax.Rvalue.TheVariants as rvalues
use Rattle.bc_syntax.specs.declared.syntax.Assignment.{Assignment}
use Rattle.bc_syntax.specs.declared.syntax.Statement.{Statement}
use Rattle.bc_syntax.specs.declared.syntax.Statement.TheVariants as statements
use Rattle.bc_syntax.specs.declared.syntax.Condition.{Condition}
use Rattle.bc_syntax.specs.declared.syntax.Call.{Call}
use Rattle.bc_syntax.specs.declared.syntax.Invocation.{Invocation}
use Rattle.bc_syntax.specs.declared.syntax.Terminator.{Terminator}
use Rattle.bc_syntax.specs.declared.syntax.Terminator.TheVariants as terminators
use Rattle.bc_syntax.specs.declared.syntax.Block.{Block}
use Rattle.bc_syntax.specs.declared.syntax.Outlives.{Outlives}
use Rattle.bc_syntax.specs.declared.syntax.UnitKind.{UnitKind}
use Rattle.bc_syntax.specs.declared.syntax.UnitKind.TheVariants.{Function, Closure}
use Rattle.bc_syntax.specs.declared.syntax.Signature.{Signature}
use Rattle.bc_syntax.specs.declared.syntax.Header.{Header}
use Rattle.bc_syntax.specs.declared.syntax.Body.{Body}
use Rattle.bc_syntax.specs.declared.syntax.StructDeclaration.{StructDeclaration}
use Rattle.bc_syntax.specs.declared.syntax.ExternDeclaration.{ExternDeclaration}
use Rattle.bc_syntax.specs.declared.syntax.Declaration.{Declaration}
use Rattle.bc_syntax.specs.declared.syntax.Declaration.TheVariants as declarations
use Rattle.bc_syntax.specs.Words.{is_region_name, is_word}
use Rattle.bc_syntax.specs.Locals.{locals_of}

-- how many universal regions a signature has: `'static` and those that it declares
abbrev pub universal_count : Signature → ℕ
universal_count signature = length signature.regions + 1

-- how many points blocks have: their statements, and a terminator each
abbrev pub point_count : List Block → ℕ
point_count blocks = sum_by (λ block. length block.statements + 1) blocks

-- ---- names and regions

-- the name is a word of at most 32 bytes
abbrev pub item_fits : ItemName → Bool
item_fits name = is_word name.bytes && nat_le (length name.bytes) 32

-- the name may be declared after those before it: it is well formed, has at most 16 bytes, and is neither `static` nor among them
abbrev pub is_new : List RegionName → RegionName → Bool
is_new before name = is_region_name name.bytes && nat_le (length name.bytes) 16 && not (bytes_eq name.bytes (codes "static")) && not (list_any (λ (other : RegionName). bytes_eq other.bytes name.bytes) before)

-- the names may be declared one after the other, after those before them
abbrev pub are_new : List RegionName → List RegionName → Bool
are_new before [] = true
are_new before (name ∷ names) = is_new before name && are_new (before ++ name ∷ []) names

-- the region may be named here: a universal one below `universals`, or a variable up to 1,023 if variables are allowed
abbrev pub region_fits : (variables : Bool) (universals : ℕ) → Region → Bool
region_fits variables universals (Universal number) = nat_lt number universals
region_fits variables universals (Variable number) = variables && nat_le number 1023

-- at most 15 regions that fit
abbrev pub regions_fit : Bool → ℕ → List Region → Bool
regions_fit variables universals regions = list_all (region_fits variables universals) regions && nat_le (length regions) 15

-- the name and the regions fit
abbrev pub instance_fits : Bool → ℕ → Instance → Bool
instance_fits variables universals instance = item_fits instance.name && regions_fit variables universals instance.regions

-- the number of the closure is at most 63, and its regions fit
abbrev pub closure_fits : Bool → ℕ → ClosureInstance → Bool
closure_fits variables universals closure = nat_le closure.number 63 && regions_fit variables universals closure.regions

-- the clause is between universal regions below this number
abbrev pub clause_fits : ℕ → Outlives → Bool
clause_fits universals clause = nat_lt clause.longer universals && nat_lt clause.shorter universals

-- ---- types

-- the region of the reference fits
abbrev pub reference_fits : Bool → ℕ → Reference → Bool
reference_fits variables universals reference = region_fits variables universals reference.region

-- the base is an `int` or a struct that fits; a closure is never part of a type
abbrev pub base_fits : Bool → ℕ → Base → Bool
base_fits variables universals bases.Int = true
base_fits variables universals (bases.Struct instance) = instance_fits variables universals instance
base_fits variables universals (bases.Closure closure) = false

-- the type has at most seven references, and they and its base fit
abbrev pub ty_fits : Bool → ℕ → Ty → Bool
ty_fits variables universals ty = list_all (reference_fits variables universals) ty.references && nat_le (length ty.references) 7 && base_fits variables universals ty.base

-- the type is a whole closure that fits, without references
abbrev pub whole_closure_fits : ℕ → List Reference → Base → Bool
whole_closure_fits universals [] bases.Int = false
whole_closure_fits universals [] (bases.Struct instance) = false
whole_closure_fits universals [] (bases.Closure closure) = closure_fits true universals closure
whole_closure_fits universals (reference ∷ references) base = false

-- the type of a `let` local: any that fits in a body, or a whole closure
abbrev pub let_fits : ℕ → Ty → Bool
let_fits universals ty = ty_fits true universals ty || whole_closure_fits universals ty.references ty.base

-- ---- places and operands

-- the number of a field is at most 15
abbrev pub projection_fits : Projection → Bool
projection_fits Deref = true
projection_fits (Field number) = nat_le number 15

-- the local of the place is below `locals`, and its at most eight projections fit
abbrev pub place_fits : (locals : ℕ) → Place → Bool
place_fits locals place = nat_lt place.local locals && list_all projection_fits place.projections && nat_le (length place.projections) 8

-- the place or the number of the operand fits
abbrev pub operand_fits : ℕ → Operand → Bool
operand_fits locals (operands.Copy place) = place_fits locals place
operand_fits locals (operands.Move place) = place_fits locals place
operand_fits locals (operands.Number number) = nat_le number 4294967295

-- at most 16 operands that fit
abbrev pub operands_fit : ℕ → List Operand → Bool
operands_fit locals os = list_all (operand_fits locals) os && nat_le (length os) 16

-- ---- points

-- the region and the place of the borrow fit
abbrev pub borrow_fits : ℕ → ℕ → Borrow → Bool
borrow_fits universals locals borrow = reference_fits true universals borrow.reference && place_fits locals borrow.place

-- the struct and the operands fit
abbrev pub aggregate_fits : ℕ → ℕ → Aggregate → Bool
aggregate_fits universals locals aggregate = instance_fits true universals aggregate.instance && operands_fit locals aggregate.operands

-- the closure and the operands fit
abbrev pub creation_fits : ℕ → ℕ → Creation → Bool
creation_fits universals locals creation = closure_fits true universals creation.closure && operands_fit locals creation.operands

-- the parts of the rvalue fit
abbrev pub rvalue_fits : (universals locals : ℕ) → Rvalue → Bool
rvalue_fits universals locals (rvalues.Use operand) = operand_fits locals operand
rvalue_fits universals locals (rvalues.Borrow borrow) = borrow_fits universals locals borrow
rvalue_fits universals locals (rvalues.Aggregate aggregate) = aggregate_fits universals locals aggregate
rvalue_fits universals locals (rvalues.Closure creation) = creation_fits universals locals creation
rvalue_fits universals locals (rvalues.Calc os) = operands_fit locals os

-- the target and the value fit
abbrev pub assignment_fits : ℕ → ℕ → Assignment → Bool
assignment_fits universals locals assignment = place_fits locals assignment.target && rvalue_fits universals locals assignment.value

-- the parts of the statement fit
abbrev pub statement_fits : ℕ → ℕ → Statement → Bool
statement_fits universals locals (statements.Assign assignment) = assignment_fits universals locals assignment
statement_fits universals locals (statements.Dead local) = nat_lt local locals
statement_fits universals locals (statements.Drop place) = place_fits locals place
statement_fits universals locals statements.Nop = true

-- the operand fits, and the labels are at most 255
abbrev pub condition_fits : ℕ → Condition → Bool
condition_fits locals condition = operand_fits locals condition.operand && nat_le condition.then 255 && nat_le condition.otherwise 255

-- the parts of the call fit, and its label is at most 255
abbrev pub call_fits : ℕ → ℕ → Call → Bool
call_fits universals locals call = place_fits locals call.destination && instance_fits true universals call.function && operands_fit locals call.operands && nat_le call.target 255

-- the parts of the invocation fit, and its label is at most 255
abbrev pub invocation_fits : ℕ → ℕ → Invocation → Bool
invocation_fits universals locals invocation = place_fits locals invocation.destination && place_fits locals invocation.closure && regions_fit true universals invocation.regions && operands_fit locals invocation.operands && nat_le invocation.target 255

-- the parts of the terminator fit, and its labels are at most 255
abbrev pub terminator_fits : ℕ → ℕ → Terminator → Bool
terminator_fits universals locals (terminators.Goto label) = nat_le label 255
terminator_fits universals locals (terminators.If condition) = condition_fits locals condition
terminator_fits universals locals (terminators.Call call) = call_fits universals locals call
terminator_fits universals locals (terminators.Invoke invocation) = invocation_fits universals locals invocation
terminator_fits universals locals terminators.Return = true
terminator_fits universals locals terminators.Stop = true

-- the statements and the terminator of the block fit
abbrev pub block_fits : ℕ → ℕ → Block → Bool
block_fits universals locals block = list_all (statement_fits universals locals) block.statements && terminator_fits universals locals block.terminator

-- ---- units

-- at most 32 clauses that fit
abbrev pub clauses_fit : ℕ → List Outlives → Bool
clauses_fit universals clauses = list_all (clause_fits universals) clauses && nat_le (length clauses) 32

-- at most 16 types that fit in a header
abbrev pub parameters_fit : ℕ → List Ty → Bool
parameters_fit universals parameters = list_all (ty_fits false universals) parameters && nat_le (length parameters) 16

-- the signature declares at most `limit` regions, and its parts fit
abbrev pub signature_fits : ℕ → Signature → Bool
signature_fits limit s = are_new [] s.regions && nat_le (length s.regions) limit && clauses_fit (universal_count s) s.clauses && parameters_fit (universal_count s) s.parameters && ty_fits false (universal_count s) s.result

-- a function captures nothing, and a closure at most 16 types that fit in a header
abbrev pub kind_fits : ℕ → UnitKind → List Ty → Bool
kind_fits universals Function [] = true
kind_fits universals Function (capture ∷ captures) = false
kind_fits universals Closure captures = parameters_fit universals captures

-- the header declares at most 15 regions, and its captures and its signature fit
abbrev pub header_fits : Header → Bool
header_fits header = kind_fits (universal_count header.signature) header.kind header.captures && signature_fits 15 header.signature

-- ---- declarations

-- the struct has at most 8 regions with a variance each and at most 16 fields, and its parts fit
abbrev pub struct_fits : StructDeclaration → Bool
struct_fits d = item_fits d.name && are_new [] d.regions && nat_le (length d.regions) 8 && length d.variances == length d.regions && list_all (ty_fits false (length d.regions + 1)) d.fields && nat_le (length d.fields) 16

-- the extern function has at most 8 regions, and its parts fit
abbrev pub extern_fits : ExternDeclaration → Bool
extern_fits d = item_fits d.name && signature_fits 8 d.signature

-- the struct or the extern function fits
abbrev pub declaration_fits : Declaration → Bool
declaration_fits (declarations.Struct d) = struct_fits d
declaration_fits (declarations.Extern d) = extern_fits d

-- the declaration declares a struct
abbrev pub is_struct : Declaration → Bool
is_struct (declarations.Struct d) = true
is_struct (declarations.Extern d) = false

-- a text can spell the declarations: each fits, and there are at most 64 structs and 64 extern functions
pub record TypesFit (ds : List Declaration) : Type 0 where
  pub declarations : list_all declaration_fits ds ≡ true
  pub structs : length (filter is_struct ds) ≤ 64
  pub externs : length ds ≤ length (filter is_struct ds) + 64

-- ---- bodies

-- a text can spell the body: its parts fit, and its numbers are within their limits
pub record Fits (body : Body) : Type 0 where
  pub header : header_fits body.header ≡ true
  pub lets : list_all (let_fits (universal_count body.header.signature)) body.lets ≡ true
  pub locals : length (locals_of body) ≤ 256
  pub some_block : 1 ≤ length body.blocks
  pub few_blocks : length body.blocks ≤ 256
  pub points : point_count body.blocks ≤ 4096
  pub blocks : list_all (block_fits (universal_count body.header.signature) (length (locals_of body))) body.blocks ≡ true
