-- How each value is spelled, token by token.
use Rattle.std.specs.Prelude.{ℕ, ◌+◌, Bool, true, false, List, [], ◌∷◌, ◌++◌, get_or}
use Rattle.std.specs.List.{flat_map, zip}
use Rattle.bc_syntax.specs.declared.symbol.Symbol.{Symbol}
use Rattle.bc_syntax.specs.declared.symbol.Symbol.TheVariants as s
use Rattle.bc_syntax.specs.declared.numbering.Numbering.TheVariants as n
use Rattle.bc_syntax.specs.declared.syntax.Region.{Region}
use Rattle.bc_syntax.specs.declared.syntax.Region.TheVariants.{Universal, Variable}
use Rattle.bc_syntax.specs.declared.syntax.RegionName.{RegionName}
use Rattle.bc_syntax.specs.declared.syntax.ItemName.{ItemName}
use Rattle.bc_syntax.specs.declared.syntax.Instance.{Instance}
use Rattle.bc_syntax.specs.declared.syntax.Mutability.{Mutability}
use Rattle.bc_syntax.specs.declared.syntax.Mutability.TheVariants.{Shared, Mutable}
use Rattle.bc_syntax.specs.declared.syntax.Reference.{Reference}
use Rattle.bc_syntax.specs.declared.syntax.ClosureInstance.{ClosureInstance}
use Rattle.bc_syntax.specs.declared.syntax.Base.{Base}
use Rattle.bc_syntax.specs.declared.syntax.Base.TheVariants as bases
use Rattle.bc_syntax.specs.declared.syntax.Ty.{Ty}
use Rattle.bc_syntax.specs.declared.syntax.Projection.{Projection}
use Rattle.bc_syntax.specs.declared.syntax.Projection.TheVariants.{Deref, Field}
use Rattle.bc_syntax.specs.declared.syntax.Place.{Place}
use Rattle.bc_syntax.specs.declared.syntax.Operand.{Operand}
use Rattle.bc_syntax.specs.declared.syntax.Operand.TheVariants as operand_kinds
use Rattle.bc_syntax.specs.declared.syntax.Borrow.{Borrow}
use Rattle.bc_syntax.specs.declared.syntax.Aggregate.{Aggregate}
use Rattle.bc_syntax.specs.declared.syntax.Creation.{Creation}
use Rattle.bc_syntax.specs.declared.syntax.Rvalue.{Rvalue}
use Rattle.bc_syntax.specs.declared.syntax.Rvalue.TheVariants as rvalue_kinds
use Rattle.bc_syntax.specs.declared.syntax.Assignment.{Assignment}
use Rattle.bc_syntax.specs.declared.syntax.Statement.{Statement}
use Rattle.bc_syntax.specs.declared.syntax.Statement.TheVariants as statement_kinds
use Rattle.bc_syntax.specs.declared.syntax.Condition.{Condition}
use Rattle.bc_syntax.specs.declared.syntax.Call.{Call}
use Rattle.bc_syntax.specs.declared.syntax.Invocation.{Invocation}
use Rattle.bc_syntax.specs.declared.syntax.Terminator.{Terminator}
use Rattle.bc_syntax.specs.declared.syntax.Terminator.TheVariants as terminator_kinds
use Rattle.bc_syntax.specs.declared.syntax.Block.{Block}
use Rattle.bc_syntax.specs.declared.syntax.Outlives.{Outlives}
use Rattle.bc_syntax.specs.declared.syntax.UnitKind.{UnitKind}
use Rattle.bc_syntax.specs.declared.syntax.UnitKind.TheVariants as kinds
use Rattle.bc_syntax.specs.declared.syntax.Signature.{Signature}
use Rattle.bc_syntax.specs.declared.syntax.Header.{Header}
use Rattle.bc_syntax.specs.declared.syntax.Body.{Body}
use Rattle.bc_syntax.specs.declared.syntax.Variance.{Variance}
use Rattle.bc_syntax.specs.declared.syntax.Variance.TheVariants.{Covariant, Invariant}
use Rattle.bc_syntax.specs.declared.syntax.StructDeclaration.{StructDeclaration}
use Rattle.bc_syntax.specs.declared.syntax.ExternDeclaration.{ExternDeclaration}
use Rattle.bc_syntax.specs.declared.syntax.Declaration.{Declaration}
use Rattle.bc_syntax.specs.declared.syntax.Declaration.TheVariants as declarations
use Rattle.bc_syntax.specs.Locals.{first_let}
use Rattle.bc_syntax.specs.Token.{Token, Fixed, Numbered, Word}
use Rattle.bc_syntax.specs.Token.{Region as Named}
use Rattle.bc_syntax.specs.Universals.{universal_names}

-- the one token of a symbol
abbrev pub symbol : Symbol → List Token
symbol found = Fixed found ∷ []

-- items, each after a comma
abbrev pub behind_commas : {A : Type 0} → (A → List Token) → List A → List Token
behind_commas item xs = flat_map (λ y. symbol s.Comma ++ item y) xs

-- items with commas between
abbrev pub commas : {A : Type 0} → (A → List Token) → List A → List Token
commas item [] = []
commas item (x ∷ xs) = item x ++ behind_commas item xs

-- items with commas between, in `<` and `>`, or nothing if there are none
abbrev pub angled : {A : Type 0} → (A → List Token) → List A → List Token
angled item [] = []
angled item (x ∷ xs) = symbol s.Less ++ (commas item (x ∷ xs) ++ symbol s.Greater)

-- ---- names and regions

-- the name of a universal region
abbrev pub universal : List RegionName → ℕ → List Token
universal regions number = Named (get_or (universal_names regions) number []) ∷ []

-- a universal region by its name, a variable by its number
abbrev pub region : List RegionName → Region → List Token
region regions (Universal number) = universal regions number
region regions (Variable number) = Numbered n.Variable number ∷ []

-- the name of a struct or an extern function
abbrev pub item_name : ItemName → List Token
item_name name = Word name.bytes ∷ []

-- a name and its regions
abbrev pub instance : List RegionName → Instance → List Token
instance regions i = item_name i.name ++ angled (region regions) i.regions

-- the number of a closure and its regions
abbrev pub closure_number : List RegionName → ClosureInstance → List Token
closure_number regions c = Numbered n.Number c.number ∷ angled (region regions) c.regions

-- `closure`, its number and its regions
abbrev pub closure_instance : List RegionName → ClosureInstance → List Token
closure_instance regions c = symbol s.Closure ++ closure_number regions c

-- the name of a declared region
abbrev pub region_name : RegionName → List Token
region_name name = Named name.bytes ∷ []

-- two regions with `:` between
abbrev pub clause : List RegionName → Outlives → List Token
clause regions c = universal regions c.longer ++ (symbol s.Colon ++ universal regions c.shorter)

-- `where` and the clauses, or nothing if there are none
abbrev pub clauses : List RegionName → List Outlives → List Token
clauses regions [] = []
clauses regions (c ∷ cs) = symbol s.Where ++ commas (clause regions) (c ∷ cs)

-- ---- types

-- `mut` if mutable, otherwise nothing
abbrev pub mutability : Mutability → List Token
mutability Shared = []
mutability Mutable = symbol s.Mut

-- the region of a reference, and its `mut`
abbrev pub reference : List RegionName → Reference → List Token
reference regions r = region regions r.region ++ mutability r.mutability

-- `&` and a reference
abbrev pub behind : List RegionName → Reference → List Token
behind regions r = symbol s.Ampersand ++ reference regions r

-- what the references of a type lead to
abbrev pub base : List RegionName → Base → List Token
base regions bases.Int = symbol s.Int
base regions (bases.Struct i) = instance regions i
base regions (bases.Closure c) = closure_instance regions c

-- a type: its references, then its base
abbrev pub ty : List RegionName → Ty → List Token
ty regions t = flat_map (behind regions) t.references ++ base regions t.base

-- ---- places and operands

-- `*`, or the number of a field
abbrev pub projection : Projection → List Token
projection Deref = symbol s.Star
projection (Field k) = Numbered n.Number k ∷ []

-- `.` and a projection
abbrev pub step : Projection → List Token
step p = symbol s.Dot ++ projection p

-- a local and its projections
abbrev pub place : Place → List Token
place p = Numbered n.Local p.local ∷ flat_map step p.projections

-- an operand: `copy` or `move` and a place, or a number
abbrev pub operand : Operand → List Token
operand (operand_kinds.Copy p) = symbol s.Copy ++ place p
operand (operand_kinds.Move p) = symbol s.Move ++ place p
operand (operand_kinds.Number k) = Numbered n.Number k ∷ []

-- operands in `(` and `)`
abbrev pub operands : List Operand → List Token
operands os = symbol s.OpenParen ++ (commas operand os ++ symbol s.CloseParen)

-- ---- points

-- a borrow, after its `&`
abbrev pub borrow : List RegionName → Borrow → List Token
borrow regions b = reference regions b.reference ++ place b.place

-- a struct and the operands of its creation
abbrev pub aggregate : List RegionName → Aggregate → List Token
aggregate regions a = instance regions a.instance ++ operands a.operands

-- a closure and the operands of its creation
abbrev pub creation : List RegionName → Creation → List Token
creation regions c = closure_instance regions c.closure ++ operands c.operands

-- the value of an assignment
abbrev pub rvalue : List RegionName → Rvalue → List Token
rvalue regions (rvalue_kinds.Use o) = operand o
rvalue regions (rvalue_kinds.Borrow b) = symbol s.Ampersand ++ borrow regions b
rvalue regions (rvalue_kinds.Aggregate a) = aggregate regions a
rvalue regions (rvalue_kinds.Closure c) = creation regions c
rvalue regions (rvalue_kinds.Calc os) = symbol s.Calc ++ operands os

-- a target, `=` and a value
abbrev pub assignment : List RegionName → Assignment → List Token
assignment regions a = place a.target ++ (symbol s.Equals ++ rvalue regions a.value)

-- a statement, without its `;`
abbrev pub statement : List RegionName → Statement → List Token
statement regions (statement_kinds.Assign a) = assignment regions a
statement regions (statement_kinds.Dead l) = symbol s.Dead ++ (Numbered n.Local l ∷ [])
statement regions (statement_kinds.Drop p) = symbol s.Drop ++ place p
statement regions statement_kinds.Nop = symbol s.Nop

-- a statement and its `;`
abbrev pub line : List RegionName → Statement → List Token
line regions st = statement regions st ++ symbol s.Semicolon

-- the one token of a label
abbrev pub label : ℕ → List Token
label number = Numbered n.Label number ∷ []

-- the operand of `if` and its two labels
abbrev pub condition : Condition → List Token
condition c = operand c.operand ++ (label c.then ++ label c.otherwise)

-- a call, after `call`
abbrev pub called : List RegionName → Call → List Token
called regions c = instance regions c.function ++ (operands c.operands ++ label c.target)

-- a destination, `= call` and the rest of the call
abbrev pub call : List RegionName → Call → List Token
call regions c = place c.destination ++ (symbol s.Equals ++ (symbol s.Call ++ called regions c))

-- an invocation, after `invoke`
abbrev pub invoked : List RegionName → Invocation → List Token
invoked regions i = place i.closure ++ (angled (region regions) i.regions ++ (operands i.operands ++ label i.target))

-- a destination, `= invoke` and the rest of the invocation
abbrev pub invocation : List RegionName → Invocation → List Token
invocation regions i = place i.destination ++ (symbol s.Equals ++ (symbol s.Invoke ++ invoked regions i))

-- a terminator, without its `;`
abbrev pub terminator : List RegionName → Terminator → List Token
terminator regions (terminator_kinds.Goto number) = symbol s.Goto ++ label number
terminator regions (terminator_kinds.If c) = symbol s.If ++ condition c
terminator regions (terminator_kinds.Call c) = call regions c
terminator regions (terminator_kinds.Invoke i) = invocation regions i
terminator regions terminator_kinds.Return = symbol s.Return
terminator regions terminator_kinds.Stop = symbol s.Stop

-- the points of a block, without the last `;`
abbrev pub points : List RegionName → Block → List Token
points regions b = flat_map (line regions) b.statements ++ terminator regions b.terminator

-- the points of a block in `{` and `}`
abbrev pub braced : List RegionName → Block → List Token
braced regions b = symbol s.OpenBrace ++ (points regions b ++ (symbol s.Semicolon ++ symbol s.CloseBrace))

-- a label and its block
abbrev pub block : List RegionName → ℕ → Block → List Token
block regions number b = label number ++ braced regions b

-- blocks, labelled from this number on
abbrev pub blocks : List RegionName → ℕ → List Block → List Token
blocks regions number [] = []
blocks regions number (b ∷ bs) = block regions number b ++ blocks regions (number + 1) bs

-- ---- units

-- the `let` of a local
abbrev pub declared : List RegionName → ℕ → Ty → List Token
declared regions number t = symbol s.Let ++ (Numbered n.Local number ∷ (symbol s.Colon ++ (ty regions t ++ symbol s.Semicolon)))

-- the `let` locals of these types, from this number on
abbrev pub lets : List RegionName → ℕ → List Ty → List Token
lets regions number [] = []
lets regions number (t ∷ ts) = declared regions number t ++ lets regions (number + 1) ts

-- types in `(` and `)`
abbrev pub parameters : List RegionName → List Ty → List Token
parameters regions ts = symbol s.OpenParen ++ (commas (ty regions) ts ++ symbol s.CloseParen)

-- the parameters and the result of a function
abbrev pub function_ty : Signature → List Token
function_ty f = parameters f.regions f.parameters ++ (symbol s.Arrow ++ ty f.regions f.result)

-- a signature, with these tokens before its parameters
abbrev pub signature_with : List Token → Signature → List Token
signature_with found f = angled region_name f.regions ++ (clauses f.regions f.clauses ++ (found ++ function_ty f))

-- an extern function, after its name
abbrev pub signature : Signature → List Token
signature f = signature_with [] f

-- the first word of a unit
abbrev pub kind_word : UnitKind → Symbol
kind_word kinds.Function = s.Fn
kind_word kinds.Closure = s.Closure

-- the captures of a closure, in `[` and `]`
abbrev pub bracketed : List RegionName → List Ty → List Token
bracketed regions ts = symbol s.OpenBracket ++ (commas (ty regions) ts ++ symbol s.CloseBracket)

-- the captures of a unit: nothing for a function
abbrev pub captures_of : UnitKind → List RegionName → List Ty → List Token
captures_of kinds.Function regions ts = []
captures_of kinds.Closure regions ts = bracketed regions ts

-- the captures in a header
abbrev pub captures : Header → List Token
captures h = captures_of h.kind h.signature.regions h.captures

-- a header, after its first word
abbrev pub header_rest : Header → List Token
header_rest h = signature_with (captures h) h.signature

-- a whole header
abbrev pub header : Header → List Token
header h = symbol (kind_word h.kind) ++ header_rest h

-- a body, after its header
abbrev pub body : Body → List Token
body u = symbol s.OpenBrace ++ (lets u.header.signature.regions (first_let u.header) u.lets ++ (blocks u.header.signature.regions 0 u.blocks ++ symbol s.CloseBrace))

-- a unit: its header, then its body
abbrev pub unit : Body → List Token
unit u = header u.header ++ body u

-- ---- declarations

-- `+` if covariant, `=` if invariant
abbrev pub variance : Variance → List Token
variance Covariant = symbol s.Plus
variance Invariant = symbol s.Equals

-- a region of a struct, with its variance
abbrev pub mark : Variance × RegionName → List Token
mark m = variance m.0 ++ region_name m.1

-- `drop` if the struct is marked so, otherwise nothing
abbrev pub drop_word : Bool → List Token
drop_word false = []
drop_word true = symbol s.Drop

-- the type of a field and its `;`
abbrev pub field : List RegionName → Ty → List Token
field regions t = ty regions t ++ symbol s.Semicolon

-- the fields of a struct in `{` and `}`
abbrev pub fields : StructDeclaration → List Token
fields d = symbol s.OpenBrace ++ (flat_map (field d.regions) d.fields ++ symbol s.CloseBrace)

-- a struct, after `struct`
abbrev pub struct_rest : StructDeclaration → List Token
struct_rest d = item_name d.name ++ (angled mark (zip d.variances d.regions) ++ (drop_word d.has_drop ++ fields d))

-- an extern function, after `extern`
abbrev pub extern_rest : ExternDeclaration → List Token
extern_rest d = item_name d.name ++ (signature d.signature ++ symbol s.Semicolon)

-- a whole declaration
abbrev pub declaration : Declaration → List Token
declaration (declarations.Struct d) = symbol s.Struct ++ struct_rest d
declaration (declarations.Extern d) = symbol s.Extern ++ extern_rest d

-- declarations, one after the other
abbrev pub types : List Declaration → List Token
types ds = flat_map declaration ds
