-- Reading of units and declarations from left to right: a parser for each production of the grammar.
use Rattle.std.specs.Prelude.{◌≡◌, ◌≢◌, ℕ, zero, suc, ◌+◌, ◌-◌, Bool, true, false, ◌||◌, ◌&&◌, if◌then◌else◌, ◌==◌, nat_lt, List, [], ◌∷◌, ◌++◌, length, map, Option, Some, None, Result, Ok, Err}
use Rattle.std.specs.List.{filter, zip}
use Rattle.bc_text.specs.declared.fault.ReadFault.{ReadFault}
use Rattle.bc_text.specs.declared.fault.ReadFault.TheVariants.{TooLong, NoMemory}
use Rattle.bc_text.specs.Fault.{read_fault}
use Rattle.bc_text.specs.declared.points.Point.{Point}
use Rattle.bc_text.specs.declared.points.Point.TheVariants as point_kinds
use Rattle.bc_syntax.specs.declared.symbol.Symbol.TheVariants as s
use Rattle.bc_syntax.specs.declared.numbering.Numbering.TheVariants as n
use Rattle.bc_syntax.specs.declared.syntax.Region.{Region}
use Rattle.bc_syntax.specs.declared.syntax.Region.TheVariants.{Universal, Variable}
use Rattle.bc_syntax.specs.declared.syntax.RegionName.{RegionName}
use Rattle.bc_syntax.specs.declared.syntax.ItemName.{ItemName}
use Rattle.bc_syntax.specs.declared.syntax.Instance.{Instance}
use Rattle.bc_syntax.specs.declared.syntax.Mutability.{Mutability}
use Rattle.bc_syntax.specs.declared.syntax.Mutability.TheVariants.{Shared, Mutable}
use Rattle.bc_syntax.specs.declared.syntax.Reference.{Reference}
use Rattle.bc_syntax.specs.declared.syntax.ClosureInstance.{ClosureInstance}
use Rattle.bc_syntax.specs.declared.syntax.Base.{Base}
use Rattle.bc_syntax.specs.declared.syntax.Base.TheVariants as bases
use Rattle.bc_syntax.specs.declared.syntax.Ty.{Ty}
use Rattle.bc_syntax.specs.declared.syntax.Projection.{Projection}
use Rattle.bc_syntax.specs.declared.syntax.Projection.TheVariants.{Deref, Field}
use Rattle.bc_syntax.specs.declared.syntax.Place.{Place}
use Rattle.bc_syntax.specs.declared.syntax.Operand.{Operand}
use Rattle.bc_syntax.specs.declared.syntax.Operand.TheVariants as operand_kinds
use Rattle.bc_syntax.specs.declared.syntax.Borrow.{Borrow}
use Rattle.bc_syntax.specs.declared.syntax.Aggregate.{Aggregate}
use Rattle.bc_syntax.specs.declared.syntax.Creation.{Creation}
use Rattle.bc_syntax.specs.declared.syntax.Rvalue.{Rvalue}
use Rattle.bc_syntax.specs.declared.syntax.Rvalue.TheVariants as rvalue_kinds
use Rattle.bc_syntax.specs.declared.syntax.Statement.{Statement}
use Rattle.bc_syntax.specs.declared.syntax.Statement.TheVariants as statement_kinds
use Rattle.bc_syntax.specs.declared.syntax.Condition.{Condition}
use Rattle.bc_syntax.specs.declared.syntax.Call.{Call}
use Rattle.bc_syntax.specs.declared.syntax.Invocation.{Invocation}
use Rattle.bc_syntax.specs.declared.syntax.Terminator.{Terminator}
use Rattle.bc_syntax.specs.declared.syntax.Terminator.TheVariants.{Goto, If, Return, Stop}
use Rattle.bc_syntax.specs.declared.syntax.Terminator.TheVariants as terminator_kinds
use Rattle.bc_syntax.specs.declared.syntax.Block.{Block}
use Rattle.bc_syntax.specs.declared.syntax.Outlives.{Outlives}
use Rattle.bc_syntax.specs.declared.syntax.UnitKind.TheVariants.{Function, Closure}
use Rattle.bc_syntax.specs.declared.syntax.Signature.{Signature}
use Rattle.bc_syntax.specs.declared.syntax.Header.{Header}
use Rattle.bc_syntax.specs.declared.syntax.Body.{Body}
use Rattle.bc_syntax.specs.declared.symbol.Symbol.{Symbol}
use Rattle.bc_syntax.specs.declared.syntax.Variance.{Variance}
use Rattle.bc_syntax.specs.declared.syntax.Variance.TheVariants.{Covariant, Invariant}
use Rattle.bc_syntax.specs.declared.syntax.StructDeclaration.{StructDeclaration}
use Rattle.bc_syntax.specs.declared.syntax.ExternDeclaration.{ExternDeclaration}
use Rattle.bc_syntax.specs.declared.syntax.Declaration.{Declaration}
use Rattle.bc_syntax.specs.declared.syntax.Declaration.TheVariants as declarations
use Rattle.bc_syntax.specs.Locals.{first_let}
use Rattle.bc_syntax.specs.Fits.{is_new, is_struct}
use Rattle.bc_syntax.specs.Words.{is_word}
use Rattle.bc_tokens.specs.Token.{Tokens, tokens}
use Rattle.bc_text.specs.Universals.{number_of}
use Rattle.bc_tokens.specs.declared.refusal.Refusal.{Refusal}
use Rattle.bc_text.specs.declared.declarations.Marks.{Marks as InMemory}
use Rattle.bc_tokens.specs.Parser.{Outcome, Parser, ReadsAs, ◌>>=◌, ◌>>◌, ◌<$>◌, pure, refuse, past_limit, here, fail, eat, expect, sees, sees_numbered, sees_word, sees_region, numbered, region_name, word, closed_list, opened_list, angled_list, declared_list, at_end}

-- ---- regions and names

-- the number, or a fault at the given place
abbrev pub declared_as : ℕ → Option ℕ → Parser ℕ
declared_as at (Some number) = pure number
declared_as at None = fail at

-- `'static`, or a declared region
unfoldable pub universal : List RegionName → Parser ℕ
universal regions = do
  at ← here
  name ← region_name
  declared_as at (number_of regions name)

-- a universal region or, if `variables` is set, a variable
unfoldable pub region : Bool → List RegionName → Parser Region
region variables regions = λ ts. if variables && sees_numbered n.Variable ts then (Variable <$> numbered n.Variable 1023) ts else (Universal <$> universal regions) ts

-- a region may begin here
abbrev pub begins_region : Bool → Tokens → Bool
begins_region variables ts = sees_region ts || (variables && sees_numbered n.Variable ts)

-- a region that is declared here: not `'static`, and none of those before
unfoldable pub new_region : List RegionName → Parser RegionName
new_region before = do
  at ← here
  name ← region_name
  if is_new before (record { bytes = name }) then pure (record { bytes = name }) else fail at

-- the name of a struct or of an extern function
unfoldable pub item_name : Parser ItemName
item_name = do
  at ← here
  name ← word
  if is_word name then pure (record { bytes = name }) else fail at

-- the name of a struct or of an extern function, with its region arguments
unfoldable pub instance : Bool → List RegionName → Parser Instance
instance variables regions = do
  name ← item_name
  regions ← angled_list (begins_region variables) (region variables regions) 15
  pure (record { name = name; regions = regions })

-- the number and the region arguments of a closure, after `closure`
unfoldable pub closure_instance : List RegionName → Parser ClosureInstance
closure_instance regions = do
  number ← numbered n.Number 63
  regions ← angled_list (begins_region true) (region true regions) 15
  pure (record { number = number; regions = regions })

-- ---- types

-- `mut`, or nothing for shared
unfoldable pub mutability : Parser Mutability
mutability = do
  found ← eat s.Mut
  if found then pure Mutable else pure Shared

-- a reference after its `&`: a region, and `mut` or nothing
unfoldable pub reference : Bool → List RegionName → Parser Reference
reference variables regions = do
  r ← region variables regions
  m ← mutability
  pure (record { region = r; mutability = m })

-- a type may begin here
abbrev pub begins_ty : Tokens → Bool
begins_ty ts = sees s.Ampersand ts || sees s.Int ts || sees_word ts

-- `int`, or a struct
unfoldable pub base : Bool → List RegionName → Parser Base
base variables regions = do
  whole ← eat s.Int
  if whole then pure bases.Int else (bases.Struct <$> instance variables regions)

-- the type with these references and this base
abbrev pub behind : List Reference → Base → Ty
behind found b = record { references = found; base = b }

-- a reference and the rest of a type, or the base
unfoldable pub ty_turn : Bool → List RegionName → (List Reference → Parser Ty) → List Reference → Parser Ty
ty_turn variables regions again found = do
  more ← eat s.Ampersand
  if more then (reference variables regions >>= λ r. again (found ++ r ∷ [])) else (behind found <$> base variables regions)

-- the rest of a type after some references, of at most the given number of tokens `&`, `int` and names
unfoldable pub ty_from : Bool → List RegionName → ℕ → List Reference → Parser Ty
ty_from variables regions zero found = λ ts. if begins_ty ts then past_limit ts else refuse ts
ty_from variables regions (suc room) found = ty_turn variables regions (ty_from variables regions room) found

-- a type of at most 8 tokens `&`, `int` and names
unfoldable pub ty : Bool → List RegionName → Parser Ty
ty variables regions = ty_from variables regions 8 []

-- the type of a `let` local: a closure, or any other type
unfoldable pub let_type : List RegionName → Parser Ty
let_type regions = do
  closes ← eat s.Closure
  if closes then ((λ c. behind [] (bases.Closure c)) <$> closure_instance regions) else ty true regions

-- ---- places and operands

-- a declared local
unfoldable pub local : ℕ → Parser ℕ
local locals = do
  at ← here
  l ← numbered n.Local 255
  if nat_lt l locals then pure l else fail at

-- `*`, or the number of a field
unfoldable pub projection : Parser Projection
projection = do
  star ← eat s.Star
  if star then pure Deref else (Field <$> numbered n.Number 15)

-- a projection and the rest, or no more
unfoldable pub projections_turn : (List Projection → Parser (List Projection)) → List Projection → Parser (List Projection)
projections_turn again found = do
  more ← eat s.Dot
  if more then (projection >>= λ p. again (found ++ p ∷ [])) else pure found

-- more projections, at most the given number
unfoldable pub projections_from : ℕ → List Projection → Parser (List Projection)
projections_from zero found = λ ts. if sees s.Dot ts then past_limit ts else pure found ts
projections_from (suc room) found = projections_turn (projections_from room) found

-- a local and its projections
unfoldable pub place : ℕ → Parser Place
place locals = do
  l ← local locals
  ps ← projections_from 8 []
  pure (record { local = l; projections = ps })

-- `move` and a place, or a number
unfoldable pub moved : ℕ → Parser Operand
moved locals = do
  moves ← eat s.Move
  if moves then (operand_kinds.Move <$> place locals) else (operand_kinds.Number <$> numbered n.Number 4294967295)

-- `copy` or `move` and a place, or a number
unfoldable pub operand : ℕ → Parser Operand
operand locals = do
  copies ← eat s.Copy
  if copies then (operand_kinds.Copy <$> place locals) else moved locals

-- an operand may begin here
abbrev pub begins_operand : Tokens → Bool
begins_operand ts = sees s.Copy ts || sees s.Move ts || sees_numbered n.Number ts

-- operands, in parentheses
unfoldable pub operands : ℕ → Parser (List Operand)
operands locals = expect s.OpenParen >> closed_list begins_operand (operand locals) 16 s.CloseParen

-- ---- statements

-- a borrow after its `&`
unfoldable pub borrow : List RegionName → ℕ → Parser Borrow
borrow regions locals = do
  r ← reference true regions
  p ← place locals
  pure (record { reference = r; place = p })

-- the creation of a struct
unfoldable pub aggregate : List RegionName → ℕ → Parser Aggregate
aggregate regions locals = do
  i ← instance true regions
  os ← operands locals
  pure (record { instance = i; operands = os })

-- the creation of a closure, after `closure`
unfoldable pub creation : List RegionName → ℕ → Parser Creation
creation regions locals = do
  c ← closure_instance regions
  os ← operands locals
  pure (record { closure = c; operands = os })

-- the creation of a closure, as a value
abbrev pub closure_value : List RegionName → ℕ → Parser Rvalue
closure_value regions locals = rvalue_kinds.Closure <$> creation regions locals

-- the creation of a closure, or an operand
unfoldable pub captured : List RegionName → ℕ → Parser Rvalue
captured regions locals = do
  closes ← eat s.Closure
  if closes then closure_value regions locals else (rvalue_kinds.Use <$> operand locals)

-- the creation of a struct, as a value
abbrev pub aggregate_value : List RegionName → ℕ → Parser Rvalue
aggregate_value regions locals = rvalue_kinds.Aggregate <$> aggregate regions locals

-- the creation of a struct or of a closure, or an operand
unfoldable pub created : List RegionName → ℕ → Parser Rvalue
created regions locals = λ ts. if sees_word ts then aggregate_value regions locals ts else captured regions locals ts

-- the operands of `calc`, as a value
abbrev pub calc_value : ℕ → Parser Rvalue
calc_value locals = rvalue_kinds.Calc <$> operands locals

-- `calc`, the creation of a struct or of a closure, or an operand
unfoldable pub computed : List RegionName → ℕ → Parser Rvalue
computed regions locals = do
  calculates ← eat s.Calc
  if calculates then calc_value locals else created regions locals

-- the value of an assignment
unfoldable pub rvalue : List RegionName → ℕ → Parser Rvalue
rvalue regions locals = do
  borrows ← eat s.Ampersand
  if borrows then (rvalue_kinds.Borrow <$> borrow regions locals) else computed regions locals

-- a label
unfoldable pub label : Parser ℕ
label = numbered n.Label 255

-- the rest of a `call`: function, operands and label
unfoldable pub called : List RegionName → ℕ → Place → Parser Call
called regions locals destination = do
  i ← instance true regions
  os ← operands locals
  l ← label
  pure (record { destination = destination; function = i; operands = os; target = l })

-- the rest of an `invoke`: closure, regions, operands and label
unfoldable pub invoked : List RegionName → ℕ → Place → Parser Invocation
invoked regions locals destination = do
  p ← place locals
  rs ← angled_list (begins_region true) (region true regions) 15
  os ← operands locals
  l ← label
  pure (record { destination = destination; closure = p; regions = rs; operands = os; target = l })

-- the assignment of a value to a place
abbrev pub assigned : Place → Rvalue → Point
assigned p v = point_kinds.Statement (statement_kinds.Assign (record { target = p; value = v }))

-- a terminator, as a point
abbrev pub ending : Terminator → Point
ending t = point_kinds.Terminator t

-- an `invoke`, as a point
abbrev pub closure_called : List RegionName → ℕ → Place → Parser Point
closure_called regions locals p = (λ i. ending (terminator_kinds.Invoke i)) <$> invoked regions locals p

-- what follows `P =` and is no `call`
unfoldable pub invoking : List RegionName → ℕ → Place → Parser Point
invoking regions locals p = do
  invokes ← eat s.Invoke
  if invokes then closure_called regions locals p else (assigned p <$> rvalue regions locals)

-- a `call`, as a point
abbrev pub function_called : List RegionName → ℕ → Place → Parser Point
function_called regions locals p = (λ c. ending (terminator_kinds.Call c)) <$> called regions locals p

-- what follows `P =`
unfoldable pub value_of : List RegionName → ℕ → Place → Parser Point
value_of regions locals p = do
  calls ← eat s.Call
  if calls then function_called regions locals p else invoking regions locals p

-- a point that begins with a place
unfoldable pub assignment : List RegionName → ℕ → Parser Point
assignment regions locals = do
  p ← place locals
  expect s.Equals
  value_of regions locals p

-- `nop`, or a point that begins with a place
unfoldable pub active : List RegionName → ℕ → Parser Point
active regions locals = do
  idles ← eat s.Nop
  if idles then pure (point_kinds.Statement statement_kinds.Nop) else assignment regions locals

-- `drop`, `nop`, or a point that begins with a place
unfoldable pub dropping : List RegionName → ℕ → Parser Point
dropping regions locals = do
  drops ← eat s.Drop
  if drops then ((λ p. point_kinds.Statement (statement_kinds.Drop p)) <$> place locals) else active regions locals

-- a point that does not begin with `return`, `stop`, `goto` or `if`
unfoldable pub statement : List RegionName → ℕ → Parser Point
statement regions locals = do
  dies ← eat s.Dead
  if dies then ((λ l. point_kinds.Statement (statement_kinds.Dead l)) <$> local locals) else dropping regions locals

-- the rest of an `if`: an operand and two labels
unfoldable pub condition : ℕ → Parser Condition
condition locals = do
  o ← operand locals
  yes_label ← label
  no_label ← label
  pure (record { operand = o; then = yes_label; otherwise = no_label })

-- a point that does not begin with `return`, `stop` or `goto`
unfoldable pub branching : List RegionName → ℕ → Parser Point
branching regions locals = do
  branches ← eat s.If
  if branches then ((λ c. ending (If c)) <$> condition locals) else statement regions locals

-- a point that does not begin with `return` or `stop`
unfoldable pub going : List RegionName → ℕ → Parser Point
going regions locals = do
  goes ← eat s.Goto
  if goes then ((λ l. ending (Goto l)) <$> label) else branching regions locals

-- a point that does not begin with `return`
unfoldable pub stopping : List RegionName → ℕ → Parser Point
stopping regions locals = do
  stops ← eat s.Stop
  if stops then pure (ending Stop) else going regions locals

-- a statement or a terminator
unfoldable pub point : List RegionName → ℕ → Parser Point
point regions locals = do
  returns ← eat s.Return
  if returns then pure (ending Return) else stopping regions locals

-- a point may begin here
abbrev pub begins_point : Tokens → Bool
begins_point ts = sees s.Return ts || sees s.Stop ts || sees s.Goto ts || sees s.If ts || sees s.Dead ts || sees s.Drop ts || sees s.Nop ts || sees_numbered n.Local ts

-- ---- blocks

-- a terminator ends the block; a statement and its `;` do not
abbrev pub goes_on : List Statement → (List Statement → Parser Block) → Point → Parser Block
goes_on found again (point_kinds.Terminator t) = pure (record { statements = found; terminator = t })
goes_on found again (point_kinds.Statement st) = expect s.Semicolon >> again (found ++ st ∷ [])

-- a point and the rest of its block
unfoldable pub block_turn : List RegionName → ℕ → (List Statement → Parser Block) → List Statement → Parser Block
block_turn regions locals again found = point regions locals >>= λ p. goes_on found again p

-- the rest of a block after some statements, of at most the given number of points
unfoldable pub block_from : List RegionName → ℕ → ℕ → List Statement → Parser Block
block_from regions locals zero found = λ ts. if begins_point ts then past_limit ts else refuse ts
block_from regions locals (suc room) found = block_turn regions locals (block_from regions locals room) found

-- a block in braces, after its label
unfoldable pub braced : List RegionName → ℕ → ℕ → Parser Block
braced regions locals left = do
  expect s.OpenBrace
  b ← block_from regions locals left []
  expect s.Semicolon
  expect s.CloseBrace
  pure b

-- the block with the given number, of at most `left` points
unfoldable pub block : List RegionName → ℕ → ℕ → ℕ → Parser Block
block regions locals number left = do
  at ← here
  l ← label
  if l == number then braced regions locals left else fail at

-- how many points are left after a block
abbrev pub left_behind : ℕ → Block → ℕ
left_behind left b = left - (length b.statements + 1)

-- a block and the rest
unfoldable pub blocks_turn : List RegionName → ℕ → (ℕ → List Block → Parser (List Block)) → ℕ → List Block → Parser (List Block)
blocks_turn regions locals again left found = block regions locals (length found) left >>= λ b. again (left_behind left b) (found ++ b ∷ [])

-- more blocks, while `left` points are left; the limit of a label bounds their number
unfoldable pub blocks_from : List RegionName → ℕ → ℕ → ℕ → List Block → Parser (List Block)
blocks_from regions locals zero left found = refuse
blocks_from regions locals (suc room) left found = λ ts. if sees_numbered n.Label ts then blocks_turn regions locals (blocks_from regions locals room) left found ts else pure found ts

-- at least one block, with at most 4,096 points in all
unfoldable pub blocks : List RegionName → ℕ → Parser (List Block)
blocks regions locals = blocks_turn regions locals (blocks_from regions locals 256) 4096 []

-- ---- headers

-- a clause between universal regions
unfoldable pub clause : List RegionName → Parser Outlives
clause regions = do
  longer ← universal regions
  expect s.Colon
  shorter ← universal regions
  pure (record { longer = longer; shorter = shorter })

-- `where` and clauses, or nothing
unfoldable pub clauses : List RegionName → Parser (List Outlives)
clauses regions = opened_list sees_region (clause regions) 32 s.Where

-- the types of parameters, in parentheses
unfoldable pub parameters : List RegionName → Parser (List Ty)
parameters regions = expect s.OpenParen >> closed_list begins_ty (ty false regions) 16 s.CloseParen

-- parameters and result, as a signature with these regions and clauses
unfoldable pub function_ty : List RegionName → List Outlives → Parser Signature
function_ty regions cs = do
  ps ← parameters regions
  expect s.Arrow
  r ← ty false regions
  pure (record { regions = regions; clauses = cs; parameters = ps; result = r })

-- the rest of a signature, after its regions
unfoldable pub behind_regions : List RegionName → Parser Signature
behind_regions regions = clauses regions >>= function_ty regions

-- a signature that declares at most the given number of regions
unfoldable pub signature : ℕ → Parser Signature
signature limit = declared_list sees_region new_region limit >>= behind_regions

-- a function's header after `fn`: it has no captures
unfoldable pub function_header : Parser Header
function_header = (λ f. record { kind = Function; captures = []; signature = f }) <$> signature 15

-- the types of captures, in brackets
unfoldable pub captures : List RegionName → Parser (List Ty)
captures regions = expect s.OpenBracket >> closed_list begins_ty (ty false regions) 16 s.CloseBracket

-- the rest of a closure's header, after its regions
unfoldable pub closure_behind : List RegionName → Parser Header
closure_behind regions = do
  cs ← clauses regions
  ts ← captures regions
  f ← function_ty regions cs
  pure (record { kind = Closure; captures = ts; signature = f })

-- a closure's header after `closure`
unfoldable pub closure_header : Parser Header
closure_header = declared_list sees_region new_region 15 >>= closure_behind

-- the header of a unit
unfoldable pub header : Parser Header
header = do
  functions ← eat s.Fn
  if functions then function_header else (expect s.Closure >> closure_header)

-- ---- units

-- the type in the declaration of a local
unfoldable pub declared_ty : List RegionName → Parser Ty
declared_ty regions = do
  expect s.Colon
  t ← let_type regions
  expect s.Semicolon
  pure t

-- the declaration of the local with the given number, after `let`: its type
unfoldable pub let_ty : List RegionName → ℕ → Parser Ty
let_ty regions number = do
  at ← here
  l ← numbered n.Local 255
  if l == number then declared_ty regions else fail at

-- a `let` local and the rest, or no more
unfoldable pub lets_turn : List RegionName → ℕ → (List Ty → Parser (List Ty)) → List Ty → Parser (List Ty)
lets_turn regions number again found = do
  more ← eat s.Let
  if more then (let_ty regions (number + length found) >>= λ t. again (found ++ t ∷ [])) else pure found

-- the types of more `let` locals, the first of which has the given number; the limit of a local bounds how many there are
unfoldable pub lets_from : List RegionName → ℕ → ℕ → List Ty → Parser (List Ty)
lets_from regions number zero found = refuse
lets_from regions number (suc room) found = lets_turn regions number (lets_from regions number room) found

-- the body after a header, and the end
unfoldable pub body_of : Header → Parser Body
body_of h = do
  expect s.OpenBrace
  ls ← lets_from h.signature.regions (first_let h) 256 []
  bs ← blocks h.signature.regions (first_let h + length ls)
  expect s.CloseBrace
  at_end
  pure (record { header = h; lets = ls; blocks = bs })

-- a unit, up to the end of the text
unfoldable pub unit : Parser Body
unit = header >>= body_of

-- ---- declarations

-- `+` or `=`
unfoldable pub variance : Parser Variance
variance = do
  covariant ← eat s.Plus
  if covariant then pure Covariant else (expect s.Equals >> pure Invariant)

-- a mark may begin here
abbrev pub begins_mark : Tokens → Bool
begins_mark ts = sees s.Plus ts || sees s.Equals ts

-- the variances and regions of a struct
abbrev pub Marks : Type 0
Marks = List (Variance × RegionName)

-- the variances of marks
abbrev pub variances_of : Marks → List Variance
variances_of marks = map (λ (m : Variance × RegionName). m.0) marks

-- the regions of marks
abbrev pub regions_of : Marks → List RegionName
regions_of marks = map (λ (m : Variance × RegionName). m.1) marks

-- a mark: a variance, and a region that no earlier mark declares
unfoldable pub mark : Marks → Parser (Variance × RegionName)
mark before = do
  v ← variance
  r ← new_region (regions_of before)
  pure (v, r)

-- a field and the rest
unfoldable pub fields_turn : List RegionName → (List Ty → Parser (List Ty)) → List Ty → Parser (List Ty)
fields_turn regions again found = do
  t ← ty false regions
  expect s.Semicolon
  again (found ++ t ∷ [])

-- the types of more fields, at most the given number
unfoldable pub fields_from : List RegionName → ℕ → List Ty → Parser (List Ty)
fields_from regions zero found = λ ts. if begins_ty ts then past_limit ts else pure found ts
fields_from regions (suc room) found = λ ts. if begins_ty ts then fields_turn regions (fields_from regions room) found ts else pure found ts

-- the types of fields, in braces
unfoldable pub fields : List RegionName → Parser (List Ty)
fields regions = do
  expect s.OpenBrace
  ts ← fields_from regions 16 []
  expect s.CloseBrace
  pure ts

-- a struct after its name and marks
unfoldable pub struct_of : ItemName → Marks → Parser StructDeclaration
struct_of name marks = do
  drops ← eat s.Drop
  fs ← fields (regions_of marks)
  pure (record { name = name; regions = regions_of marks; variances = variances_of marks; has_drop = drops; fields = fs })

-- a struct after `struct`
unfoldable pub struct_declaration : Parser StructDeclaration
struct_declaration = do
  name ← item_name
  marks ← declared_list begins_mark mark 8
  struct_of name marks

-- an extern function after `extern`
unfoldable pub extern_declaration : Parser ExternDeclaration
extern_declaration = do
  name ← item_name
  f ← signature 8
  expect s.Semicolon
  pure (record { name = name; signature = f })

-- a declaration that begins with the given word, if fewer than 64 of its kind come before it
abbrev pub counted : {A : Type 0} → ℕ → Symbol → Parser A → Parser A
counted before word rest = λ ts. if nat_lt before 64 then (expect word >> rest) ts else past_limit ts

-- how many structs are among declarations
abbrev pub structs_in : List Declaration → ℕ
structs_in found = length (filter is_struct found)

-- a declaration, after these
unfoldable pub declaration : List Declaration → Parser Declaration
declaration found = λ ts.
    if sees s.Struct ts then counted (structs_in found) s.Struct (declarations.Struct <$> struct_declaration) ts
    else counted (length found - structs_in found) s.Extern (declarations.Extern <$> extern_declaration) ts

-- a declaration may begin here
abbrev pub begins_declaration : Tokens → Bool
begins_declaration ts = sees s.Struct ts || sees s.Extern ts

-- a declaration and the rest
unfoldable pub declarations_turn : (List Declaration → Parser (List Declaration)) → List Declaration → Parser (List Declaration)
declarations_turn again found = declaration found >>= λ d. again (found ++ d ∷ [])

-- more declarations; the limits of both kinds bound their number
unfoldable pub declarations_from : ℕ → List Declaration → Parser (List Declaration)
declarations_from zero found = refuse
declarations_from (suc room) found = λ ts. if begins_declaration ts then declarations_turn (declarations_from room) found ts else pure found ts

-- declarations, up to the end of the text
unfoldable pub types : Parser (List Declaration)
types = do
  ds ← declarations_from 129 []
  at_end
  pure ds

-- ---- texts

-- the value or the fault that a parser gives
abbrev pub answer_of : {A : Type 0} → Outcome A → Result A ReadFault
answer_of (Ok p) = Ok p.0
answer_of (Err e) = Err (read_fault e)

-- the answer for a whole text: `TooLong` above 1,048,576 bytes, otherwise what the parser says
unfoldable pub read_whole : {A : Type 0} → Parser A → List ℕ → Result A ReadFault
read_whole parser bytes = if nat_lt 1048576 (length bytes) then Err TooLong else answer_of (parser (tokens 0 0 bytes))

-- the unit that a text spells, or the first fault
unfoldable pub read : List ℕ → Result Body ReadFault
read = read_whole unit

-- the declarations that a text spells, or the first fault
unfoldable pub read_types : List ℕ → Result (List Declaration) ReadFault
read_types = read_whole types

-- what a function returned is the answer, unless out of memory
abbrev pub Answers : {A : Type 0} → Result A ReadFault → Result A ReadFault → Type 0
Answers (Ok a) answer = answer ≡ Ok a
Answers (Err e) answer = e ≢ NoMemory → answer ≡ Err e

-- what a function returned, with variances and regions zipped, is what the parser gives, unless out of memory
abbrev pub ReadsMarks : Outcome Marks → Result InMemory Refusal → Tokens → Type 0
ReadsMarks outcome result later = ReadsAs (λ (m : InMemory). zip m.variances m.regions) outcome result later
