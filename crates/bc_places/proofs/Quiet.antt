-- The spellings of headers, types, statements and terminators have no `;` and no `{`.
use Rattle.std.proofs.Common.{◌≡◌, ℕ, Bool, true, List, [], ◌∷◌, ◌++◌, refl}
use Rattle.std.specs.Prelude.{not, ◌||◌}
use Rattle.std.specs.List.{flat_map}
use Rattle.bc_syntax.specs.declared.symbol.Symbol.TheVariants as s
use Rattle.bc_syntax.specs.declared.syntax.Region.{Region}
use Rattle.bc_syntax.specs.declared.syntax.Region.TheVariants.{Universal, Variable}
use Rattle.bc_syntax.specs.declared.syntax.RegionName.{RegionName}
use Rattle.bc_syntax.specs.declared.syntax.Instance.{Instance}
use Rattle.bc_syntax.specs.declared.syntax.Mutability.{Mutability}
use Rattle.bc_syntax.specs.declared.syntax.Mutability.TheVariants.{Shared, Mutable}
use Rattle.bc_syntax.specs.declared.syntax.Reference.{Reference}
use Rattle.bc_syntax.specs.declared.syntax.ClosureInstance.{ClosureInstance}
use Rattle.bc_syntax.specs.declared.syntax.Base.{Base}
use Rattle.bc_syntax.specs.declared.syntax.Base.TheVariants as bases
use Rattle.bc_syntax.specs.declared.syntax.Ty.{Ty}
use Rattle.bc_syntax.specs.declared.syntax.Projection.{Projection}
use Rattle.bc_syntax.specs.declared.syntax.Projection.TheVariants.{Deref, Field}
use Rattle.bc_syntax.specs.declared.syntax.Place.{Place}
use Rattle.bc_syntax.specs.declared.syntax.Operand.{Operand}
use Rattle.bc_syntax.specs.declared.syntax.Operand.TheVariants as operand_kinds
use Rattle.bc_syntax.specs.declared.syntax.Rvalue.{Rvalue}
use Rattle.bc_syntax.specs.declared.syntax.Rvalue.TheVariants as rvalue_kinds
use Rattle.bc_syntax.specs.declared.syntax.Statement.{Statement}
use Rattle.bc_syntax.specs.declared.syntax.Statement.TheVariants as statement_kinds
use Rattle.bc_syntax.specs.declared.syntax.Condition.{Condition}
use Rattle.bc_syntax.specs.declared.syntax.Call.{Call}
use Rattle.bc_syntax.specs.declared.syntax.Invocation.{Invocation}
use Rattle.bc_syntax.specs.declared.syntax.Terminator.{Terminator}
use Rattle.bc_syntax.specs.declared.syntax.Terminator.TheVariants as terminator_kinds
use Rattle.bc_syntax.specs.declared.syntax.Outlives.{Outlives}
use Rattle.bc_syntax.specs.declared.syntax.UnitKind.{UnitKind}
use Rattle.bc_syntax.specs.declared.syntax.UnitKind.TheVariants.{Function, Closure}
use Rattle.bc_syntax.specs.declared.syntax.Header.{Header}
use Rattle.bc_syntax.specs.Symbol.{same}
use Rattle.bc_syntax.specs.Token.{Token}
use Rattle.bc_syntax.specs.Spelling as spell
use Rattle.bc_tokens.specs.Parser.{is_end, same_numbering}
use Rattle.bc_places.specs.Walk.{opens_points, begins_point}

-- no end, no `;` and no `{`
abbrev pub is_quiet : Token → Bool
is_quiet token = not (is_end token || opens_points token)

abbrev pub AllQuiet : List Token → Type 0
AllQuiet [] = Unit {0}
AllQuiet (t ∷ ts) = (is_quiet t ≡ true) × AllQuiet ts

-- quiet tokens, of which the first begins a point
abbrev pub BeginsPoint : List Token → Type 0
BeginsPoint [] = ⊥
BeginsPoint (t ∷ ts) = (begins_point t ≡ true) × AllQuiet (t ∷ ts)

pub joined : (x y : List Token) → AllQuiet x → AllQuiet y → AllQuiet (x ++ y)
joined [] y p q = q
joined (t ∷ x) y p q = (p.0, joined x y p.1 q)

begun : (x y : List Token) → BeginsPoint x → AllQuiet y → BeginsPoint (x ++ y)
begun [] y p q = absurd p
begun (t ∷ x) y p q = (p.0, (p.1.0, joined x y p.1.1 q))

pub all_of : (x : List Token) → BeginsPoint x → AllQuiet x
all_of [] p = absurd p
all_of (t ∷ x) p = p.1

one : (t : Token) → is_quiet t ≡ true → AllQuiet (t ∷ [])
one t p = (p, tt)

module _ {A : Type 0} (item : A → List Token) (law : (x : A) → AllQuiet (item x)) where
  items : (xs : List A) → AllQuiet (flat_map item xs)
  items [] = tt
  items (x ∷ xs) = joined (item x) (flat_map item xs) (law x) (items xs)

module _ {A : Type 0} (item : A → List Token) (law : (x : A) → AllQuiet (item x)) where
  next_items : (xs : List A) → AllQuiet (spell.behind_commas item xs)
  unfolding same
  next_items [] = tt
  next_items (x ∷ xs) = (refl, joined (item x) (spell.behind_commas item xs) (law x) (next_items xs))

  commas : (xs : List A) → AllQuiet (spell.commas item xs)
  commas [] = tt
  commas (x ∷ xs) = joined (item x) (spell.behind_commas item xs) (law x) (next_items xs)

  angled : (xs : List A) → AllQuiet (spell.angled item xs)
  unfolding same
  angled [] = tt
  angled (x ∷ xs) = (refl, joined (spell.commas item (x ∷ xs)) (spell.symbol s.Greater) (commas (x ∷ xs)) (refl, tt))

-- ---- regions and types

module _ (regions : List RegionName) where
  region : (r : Region) → AllQuiet (spell.region regions r)
  region (Universal k) = (refl, tt)
  region (Variable k) = (refl, tt)

  arguments : (rs : List Region) → AllQuiet (spell.angled (spell.region regions) rs)
  arguments rs = angled (spell.region regions) region rs

  instance : (i : Instance) → AllQuiet (spell.instance regions i)
  instance i = (refl, arguments i.regions)

  closure : (c : ClosureInstance) → AllQuiet (spell.closure_instance regions c)
  unfolding same
  closure c = (refl, (refl, arguments c.regions))

  clause : (c : Outlives) → AllQuiet (spell.clause regions c)
  unfolding same
  clause c = (refl, (refl, (refl, tt)))

  clauses : (cs : List Outlives) → AllQuiet (spell.clauses regions cs)
  unfolding same
  clauses [] = tt
  clauses (c ∷ cs) = (refl, commas (spell.clause regions) clause (c ∷ cs))

  mutability : (m : Mutability) → AllQuiet (spell.mutability m)
  unfolding same
  mutability Shared = tt
  mutability Mutable = (refl, tt)

  reference : (r : Reference) → AllQuiet (spell.reference regions r)
  reference r = joined (spell.region regions r.region) (spell.mutability r.mutability) (region r.region) (mutability r.mutability)

  behind : (r : Reference) → AllQuiet (spell.behind regions r)
  unfolding same
  behind r = (refl, reference r)

  base : (b : Base) → AllQuiet (spell.base regions b)
  unfolding same
  base bases.Int = (refl, tt)
  base (bases.Struct i) = instance i
  base (bases.Closure c) = closure c

  pub ty : (t : Ty) → AllQuiet (spell.ty regions t)
  ty t = joined (flat_map (spell.behind regions) t.references) (spell.base regions t.base) (items (spell.behind regions) behind t.references) (base t.base)

  parameters : (ts : List Ty) → AllQuiet (spell.parameters regions ts)
  unfolding same
  parameters ts = (refl, joined (spell.commas (spell.ty regions) ts) (spell.symbol s.CloseParen) (commas (spell.ty regions) ty ts) (refl, tt))

  captures : (kind : UnitKind) (ts : List Ty) → AllQuiet (spell.captures_of kind regions ts)
  unfolding same
  captures Function ts = tt
  captures Closure ts = (refl, joined (spell.commas (spell.ty regions) ts) (spell.symbol s.CloseBracket) (commas (spell.ty regions) ty ts) (refl, tt))

  -- ---- places and operands

  projection : (p : Projection) → AllQuiet (spell.projection p)
  unfolding same
  projection Deref = (refl, tt)
  projection (Field k) = (refl, tt)

  step : (p : Projection) → AllQuiet (spell.step p)
  unfolding same
  step p = (refl, projection p)

  steps : (ps : List Projection) → AllQuiet (flat_map spell.step ps)
  steps ps = items spell.step step ps

  place : (p : Place) → AllQuiet (spell.place p)
  place p = (refl, steps p.projections)

  operand : (o : Operand) → AllQuiet (spell.operand o)
  unfolding same
  operand (operand_kinds.Copy p) = (refl, place p)
  operand (operand_kinds.Move p) = (refl, place p)
  operand (operand_kinds.Number k) = (refl, tt)

  operands : (os : List Operand) → AllQuiet (spell.operands os)
  unfolding same
  operands os = (refl, joined (spell.commas spell.operand os) (spell.symbol s.CloseParen) (commas spell.operand operand os) (refl, tt))

  -- ---- points

  rvalue : (r : Rvalue) → AllQuiet (spell.rvalue regions r)
  unfolding same
  rvalue (rvalue_kinds.Use o) = operand o
  rvalue (rvalue_kinds.Borrow b) = (refl, joined (spell.reference regions b.reference) (spell.place b.place) (reference b.reference) (place b.place))
  rvalue (rvalue_kinds.Aggregate a) = joined (spell.instance regions a.instance) (spell.operands a.operands) (instance a.instance) (operands a.operands)
  rvalue (rvalue_kinds.Closure c) = joined (spell.closure_instance regions c.closure) (spell.operands c.operands) (closure c.closure) (operands c.operands)
  rvalue (rvalue_kinds.Calc os) = (refl, operands os)

  -- a place, and what is assigned to it
  placed : (p : Place) (rest : List Token) → AllQuiet rest → BeginsPoint (spell.place p ++ (spell.symbol s.Equals ++ rest))
  unfolding same same_numbering
  placed p rest quiet = (refl, (refl, joined (flat_map spell.step p.projections) (spell.symbol s.Equals ++ rest) (steps p.projections) (refl, quiet)))

  pub statement : (st : Statement) → BeginsPoint (spell.statement regions st)
  unfolding same same_numbering
  statement (statement_kinds.Assign a) = placed a.target (spell.rvalue regions a.value) (rvalue a.value)
  statement (statement_kinds.Dead l) = (refl, (refl, (refl, tt)))
  statement (statement_kinds.Drop p) = (refl, (refl, place p))
  statement statement_kinds.Nop = (refl, (refl, tt))

  label : (k : ℕ) → AllQuiet (spell.label k)
  label k = (refl, tt)

  condition : (c : Condition) → AllQuiet (spell.condition c)
  condition c = joined (spell.operand c.operand) (spell.label c.then ++ spell.label c.otherwise) (operand c.operand) (refl, (refl, tt))

  called : (c : Call) → AllQuiet (spell.called regions c)
  called c = joined (spell.instance regions c.function) (spell.operands c.operands ++ spell.label c.target) (instance c.function) (joined (spell.operands c.operands) (spell.label c.target) (operands c.operands) (label c.target))

  invoked : (i : Invocation) → AllQuiet (spell.invoked regions i)
  invoked i =
      let rest = spell.operands i.operands ++ spell.label i.target in
      joined (spell.place i.closure) (spell.angled (spell.region regions) i.regions ++ rest) (place i.closure)
      (joined (spell.angled (spell.region regions) i.regions) rest (arguments i.regions) (joined (spell.operands i.operands) (spell.label i.target) (operands i.operands) (label i.target)))

  pub terminator : (t : Terminator) → BeginsPoint (spell.terminator regions t)
  unfolding same same_numbering
  terminator (terminator_kinds.Goto k) = (refl, (refl, label k))
  terminator (terminator_kinds.If c) = (refl, (refl, condition c))
  terminator (terminator_kinds.Call c) = placed c.destination (spell.symbol s.Call ++ spell.called regions c) (refl, called c)
  terminator (terminator_kinds.Invoke i) = placed i.destination (spell.symbol s.Invoke ++ spell.invoked regions i) (refl, invoked i)
  terminator terminator_kinds.Return = (refl, (refl, tt))
  terminator terminator_kinds.Stop = (refl, (refl, tt))

-- ---- headers

region_name : (name : RegionName) → AllQuiet (spell.region_name name)
region_name name = (refl, tt)

header_rest : (h : Header) → AllQuiet (spell.header_rest h)
unfolding same
header_rest h =
    let f = h.signature in
    let rs = h.signature.regions in
    let arrow = spell.symbol s.Arrow ++ spell.ty rs f.result in
    let takes = spell.parameters rs f.parameters ++ arrow in
    joined (spell.angled spell.region_name rs) (spell.clauses rs f.clauses ++ (spell.captures h ++ takes)) (angled spell.region_name region_name rs)
    (joined (spell.clauses rs f.clauses) (spell.captures h ++ takes) (clauses rs f.clauses)
    (joined (spell.captures h) takes (captures rs h.kind h.captures) (joined (spell.parameters rs f.parameters) arrow (parameters rs f.parameters) (refl, ty rs f.result))))

kind_word : (kind : UnitKind) → AllQuiet (spell.symbol (spell.kind_word kind))
unfolding same
kind_word Function = (refl, tt)
kind_word Closure = (refl, tt)

pub header : (h : Header) → AllQuiet (spell.header h)
header h = joined (spell.symbol (spell.kind_word h.kind)) (spell.header_rest h) (kind_word h.kind) (header_rest h)
