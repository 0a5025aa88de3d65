-- The spelling of a unit that fits has only tokens that texts have.
use Rattle.std.proofs.Common.{◌≡◌, ℕ, zero, suc, ◌+◌, ◌^◌, ◌<◌, ◌≤◌, Bool, true, false, ◌&&◌, List, [], ◌∷◌, ◌++◌, length, map, refl, inl, inr, arith}
use Rattle.std.specs.Prelude.{codes, get_or, not, ◌==◌, nat_le, nat_lt}
use Rattle.std.specs.Str.{bytes_eq}
use Rattle.std.specs.List.{flat_map, list_all, list_any, zip}
use Rattle.std.proofs.lemmas.Bool.{cases_Bool, and_parts, and_from, leb-true, ltb-true}
use Rattle.std.proofs.lemmas.List.{length-append}
use Rattle.bc_syntax.specs.declared.symbol.Symbol.TheVariants as s
use Rattle.bc_syntax.specs.declared.syntax.Region.{Region}
use Rattle.bc_syntax.specs.declared.syntax.Region.TheVariants.{Universal, Variable}
use Rattle.bc_syntax.specs.declared.syntax.RegionName.{RegionName}
use Rattle.bc_syntax.specs.declared.syntax.ItemName.{ItemName}
use Rattle.bc_syntax.specs.declared.syntax.Instance.{Instance}
use Rattle.bc_syntax.specs.declared.syntax.Mutability.{Mutability}
use Rattle.bc_syntax.specs.declared.syntax.Mutability.TheVariants.{Shared, Mutable}
use Rattle.bc_syntax.specs.declared.syntax.Reference.{Reference}
use Rattle.bc_syntax.specs.declared.syntax.ClosureInstance.{ClosureInstance}
use Rattle.bc_syntax.specs.declared.syntax.Base.{Base}
use Rattle.bc_syntax.specs.declared.syntax.Base.TheVariants as bases
use Rattle.bc_syntax.specs.declared.syntax.Ty.{Ty}
use Rattle.bc_syntax.specs.declared.syntax.Projection.{Projection}
use Rattle.bc_syntax.specs.declared.syntax.Projection.TheVariants.{Deref, Field}
use Rattle.bc_syntax.specs.declared.syntax.Place.{Place}
use Rattle.bc_syntax.specs.declared.syntax.Operand.{Operand}
use Rattle.bc_syntax.specs.declared.syntax.Operand.TheVariants as operand_kinds
use Rattle.bc_syntax.specs.declared.syntax.Borrow.{Borrow}
use Rattle.bc_syntax.specs.declared.syntax.Aggregate.{Aggregate}
use Rattle.bc_syntax.specs.declared.syntax.Creation.{Creation}
use Rattle.bc_syntax.specs.declared.syntax.Rvalue.{Rvalue}
use Rattle.bc_syntax.specs.declared.syntax.Rvalue.TheVariants as rvalue_kinds
use Rattle.bc_syntax.specs.declared.syntax.Assignment.{Assignment}
use Rattle.bc_syntax.specs.declared.syntax.Statement.{Statement}
use Rattle.bc_syntax.specs.declared.syntax.Statement.TheVariants as statement_kinds
use Rattle.bc_syntax.specs.declared.syntax.Condition.{Condition}
use Rattle.bc_syntax.specs.declared.syntax.Call.{Call}
use Rattle.bc_syntax.specs.declared.syntax.Invocation.{Invocation}
use Rattle.bc_syntax.specs.declared.syntax.Terminator.{Terminator}
use Rattle.bc_syntax.specs.declared.syntax.Terminator.TheVariants as terminator_kinds
use Rattle.bc_syntax.specs.declared.syntax.Block.{Block}
use Rattle.bc_syntax.specs.declared.syntax.Outlives.{Outlives}
use Rattle.bc_syntax.specs.declared.syntax.UnitKind.{UnitKind}
use Rattle.bc_syntax.specs.declared.syntax.UnitKind.TheVariants.{Function, Closure}
use Rattle.bc_syntax.specs.declared.syntax.Signature.{Signature}
use Rattle.bc_syntax.specs.declared.syntax.Header.{Header}
use Rattle.bc_syntax.specs.declared.syntax.Body.{Body}
use Rattle.bc_syntax.specs.Fits as fit
use Rattle.bc_syntax.specs.declared.syntax.Variance.{Variance}
use Rattle.bc_syntax.specs.declared.syntax.Variance.TheVariants.{Covariant, Invariant}
use Rattle.bc_syntax.specs.declared.syntax.StructDeclaration.{StructDeclaration}
use Rattle.bc_syntax.specs.declared.syntax.ExternDeclaration.{ExternDeclaration}
use Rattle.bc_syntax.specs.declared.syntax.Declaration.{Declaration}
use Rattle.bc_syntax.specs.declared.syntax.Declaration.TheVariants as declarations
use Rattle.bc_syntax.specs.Fits.{Fits, TypesFit}
use Rattle.bc_syntax.specs.Locals.{declared_locals, first_let, locals_of}
use Rattle.bc_syntax.proofs.Signatures.{signature_parts, header_parts}
use Rattle.bc_syntax.specs.Words.{is_region_name, is_word}
use Rattle.bc_syntax.specs.Token.{Token}
use Rattle.bc_syntax.specs.Universals.{universal_names}
use Rattle.bc_syntax.specs.Spelling as spell
use Rattle.bc_text_laws.proofs.Printed.{AllWhole}

-- ---- lists of tokens

joined : (x y : List Token) → AllWhole x → AllWhole y → AllWhole (x ++ y)
joined [] y p q = q
joined (t ∷ x) y p q = (p.0, joined x y p.1 q)

module _ {A : Type 0} (item : A → List Token) (fits : A → Bool) (law : (x : A) → fits x ≡ true → AllWhole (item x)) where
  items : (xs : List A) → list_all fits xs ≡ true → AllWhole (flat_map item xs)
  items [] h = tt
  items (x ∷ xs) h = let p = and_parts (fits x) (list_all fits xs) h in joined (item x) (flat_map item xs) (law x p.0) (items xs p.1)

  next_items : (xs : List A) → list_all fits xs ≡ true → AllWhole (spell.behind_commas item xs)
  next_items [] h = tt
  next_items (x ∷ xs) h = let p = and_parts (fits x) (list_all fits xs) h in (tt, joined (item x) (spell.behind_commas item xs) (law x p.0) (next_items xs p.1))

  commas : (xs : List A) → list_all fits xs ≡ true → AllWhole (spell.commas item xs)
  commas [] h = tt
  commas (x ∷ xs) h = let p = and_parts (fits x) (list_all fits xs) h in joined (item x) (spell.behind_commas item xs) (law x p.0) (next_items xs p.1)

  angled : (xs : List A) → list_all fits xs ≡ true → AllWhole (spell.angled item xs)
  angled [] h = tt
  angled (x ∷ xs) h = (tt, joined (spell.commas item (x ∷ xs)) (spell.symbol s.Greater) (commas (x ∷ xs) h) (tt, tt))

-- ---- numbers

small : (k limit : ℕ) → k ≤ limit → limit ≤ 4294967295 → k < 2 ^ 64
small k limit le few = omega (arith, le, few)

at_most : (k limit : ℕ) → nat_le k limit ≡ true → limit ≤ 4294967295 → k < 2 ^ 64
at_most k limit h few = small k limit (leb-true k limit h) few

below : (k count : ℕ) → nat_lt k count ≡ true → count ≤ 256 → k < 2 ^ 64
below k count h few = let less = ltb-true k count h in omega (arith, less, few)

-- ---- names

new_is_name : (before : List RegionName) (name : RegionName) → fit.is_new before name ≡ true → is_region_name name.bytes ≡ true
new_is_name before name h =
    let a = is_region_name name.bytes in
    let b = nat_le (length name.bytes) 16 in
    let c = not (bytes_eq name.bytes (codes "static")) in
    let d = not (list_any (λ (other : RegionName). bytes_eq other.bytes name.bytes) before) in
    (and_parts a b (and_parts (a && b) c (and_parts ((a && b) && c) d h).0).0).0

are_names : (before names : List RegionName) → fit.are_new before names ≡ true → list_all (λ (name : RegionName). is_region_name name.bytes) names ≡ true
are_names before [] h = refl
are_names before (name ∷ names) h =
    let p = and_parts (fit.is_new before name) (fit.are_new (before ++ name ∷ []) names) h in
    let first : is_region_name name.bytes ≡ true = new_is_name before name p.0 in
    rw first (are_names (before ++ name ∷ []) names p.1)

name_at : (names : List RegionName) (k : ℕ) → list_all (λ (name : RegionName). is_region_name name.bytes) names ≡ true → k < length names → is_region_name (get_or (map (λ (name : RegionName). name.bytes) names) k []) ≡ true
name_at [] k h less = absurd (omega arith)
name_at (name ∷ names) zero h less = (and_parts (is_region_name name.bytes) _ h).0
name_at (name ∷ names) (suc k) h less = name_at names k (and_parts (is_region_name name.bytes) _ h).1 (omega arith)

static_is_name : is_region_name (codes "static") ≡ true
unfolding is_region_name
static_is_name = refl

universal_name : (regions : List RegionName) (k : ℕ) → fit.are_new [] regions ≡ true → k < length regions + 1 → is_region_name (get_or (universal_names regions) k []) ≡ true
universal_name regions zero new less = static_is_name
universal_name regions (suc k) new less = name_at regions k (are_names [] regions new) (omega arith)

region_names : (regions : List RegionName) → fit.are_new [] regions ≡ true → AllWhole (spell.angled spell.region_name regions)
region_names regions new = angled spell.region_name (λ (name : RegionName). is_region_name name.bytes) (λ name h. (h, tt)) regions (are_names [] regions new)

module _ (regions : List RegionName) (new : fit.are_new [] regions ≡ true) where
  abbrev count : ℕ
  count = length regions + 1

  universal : (k : ℕ) → nat_lt k count ≡ true → AllWhole (spell.universal regions k)
  universal k h = (universal_name regions k new (ltb-true k count h), tt)

  region : (variables : Bool) (r : Region) → fit.region_fits variables count r ≡ true → AllWhole (spell.region regions r)
  region variables (Universal k) h = universal k h
  region variables (Variable k) h = (at_most k 1023 (and_parts variables (nat_le k 1023) h).1 (omega arith), tt)

  item_name : (name : ItemName) → fit.item_fits name ≡ true → AllWhole (spell.item_name name)
  item_name name h = ((and_parts (is_word name.bytes) (nat_le (length name.bytes) 32) h).0, tt)

  arguments : (variables : Bool) (rs : List Region) → fit.regions_fit variables count rs ≡ true → AllWhole (spell.angled (spell.region regions) rs)
  arguments variables rs h =
      let p = and_parts (list_all (fit.region_fits variables count) rs) (nat_le (length rs) 15) h in
      angled (spell.region regions) (fit.region_fits variables count) (region variables) rs p.0

  instance : (variables : Bool) (i : Instance) → fit.instance_fits variables count i ≡ true → AllWhole (spell.instance regions i)
  instance variables i h =
      let p = and_parts (fit.item_fits i.name) (fit.regions_fit variables count i.regions) h in
      joined (spell.item_name i.name) (spell.angled (spell.region regions) i.regions) (item_name i.name p.0) (arguments variables i.regions p.1)

  closure : (c : ClosureInstance) → fit.closure_fits true count c ≡ true → AllWhole (spell.closure_instance regions c)
  closure c h =
      let p = and_parts (nat_le c.number 63) (fit.regions_fit true count c.regions) h in
      (tt, (at_most c.number 63 p.0 (omega arith), arguments true c.regions p.1))

  clause : (c : Outlives) → fit.clause_fits count c ≡ true → AllWhole (spell.clause regions c)
  clause c h =
      let p = and_parts (nat_lt c.longer count) (nat_lt c.shorter count) h in
      joined (spell.universal regions c.longer) (spell.symbol s.Colon ++ spell.universal regions c.shorter) (universal c.longer p.0) (tt, universal c.shorter p.1)

  clauses : (cs : List Outlives) → fit.clauses_fit count cs ≡ true → AllWhole (spell.clauses regions cs)
  clauses [] h = tt
  clauses (c ∷ cs) h =
      let p = and_parts (list_all (fit.clause_fits count) (c ∷ cs)) (nat_le (length (c ∷ cs)) 32) h in
      (tt, commas (spell.clause regions) (fit.clause_fits count) clause (c ∷ cs) p.0)

  -- ---- types

  mutability : (m : Mutability) → AllWhole (spell.mutability m)
  mutability Shared = tt
  mutability Mutable = (tt, tt)

  reference : (variables : Bool) (r : Reference) → fit.reference_fits variables count r ≡ true → AllWhole (spell.reference regions r)
  reference variables r h = joined (spell.region regions r.region) (spell.mutability r.mutability) (region variables r.region h) (mutability r.mutability)

  base : (variables : Bool) (b : Base) → fit.base_fits variables count b ≡ true → AllWhole (spell.base regions b)
  base variables bases.Int h = (tt, tt)
  base variables (bases.Struct i) h = instance variables i h
  base variables (bases.Closure c) h = absurd cc

  ty : (variables : Bool) (t : Ty) → fit.ty_fits variables count t ≡ true → AllWhole (spell.ty regions t)
  ty variables t h =
      let a = list_all (fit.reference_fits variables count) t.references in
      let b = nat_le (length t.references) 7 in
      let c = fit.base_fits variables count t.base in
      let p = and_parts (a && b) c h in
      let q = and_parts a b p.0 in
      joined (flat_map (spell.behind regions) t.references) (spell.base regions t.base)
      (items (spell.behind regions) (fit.reference_fits variables count) (λ r g. (tt, reference variables r g)) t.references q.0) (base variables t.base p.1)

  tys : (ts : List Ty) → fit.parameters_fit count ts ≡ true → AllWhole (spell.commas (spell.ty regions) ts)
  tys ts h =
      let p = and_parts (list_all (fit.ty_fits false count) ts) (nat_le (length ts) 16) h in
      commas (spell.ty regions) (fit.ty_fits false count) (ty false) ts p.0

  parameters : (ts : List Ty) → fit.parameters_fit count ts ≡ true → AllWhole (spell.parameters regions ts)
  parameters ts h = (tt, joined (spell.commas (spell.ty regions) ts) (spell.symbol s.CloseParen) (tys ts h) (tt, tt))

  captures : (kind : UnitKind) (ts : List Ty) → fit.parameters_fit count ts ≡ true → AllWhole (spell.captures_of kind regions ts)
  captures Function ts h = tt
  captures Closure ts h = (tt, joined (spell.commas (spell.ty regions) ts) (spell.symbol s.CloseBracket) (tys ts h) (tt, tt))

  -- a closure type has no references
  whole_closure : (rs : List Reference) (b : Base) → fit.whole_closure_fits count rs b ≡ true → AllWhole (flat_map (spell.behind regions) rs ++ spell.base regions b)
  whole_closure [] bases.Int h = absurd cc
  whole_closure [] (bases.Struct i) h = absurd cc
  whole_closure [] (bases.Closure c) h = closure c h
  whole_closure (r ∷ rs) b h = absurd cc

  let_ty : (t : Ty) → fit.let_fits count t ≡ true → AllWhole (spell.ty regions t)
  let_ty t h =
      elim (cases_Bool (fit.ty_fits true count t)) [
        | inl some ↦ ty true t some
        | inr none ↦ whole_closure t.references t.base (rw none at h)
      ]

  -- the types of the locals from the given one on
  lets : (k : ℕ) (ts : List Ty) → k + length ts ≤ 256 → list_all (fit.let_fits count) ts ≡ true → AllWhole (spell.lets regions k ts)
  lets k [] few h = tt
  lets k (t ∷ ts) few h =
      let p = and_parts (fit.let_fits count t) (list_all (fit.let_fits count) ts) h in
      let number : k < 2 ^ 64 = omega (arith, few) in
      let one : AllWhole (spell.declared regions k t) = (tt, (number, (tt, joined (spell.ty regions t) (spell.symbol s.Semicolon) (let_ty t p.0) (tt, tt)))) in
      joined (spell.declared regions k t) (spell.lets regions (k + 1) ts) one (lets (k + 1) ts (omega (arith, few)) p.1)

  -- ---- places and operands

  module _ (locals : ℕ) (few_locals : locals ≤ 256) where
    projection : (p : Projection) → fit.projection_fits p ≡ true → AllWhole (spell.projection p)
    projection Deref h = (tt, tt)
    projection (Field k) h = (at_most k 15 h (omega arith), tt)

    place : (p : Place) → fit.place_fits locals p ≡ true → AllWhole (spell.place p)
    place p h =
        let a = nat_lt p.local locals in
        let b = list_all fit.projection_fits p.projections in
        let c = nat_le (length p.projections) 8 in
        let q = and_parts a b (and_parts (a && b) c h).0 in
        (below p.local locals q.0 few_locals, items spell.step fit.projection_fits (λ x g. (tt, projection x g)) p.projections q.1)

    operand : (o : Operand) → fit.operand_fits locals o ≡ true → AllWhole (spell.operand o)
    operand (operand_kinds.Copy p) h = (tt, place p h)
    operand (operand_kinds.Move p) h = (tt, place p h)
    operand (operand_kinds.Number k) h = (at_most k 4294967295 h (omega arith), tt)

    operands : (os : List Operand) → fit.operands_fit locals os ≡ true → AllWhole (spell.operands os)
    operands os h =
        let p = and_parts (list_all (fit.operand_fits locals) os) (nat_le (length os) 16) h in
        (tt, joined (spell.commas spell.operand os) (spell.symbol s.CloseParen) (commas spell.operand (fit.operand_fits locals) operand os p.0) (tt, tt))

    -- ---- points

    borrow : (b : Borrow) → fit.borrow_fits count locals b ≡ true → AllWhole (spell.borrow regions b)
    borrow b h =
        let p = and_parts (fit.reference_fits true count b.reference) (fit.place_fits locals b.place) h in
        joined (spell.reference regions b.reference) (spell.place b.place) (reference true b.reference p.0) (place b.place p.1)

    aggregate : (a : Aggregate) → fit.aggregate_fits count locals a ≡ true → AllWhole (spell.aggregate regions a)
    aggregate a h =
        let p = and_parts (fit.instance_fits true count a.instance) (fit.operands_fit locals a.operands) h in
        joined (spell.instance regions a.instance) (spell.operands a.operands) (instance true a.instance p.0) (operands a.operands p.1)

    creation : (c : Creation) → fit.creation_fits count locals c ≡ true → AllWhole (spell.creation regions c)
    creation c h =
        let p = and_parts (fit.closure_fits true count c.closure) (fit.operands_fit locals c.operands) h in
        joined (spell.closure_instance regions c.closure) (spell.operands c.operands) (closure c.closure p.0) (operands c.operands p.1)

    rvalue : (r : Rvalue) → fit.rvalue_fits count locals r ≡ true → AllWhole (spell.rvalue regions r)
    rvalue (rvalue_kinds.Use o) h = operand o h
    rvalue (rvalue_kinds.Borrow b) h = (tt, borrow b h)
    rvalue (rvalue_kinds.Aggregate a) h = aggregate a h
    rvalue (rvalue_kinds.Closure c) h = creation c h
    rvalue (rvalue_kinds.Calc os) h = (tt, operands os h)

    assignment : (a : Assignment) → fit.assignment_fits count locals a ≡ true → AllWhole (spell.assignment regions a)
    assignment a h =
        let p = and_parts (fit.place_fits locals a.target) (fit.rvalue_fits count locals a.value) h in
        joined (spell.place a.target) (spell.symbol s.Equals ++ spell.rvalue regions a.value) (place a.target p.0) (tt, rvalue a.value p.1)

    statement : (st : Statement) → fit.statement_fits count locals st ≡ true → AllWhole (spell.statement regions st)
    statement (statement_kinds.Assign a) h = assignment a h
    statement (statement_kinds.Dead l) h = (tt, (below l locals h few_locals, tt))
    statement (statement_kinds.Drop p) h = (tt, place p h)
    statement statement_kinds.Nop h = (tt, tt)

    line : (st : Statement) → fit.statement_fits count locals st ≡ true → AllWhole (spell.line regions st)
    line st h = joined (spell.statement regions st) (spell.symbol s.Semicolon) (statement st h) (tt, tt)

    label : (k : ℕ) → nat_le k 255 ≡ true → AllWhole (spell.label k)
    label k h = (at_most k 255 h (omega arith), tt)

    condition : (c : Condition) → fit.condition_fits locals c ≡ true → AllWhole (spell.condition c)
    condition c h =
        let x = fit.operand_fits locals c.operand in
        let y = nat_le c.then 255 in
        let z = nat_le c.otherwise 255 in
        let p = and_parts (x && y) z h in
        let q = and_parts x y p.0 in
        joined (spell.operand c.operand) (spell.label c.then ++ spell.label c.otherwise) (operand c.operand q.0) (joined (spell.label c.then) (spell.label c.otherwise) (label c.then q.1) (label c.otherwise p.1))

    call : (c : Call) → fit.call_fits count locals c ≡ true → AllWhole (spell.call regions c)
    call c h =
        let x = fit.place_fits locals c.destination in
        let y = fit.instance_fits true count c.function in
        let z = fit.operands_fit locals c.operands in
        let w = nat_le c.target 255 in
        let p = and_parts ((x && y) && z) w h in
        let q = and_parts (x && y) z p.0 in
        let r = and_parts x y q.0 in
        let called : AllWhole (spell.called regions c) = joined (spell.instance regions c.function) (spell.operands c.operands ++ spell.label c.target) (instance true c.function r.1) (joined (spell.operands c.operands) (spell.label c.target) (operands c.operands q.1) (label c.target p.1)) in
        joined (spell.place c.destination) (spell.symbol s.Equals ++ (spell.symbol s.Call ++ spell.called regions c)) (place c.destination r.0) (tt, (tt, called))

    invocation : (i : Invocation) → fit.invocation_fits count locals i ≡ true → AllWhole (spell.invocation regions i)
    invocation i h =
        let x = fit.place_fits locals i.destination in
        let y = fit.place_fits locals i.closure in
        let z = fit.regions_fit true count i.regions in
        let v = fit.operands_fit locals i.operands in
        let w = nat_le i.target 255 in
        let p = and_parts (((x && y) && z) && v) w h in
        let q = and_parts ((x && y) && z) v p.0 in
        let r = and_parts (x && y) z q.0 in
        let o = and_parts x y r.0 in
        let tail = spell.operands i.operands ++ spell.label i.target in
        let behind : AllWhole tail = joined (spell.operands i.operands) (spell.label i.target) (operands i.operands q.1) (label i.target p.1) in
        let invoked : AllWhole (spell.invoked regions i) = joined (spell.place i.closure) (spell.angled (spell.region regions) i.regions ++ tail) (place i.closure o.1) (joined (spell.angled (spell.region regions) i.regions) tail (arguments true i.regions r.1) behind) in
        joined (spell.place i.destination) (spell.symbol s.Equals ++ (spell.symbol s.Invoke ++ spell.invoked regions i)) (place i.destination o.0) (tt, (tt, invoked))

    terminator : (t : Terminator) → fit.terminator_fits count locals t ≡ true → AllWhole (spell.terminator regions t)
    terminator (terminator_kinds.Goto k) h = (tt, label k h)
    terminator (terminator_kinds.If c) h = (tt, condition c h)
    terminator (terminator_kinds.Call c) h = call c h
    terminator (terminator_kinds.Invoke i) h = invocation i h
    terminator terminator_kinds.Return h = (tt, tt)
    terminator terminator_kinds.Stop h = (tt, tt)

    points : (b : Block) → fit.block_fits count locals b ≡ true → AllWhole (spell.points regions b)
    points b h =
        let p = and_parts (list_all (fit.statement_fits count locals) b.statements) (fit.terminator_fits count locals b.terminator) h in
        joined (flat_map (spell.line regions) b.statements) (spell.terminator regions b.terminator) (items (spell.line regions) (fit.statement_fits count locals) line b.statements p.0) (terminator b.terminator p.1)

    braced : (b : Block) → fit.block_fits count locals b ≡ true → AllWhole (spell.braced regions b)
    braced b h = (tt, joined (spell.points regions b) (spell.symbol s.Semicolon ++ spell.symbol s.CloseBrace) (points b h) (tt, (tt, tt)))

    blocks : (k : ℕ) (bs : List Block) → k + length bs ≤ 256 → list_all (fit.block_fits count locals) bs ≡ true → AllWhole (spell.blocks regions k bs)
    blocks k [] few h = tt
    blocks k (b ∷ bs) few h =
        let p = and_parts (fit.block_fits count locals b) (list_all (fit.block_fits count locals) bs) h in
        let number : k < 2 ^ 64 = omega (arith, few) in
        let one : AllWhole (spell.block regions k b) = (number, braced b p.0) in
        joined (spell.block regions k b) (spell.blocks regions (k + 1) bs) one (blocks (k + 1) bs (omega (arith, few)) p.1)

-- ---- units

-- a signature, with such tokens before its parameters
signature_with : (limit : ℕ) (h : Signature) (found : List Token) → fit.signature_fits limit h ≡ true → AllWhole found → AllWhole (spell.signature_with found h)
signature_with limit h found fits whole =
    let parts = signature_parts limit h fits in
    let rs = h.regions in
    let arrow = spell.symbol s.Arrow ++ spell.ty rs h.result in
    let rest = spell.parameters rs h.parameters ++ arrow in
    joined (spell.angled spell.region_name rs) (spell.clauses rs h.clauses ++ (found ++ rest)) (region_names rs parts.regions)
    (joined (spell.clauses rs h.clauses) (found ++ rest) (clauses rs parts.regions h.clauses parts.clauses)
    (joined found rest whole (joined (spell.parameters rs h.parameters) arrow (parameters rs parts.regions h.parameters parts.parameters) (tt, ty rs parts.regions false h.result parts.result))))

header : (h : Header) → fit.header_fits h ≡ true → AllWhole (spell.header h)
header h fits =
    let parts = header_parts h fits in
    (tt, signature_with 15 h.signature (spell.captures h) parts.signature_fits (captures h.signature.regions parts.signature.regions h.kind h.captures parts.captures))

body : (u : Body) → Fits u → AllWhole (spell.body u)
body u fits =
    let rs = u.header.signature.regions in
    let new = (header_parts u.header fits.header).signature.regions in
    let count = length (locals_of u) in
    let all_locals : length (locals_of u) ≡ first_let u.header + length u.lets = omega (arith, length-append (declared_locals u.header) u.lets) in
    let few : first_let u.header + length u.lets ≤ 256 = omega (arith, fits.locals, all_locals) in
    let few_blocks : 0 + length u.blocks ≤ 256 = omega (arith, fits.few_blocks) in
    let blocks_part = joined (spell.blocks rs 0 u.blocks) (spell.symbol s.CloseBrace) (blocks rs new count fits.locals 0 u.blocks few_blocks fits.blocks) (tt, tt) in
    (tt, joined (spell.lets rs (first_let u.header) u.lets) (spell.blocks rs 0 u.blocks ++ spell.symbol s.CloseBrace) (lets rs new (first_let u.header) u.lets few fits.lets) blocks_part)

pub unit_is_whole : (u : Body) → Fits u → AllWhole (spell.unit u)
unit_is_whole u fits = joined (spell.header u.header) (spell.body u) (header u.header fits.header) (body u fits)

-- ---- declarations

abbrev is_name : RegionName → Bool
is_name name = is_region_name name.bytes

marks_fit : (vs : List Variance) (names : List RegionName) → list_all is_name names ≡ true → list_all (λ (m : Variance × RegionName). is_name m.1) (zip vs names) ≡ true
marks_fit [] names h = refl
marks_fit (v ∷ vs) [] h = refl
marks_fit (v ∷ vs) (name ∷ names) h =
    let p = and_parts (is_name name) (list_all is_name names) h in
    and_from (is_name name) (list_all (λ (m : Variance × RegionName). is_name m.1) (zip vs names)) p.0 (marks_fit vs names p.1)

variance : (v : Variance) → AllWhole (spell.variance v)
variance Covariant = (tt, tt)
variance Invariant = (tt, tt)

mark : (m : Variance × RegionName) → is_name m.1 ≡ true → AllWhole (spell.mark m)
mark m h = joined (spell.variance m.0) (spell.region_name m.1) (variance m.0) (h, tt)

drop_word : (b : Bool) → AllWhole (spell.drop_word b)
drop_word false = tt
drop_word true = (tt, tt)

whole_item : (name : ItemName) → fit.item_fits name ≡ true → AllWhole (spell.item_name name)
whole_item name h = ((and_parts (is_word name.bytes) (nat_le (length name.bytes) 32) h).0, tt)

struct_rest : (d : StructDeclaration) → fit.struct_fits d ≡ true → AllWhole (spell.struct_rest d)
struct_rest d h =
    let count = length d.regions + 1 in
    let a = fit.item_fits d.name in
    let b = fit.are_new [] d.regions in
    let c = nat_le (length d.regions) 8 in
    let v = length d.variances == length d.regions in
    let e = list_all (fit.ty_fits false count) d.fields in
    let f = nat_le (length d.fields) 16 in
    let p5 = and_parts ((((a && b) && c) && v) && e) f h in
    let p4 = and_parts (((a && b) && c) && v) e p5.0 in
    let p3 = and_parts ((a && b) && c) v p4.0 in
    let p2 = and_parts (a && b) c p3.0 in
    let p1 = and_parts a b p2.0 in
    let one : (t : Ty) → fit.ty_fits false count t ≡ true → AllWhole (spell.field d.regions t) = λ t g. joined (spell.ty d.regions t) (spell.symbol s.Semicolon) (ty d.regions p1.1 false t g) (tt, tt) in
    let within = joined (flat_map (spell.field d.regions) d.fields) (spell.symbol s.CloseBrace) (items (spell.field d.regions) (fit.ty_fits false count) one d.fields p4.1) (tt, tt) in
    let marks = angled spell.mark (λ (m : Variance × RegionName). is_name m.1) mark (zip d.variances d.regions) (marks_fit d.variances d.regions (are_names [] d.regions p1.1)) in
    joined (spell.item_name d.name) (spell.angled spell.mark (zip d.variances d.regions) ++ (spell.drop_word d.has_drop ++ spell.fields d)) (whole_item d.name p1.0)
    (joined (spell.angled spell.mark (zip d.variances d.regions)) (spell.drop_word d.has_drop ++ spell.fields d) marks (joined (spell.drop_word d.has_drop) (spell.fields d) (drop_word d.has_drop) (tt, within)))

extern_rest : (d : ExternDeclaration) → fit.extern_fits d ≡ true → AllWhole (spell.extern_rest d)
extern_rest d h =
    let p = and_parts (fit.item_fits d.name) (fit.signature_fits 8 d.signature) h in
    joined (spell.item_name d.name) (spell.signature d.signature ++ spell.symbol s.Semicolon) (whole_item d.name p.0)
    (joined (spell.signature d.signature) (spell.symbol s.Semicolon) (signature_with 8 d.signature [] p.1 tt) (tt, tt))

declaration : (d : Declaration) → fit.declaration_fits d ≡ true → AllWhole (spell.declaration d)
declaration (declarations.Struct d) h = (tt, struct_rest d h)
declaration (declarations.Extern d) h = (tt, extern_rest d h)

pub types_are_whole : (ds : List Declaration) → TypesFit ds → AllWhole (spell.types ds)
types_are_whole ds fits = items spell.declaration fit.declaration_fits declaration ds fits.declarations
