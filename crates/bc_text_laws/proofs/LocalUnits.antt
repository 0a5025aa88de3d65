-- The productions of a unit are such parsers as `Local` describes.
use Rattle.std.proofs.Common.{◌≡◌, ℕ, zero, suc, ◌+◌, Bool, true, false, List, [], ◌∷◌, ◌++◌, length, Option, Some, None, refl, sym, ap, ◌∙◌, append_assoc, arith}
use Rattle.std.specs.Prelude.{nat_lt, ◌==◌}
use Rattle.std.specs.List.{All, flat_map}
use Rattle.std.proofs.lemmas.List.Elements.{All-nil}
use Rattle.std.proofs.lemmas.Bool.{eqb-true}
use Rattle.std.proofs.lemmas.List.{append-nil}
use Rattle.bc_syntax.specs.Token.{Token, Fixed, Numbered}
use Rattle.bc_syntax.specs.Token.{Region as Named}
use Rattle.bc_syntax.specs.declared.syntax.ItemName.{ItemName}
use Rattle.bc_syntax.specs.declared.syntax.Call.{Call}
use Rattle.bc_syntax.specs.declared.syntax.Invocation.{Invocation}
use Rattle.bc_syntax.specs.declared.syntax.Outlives.{Outlives}
use Rattle.bc_syntax.specs.declared.syntax.Signature.{Signature}
use Rattle.bc_syntax.specs.declared.symbol.Symbol.TheVariants as s
use Rattle.bc_syntax.specs.declared.numbering.Numbering.TheVariants as n
use Rattle.bc_syntax.specs.declared.syntax.RegionName.{RegionName}
use Rattle.bc_syntax.specs.declared.syntax.Reference.{Reference}
use Rattle.bc_syntax.specs.declared.syntax.Projection.{Projection}
use Rattle.bc_syntax.specs.declared.syntax.Projection.TheVariants.{Deref}
use Rattle.bc_syntax.specs.declared.syntax.Mutability.TheVariants.{Shared, Mutable}
use Rattle.bc_syntax.specs.declared.syntax.Base.{Base}
use Rattle.bc_syntax.specs.declared.syntax.Base.TheVariants as bases
use Rattle.bc_syntax.specs.declared.syntax.Statement.TheVariants as statement_kinds
use Rattle.bc_syntax.specs.declared.syntax.Terminator.TheVariants as terminator_kinds
use Rattle.bc_syntax.specs.declared.syntax.UnitKind.TheVariants.{Function, Closure}
use Rattle.bc_syntax.specs.declared.syntax.Place.{Place}
use Rattle.bc_syntax.specs.declared.syntax.Statement.{Statement}
use Rattle.bc_syntax.specs.declared.syntax.Block.{Block}
use Rattle.bc_syntax.specs.declared.syntax.Header.{Header}
use Rattle.bc_syntax.specs.Locals.{first_let}
use Rattle.bc_syntax.specs.declared.syntax.Ty.{Ty}
use Rattle.bc_syntax.specs.Fits.{is_new}
use Rattle.bc_syntax.specs.Words.{is_word}
use Rattle.bc_tokens.specs.Parser.{Parser, angled_list}
use Rattle.bc_text.specs.declared.points.Point.{Point}
use Rattle.bc_text.specs.declared.points.Point.TheVariants as point_kinds
use Rattle.bc_text_laws.specs.Standing.{IsNoClosure, IsPlain, StandsBehind, IsLet, SignatureStands, HeaderStands, ClosuresStand}
use Rattle.bc_text.specs.Universals.{number_of}
use Rattle.bc_text.specs.Reading as read
use Rattle.bc_syntax.specs.Spelling as spell
use Rattle.bc_text.proofs.NumberLaws.{number_found}
use Rattle.bc_text_laws.proofs.Local.{Parses, Any, Filled, Looks, Checked, then, gives, refuses, moved, behind, made, made_so, behind_so, all_and, optional, if_seen, if_past, symbol_looks, numbered_looks, word_looks, region_looks, either_looks, where_looks, checked, tried, goes_on, fails, expects, ends, numbers, numbered_one, region_name_one, word_one, one_more, in_angles, alike_in_angles, alike_closed, alike_opened}

-- ---- regions and names

declared_as_checked : (regions : List RegionName) (at : ℕ) (name : List ℕ) (found : Option ℕ) → number_of regions name ≡ found → Checked Any (read.declared_as at found) at (Named name ∷ []) (spell.universal regions)
declared_as_checked regions at name (Some number) e = goes_on (gives number tt (ap (λ (l : List ℕ). Named l ∷ []) (number_found regions name number e).0))
declared_as_checked regions at name None e = fails (λ ts. refl)

no_name : RegionName
no_name = record { bytes = [] }

pub no_item : ItemName
no_item = record { bytes = [] }

module _ (variables : Bool) (regions : List RegionName) where
  pub universal : Parses Any (read.universal regions) [] (spell.universal regions)
  unfolding read.universal
  universal = checked (0, tt) region_name_one (λ at name. declared_as_checked regions at name (number_of regions name) refl)

  region : Parses Any (read.region variables regions) [] (spell.region regions)
  unfolding read.region
  region = if_seen (where_looks variables (numbered_looks n.Variable)) (made _ (numbers n.Variable 1023) (λ x _. refl)) (made _ universal (λ x _. refl))

  begins_region : Looks (read.begins_region variables)
  begins_region = either_looks region_looks (where_looks variables (numbered_looks n.Variable))

  pub new_region : Parses Any (read.new_region regions) [] spell.region_name
  unfolding read.new_region
  new_region = checked (no_name, tt) region_name_one (λ at name. tried at (is_new regions (record { bytes = name })) (λ _. gives (record { bytes = name }) tt refl))

  pub item_name : Parses Any read.item_name [] spell.item_name
  unfolding read.item_name
  item_name = checked (no_item, tt) word_one (λ at name. tried at (is_word name) (λ _. gives (record { bytes = name }) tt refl))

  instance : Parses Any (read.instance variables regions) [] (spell.instance regions)
  unfolding read.instance
  instance = then item_name (λ name _. then (alike_in_angles begins_region region 15) (λ found _. gives (record { name = name; regions = found }) tt refl))

  -- ---- types

  mutability : Parses Any read.mutability [] spell.mutability
  unfolding read.mutability
  mutability = optional s.Mut (gives Mutable tt refl) (gives Shared tt refl)

  reference : Parses Any (read.reference variables regions) [] (spell.reference regions)
  unfolding read.reference
  reference = then region (λ r _. then mutability (λ m _. gives (record { region = r; mutability = m }) tt refl))

  pub begins_ty : Looks read.begins_ty
  begins_ty = either_looks (either_looks (symbol_looks s.Ampersand) (symbol_looks s.Int)) word_looks

  base : Parses IsNoClosure (read.base variables regions) [] (spell.base regions)
  unfolding read.base
  base = optional s.Int (gives bases.Int tt refl) (made_so _ instance (λ x _. tt) (λ x _. refl))

  reference_more : (found : List Reference) (r : Reference) → flat_map (spell.behind regions) (found ++ r ∷ []) ≡ (flat_map (spell.behind regions) found ++ spell.symbol s.Ampersand) ++ spell.reference regions r
  reference_more found r = one_more (spell.behind regions) found r ∙ sym (append_assoc (flat_map (spell.behind regions) found) (spell.symbol s.Ampersand) (spell.reference regions r))

  ty_from : (room : ℕ) (found : List Reference) → Parses IsPlain (read.ty_from variables regions room found) (flat_map (spell.behind regions) found) (spell.ty regions)
  unfolding read.ty_from read.ty_turn
  ty_from zero found =
      let some : Filled IsPlain (spell.ty regions) (flat_map (spell.behind regions) found) = (record { references = found; base = bases.Int }, tt, spell.symbol s.Int, refl) in
      if_past begins_ty some (refuses some)
  ty_from (suc room) found = optional s.Ampersand (then reference (λ r _. moved (reference_more found r) (ty_from room (found ++ r ∷ [])))) (made_so _ base (λ x h. h) (λ x _. refl))

  pub ty : Parses IsPlain (read.ty variables regions) [] (spell.ty regions)
  unfolding read.ty
  ty = ty_from 8 []

module _ (regions : List RegionName) where
  arguments : Parses Any (angled_list (read.begins_region true) (read.region true regions) 15) [] (spell.angled (spell.region regions))
  arguments = alike_in_angles (begins_region true regions) (region true regions) 15

  closure_instance : Parses Any (read.closure_instance regions) [] (spell.closure_number regions)
  unfolding read.closure_instance
  closure_instance = then (numbers n.Number 63) (λ number _. then arguments (λ found _. gives (record { number = number; regions = found }) tt refl))

  stands_behind : (rs : List Reference) (b : Base) → IsNoClosure b → StandsBehind rs b
  stands_behind [] b h = tt
  stands_behind (r ∷ rs) b h = h

  let_type : Parses IsLet (read.let_type regions) [] (spell.ty regions)
  unfolding read.let_type
  let_type = optional s.Closure (made_so _ closure_instance (λ x _. tt) (λ x _. refl)) (behind_so (ty true regions) (λ t h. stands_behind t.references t.base h) (λ x _. refl))

-- ---- places and operands

abbrev pub no_ty : Ty
no_ty = record { references = []; base = bases.Int }

abbrev pub no_block : Block
no_block = record { statements = []; terminator = terminator_kinds.Return }

step_more : (found : List Projection) (p : Projection) → flat_map spell.step (found ++ p ∷ []) ≡ (flat_map spell.step found ++ spell.symbol s.Dot) ++ spell.projection p
step_more found p = one_more spell.step found p ∙ sym (append_assoc (flat_map spell.step found) (spell.symbol s.Dot) (spell.projection p))

four : (a b c d : List Token) → a ++ (b ++ (c ++ d)) ≡ ((a ++ b) ++ c) ++ d
four a b c d = sym (append_assoc a b (c ++ d)) ∙ sym (append_assoc (a ++ b) c d)

-- the spelling of a statement or a terminator
abbrev point_text : List RegionName → Point → List Token
point_text regions (point_kinds.Statement st) = spell.statement regions st
point_text regions (point_kinds.Terminator t) = spell.terminator regions t

blocks_more : (regions : List RegionName) (k m : ℕ) (found : List Block) (b : Block) → m ≡ k + length found → spell.blocks regions k (found ++ b ∷ []) ≡ spell.blocks regions k found ++ spell.block regions m b
blocks_more regions k m [] b e = let is : m ≡ k = omega arith in append-nil (spell.block regions k b) ∙ ap (λ j. spell.block regions j b) (sym is)
blocks_more regions k m (c ∷ found) b e =
    let is : m ≡ (k + 1) + length found = omega arith in
    ap (λ (l : List Token). spell.block regions k c ++ l) (blocks_more regions (k + 1) m found b is) ∙ sym (append_assoc (spell.block regions k c) (spell.blocks regions (k + 1) found) (spell.block regions m b))

module _ (regions : List RegionName) (locals : ℕ) where
  local : Parses Any (read.local locals) [] (λ l. Numbered n.Local l ∷ [])
  unfolding read.local
  local = checked (0, tt) (numbered_one n.Local 255) (λ at l. tried at (nat_lt l locals) (λ _. gives l tt refl))

  projection : Parses Any read.projection [] spell.projection
  unfolding read.projection
  projection = optional s.Star (gives Deref tt refl) (made _ (numbers n.Number 15) (λ x _. refl))

  projections_from : (room : ℕ) (found : List Projection) → Parses Any (read.projections_from room found) (flat_map spell.step found) (flat_map spell.step)
  unfolding read.projections_from read.projections_turn
  projections_from zero found = if_past (symbol_looks s.Dot) (found, tt, [], sym (append-nil (flat_map spell.step found))) (gives found tt refl)
  projections_from (suc room) found = optional s.Dot (then projection (λ p _. moved (step_more found p) (projections_from room (found ++ p ∷ [])))) (gives found tt refl)

  place : Parses Any (read.place locals) [] spell.place
  unfolding read.place
  place = then local (λ l _. then (projections_from 8 []) (λ ps _. gives (record { local = l; projections = ps }) tt refl))

  moved_operand : Parses Any (read.moved locals) [] spell.operand
  unfolding read.moved
  moved_operand = optional s.Move (made _ place (λ x _. refl)) (made _ (numbers n.Number 4294967295) (λ x _. refl))

  operand : Parses Any (read.operand locals) [] spell.operand
  unfolding read.operand
  operand = optional s.Copy (made _ place (λ x _. refl)) moved_operand

  begins_operand : Looks read.begins_operand
  begins_operand = either_looks (either_looks (symbol_looks s.Copy) (symbol_looks s.Move)) (numbered_looks n.Number)

  operands : Parses Any (read.operands locals) [] spell.operands
  unfolding read.operands
  operands = then (expects s.OpenParen) (λ _ _. behind (alike_closed begins_operand operand 16 s.CloseParen) (λ x _. refl))

  -- ---- statements

  borrow : Parses Any (read.borrow regions locals) [] (spell.borrow regions)
  unfolding read.borrow
  borrow = then (reference true regions) (λ r _. then place (λ p _. gives (record { reference = r; place = p }) tt refl))

  aggregate : Parses Any (read.aggregate regions locals) [] (spell.aggregate regions)
  unfolding read.aggregate
  aggregate = then (instance true regions) (λ i _. then operands (λ os _. gives (record { instance = i; operands = os }) tt refl))

  creation : Parses Any (read.creation regions locals) [] (λ c. spell.closure_number regions c.closure ++ spell.operands c.operands)
  unfolding read.creation
  creation = then (closure_instance regions) (λ c _. then operands (λ os _. gives (record { closure = c; operands = os }) tt refl))

  captured : Parses Any (read.captured regions locals) [] (spell.rvalue regions)
  unfolding read.captured
  captured = optional s.Closure (made _ creation (λ x _. refl)) (made _ operand (λ x _. refl))

  created : Parses Any (read.created regions locals) [] (spell.rvalue regions)
  unfolding read.created
  created = if_seen word_looks (made _ aggregate (λ x _. refl)) captured

  computed : Parses Any (read.computed regions locals) [] (spell.rvalue regions)
  unfolding read.computed
  computed = optional s.Calc (made _ operands (λ x _. refl)) created

  rvalue : Parses Any (read.rvalue regions locals) [] (spell.rvalue regions)
  unfolding read.rvalue
  rvalue = optional s.Ampersand (made _ borrow (λ x _. refl)) computed

  label : Parses Any read.label [] spell.label
  unfolding read.label
  label = numbers n.Label 255

  called : (destination : Place) → Parses (λ (c : Call). c.destination ≡ destination) (read.called regions locals destination) [] (spell.called regions)
  unfolding read.called
  called destination = then (instance true regions) (λ i _. then operands (λ os _. then label (λ l _.
      gives (record { destination = destination; function = i; operands = os; target = l }) refl (sym (append_assoc (spell.instance regions i) (spell.operands os) (spell.label l))))))

  call_is : (p : Place) (c : Call) → c.destination ≡ p → spell.call regions c ≡ ((spell.place p ++ spell.symbol s.Equals) ++ spell.symbol s.Call) ++ spell.called regions c
  call_is p c e =
      ap (λ (q : Place). spell.place q ++ (spell.symbol s.Equals ++ (spell.symbol s.Call ++ spell.called regions c))) e
      ∙ four (spell.place p) (spell.symbol s.Equals) (spell.symbol s.Call) (spell.called regions c)

  invoked : (destination : Place) → Parses (λ (i : Invocation). i.destination ≡ destination) (read.invoked regions locals destination) [] (spell.invoked regions)
  unfolding read.invoked
  invoked destination = then place (λ p _. then (arguments regions) (λ rs _. then operands (λ os _. then label (λ l _.
      gives (record { destination = destination; closure = p; regions = rs; operands = os; target = l }) refl (four (spell.place p) (spell.angled (spell.region regions) rs) (spell.operands os) (spell.label l))))))

  invocation_is : (p : Place) (i : Invocation) → i.destination ≡ p → spell.invocation regions i ≡ ((spell.place p ++ spell.symbol s.Equals) ++ spell.symbol s.Invoke) ++ spell.invoked regions i
  invocation_is p i e =
      ap (λ (q : Place). spell.place q ++ (spell.symbol s.Equals ++ (spell.symbol s.Invoke ++ spell.invoked regions i))) e
      ∙ four (spell.place p) (spell.symbol s.Equals) (spell.symbol s.Invoke) (spell.invoked regions i)

  invoking : (p : Place) → Parses Any (read.invoking regions locals p) (spell.place p ++ spell.symbol s.Equals) (point_text regions)
  unfolding read.invoking
  invoking p = optional s.Invoke (made _ (invoked p) (λ i h. invocation_is p i h)) (made _ rvalue (λ v _. sym (append_assoc (spell.place p) (spell.symbol s.Equals) (spell.rvalue regions v))))

  value_of : (p : Place) → Parses Any (read.value_of regions locals p) (spell.place p ++ spell.symbol s.Equals) (point_text regions)
  unfolding read.value_of
  value_of p = optional s.Call (made _ (called p) (λ c h. call_is p c h)) (invoking p)

  assignment : Parses Any (read.assignment regions locals) [] (point_text regions)
  unfolding read.assignment
  assignment = then place (λ p _. then (expects s.Equals) (λ _ _. value_of p))

  active : Parses Any (read.active regions locals) [] (point_text regions)
  unfolding read.active
  active = optional s.Nop (gives (point_kinds.Statement statement_kinds.Nop) tt refl) assignment

  dropping : Parses Any (read.dropping regions locals) [] (point_text regions)
  unfolding read.dropping
  dropping = optional s.Drop (made _ place (λ x _. refl)) active

  statement : Parses Any (read.statement regions locals) [] (point_text regions)
  unfolding read.statement
  statement = optional s.Dead (made _ local (λ x _. refl)) dropping

  condition : Parses Any (read.condition locals) [] spell.condition
  unfolding read.condition
  condition = then operand (λ o _. then label (λ yes_label _. then label (λ no_label _.
      gives (record { operand = o; then = yes_label; otherwise = no_label }) tt (sym (append_assoc (spell.operand o) (spell.label yes_label) (spell.label no_label))))))

  branching : Parses Any (read.branching regions locals) [] (point_text regions)
  unfolding read.branching
  branching = optional s.If (made _ condition (λ x _. refl)) statement

  going : Parses Any (read.going regions locals) [] (point_text regions)
  unfolding read.going
  going = optional s.Goto (made _ label (λ x _. refl)) branching

  stopping : Parses Any (read.stopping regions locals) [] (point_text regions)
  unfolding read.stopping
  stopping = optional s.Stop (gives (read.ending terminator_kinds.Stop) tt refl) going

  point : Parses Any (read.point regions locals) [] (point_text regions)
  unfolding read.point
  point = optional s.Return (gives (read.ending terminator_kinds.Return) tt refl) stopping

  begins_point : Looks read.begins_point
  begins_point =
      let sign = symbol_looks in
      either_looks (either_looks (either_looks (either_looks (either_looks (either_looks (either_looks (sign s.Return) (sign s.Stop)) (sign s.Goto)) (sign s.If)) (sign s.Dead)) (sign s.Drop)) (sign s.Nop)) (numbered_looks n.Local)

  -- ---- blocks

  abbrev lines : List Statement → List Token
  lines found = flat_map (spell.line regions) found

  line_more : (found : List Statement) (st : Statement) → lines (found ++ st ∷ []) ≡ (lines found ++ spell.statement regions st) ++ spell.symbol s.Semicolon
  line_more found st = one_more (spell.line regions) found st ∙ sym (append_assoc (lines found) (spell.statement regions st) (spell.symbol s.Semicolon))

  goes_on_behind : (found : List Statement) (again : List Statement → Parser Block) → ((more : List Statement) → Parses Any (again more) (lines more) (spell.points regions)) → (p : Point) → Parses Any (read.goes_on found again p) (lines found ++ point_text regions p) (spell.points regions)
  goes_on_behind found again next (point_kinds.Terminator t) = gives (record { statements = found; terminator = t }) tt refl
  goes_on_behind found again next (point_kinds.Statement st) = then (expects s.Semicolon) (λ _ _. moved (line_more found st) (next (found ++ st ∷ [])))

  block_from : (room : ℕ) (found : List Statement) → Parses Any (read.block_from regions locals room found) (lines found) (spell.points regions)
  unfolding read.block_from read.block_turn
  block_from zero found =
      let some : Filled Any (spell.points regions) (lines found) = (record { statements = found; terminator = terminator_kinds.Return }, tt, spell.symbol s.Return, refl) in
      if_past begins_point some (refuses some)
  block_from (suc room) found = then point (λ p _. goes_on_behind found (read.block_from regions locals room) (block_from room) p)

  braced : (left : ℕ) → Parses Any (read.braced regions locals left) [] (spell.braced regions)
  unfolding read.braced
  braced left = then (expects s.OpenBrace) (λ _ _. then (block_from left []) (λ b _. then (expects s.Semicolon) (λ _ _. then (expects s.CloseBrace) (λ _ _.
      gives b tt (ap (λ (l : List Token). Fixed s.OpenBrace ∷ l) (sym (append_assoc (spell.points regions b) (spell.symbol s.Semicolon) (spell.symbol s.CloseBrace))))))))

  block : (number left : ℕ) → Parses Any (read.block regions locals number left) [] (spell.block regions number)
  unfolding read.block read.label
  block number left = checked (no_block, tt) (numbered_one n.Label 255) (λ at l. tried at (l == number) (λ e. behind (braced left) (λ b _. ap (λ k. Numbered n.Label k ∷ spell.braced regions b) (sym (eqb-true l number e)))))

  blocks_turn : (again : ℕ → List Block → Parser (List Block)) → ((left : ℕ) (found : List Block) → Parses Any (again left found) (spell.blocks regions 0 found) (spell.blocks regions 0)) → (left : ℕ) (found : List Block)
      → Parses Any (read.blocks_turn regions locals again left found) (spell.blocks regions 0 found) (spell.blocks regions 0)
  unfolding read.blocks_turn
  blocks_turn again next left found = then (block (length found) left) (λ b _. moved (blocks_more regions 0 (length found) found b (omega arith)) (next (read.left_behind left b) (found ++ b ∷ [])))

  blocks_from : (room left : ℕ) (found : List Block) → Parses Any (read.blocks_from regions locals room left found) (spell.blocks regions 0 found) (spell.blocks regions 0)
  unfolding read.blocks_from
  blocks_from zero left found = refuses (found, tt, [], sym (append-nil (spell.blocks regions 0 found)))
  blocks_from (suc room) left found = if_seen (numbered_looks n.Label) (blocks_turn (read.blocks_from regions locals room) (blocks_from room) left found) (gives found tt refl)

  blocks : Parses Any (read.blocks regions locals) [] (spell.blocks regions 0)
  unfolding read.blocks
  blocks = blocks_turn (read.blocks_from regions locals 256) (blocks_from 256) 4096 []

-- ---- headers

module _ (regions : List RegionName) where
  clause : Parses Any (read.clause regions) [] (spell.clause regions)
  unfolding read.clause
  clause = then (universal false regions) (λ longer _. then (expects s.Colon) (λ _ _. then (universal false regions) (λ shorter _. gives (record { longer = longer; shorter = shorter }) tt refl)))

  clauses : Parses Any (read.clauses regions) [] (spell.clauses regions)
  unfolding read.clauses
  clauses = alike_opened region_looks clause 32 s.Where (spell.clauses regions) refl (λ c cs. refl)

  parameters : Parses (All IsPlain) (read.parameters regions) [] (spell.parameters regions)
  unfolding read.parameters
  parameters = then (expects s.OpenParen) (λ _ _. behind_so (alike_closed (begins_ty false regions) (ty false regions) 16 s.CloseParen) (λ x h. h) (λ x _. refl))

  captures : Parses (All IsPlain) (read.captures regions) [] (spell.bracketed regions)
  unfolding read.captures
  captures = then (expects s.OpenBracket) (λ _ _. behind_so (alike_closed (begins_ty false regions) (ty false regions) 16 s.CloseBracket) (λ x h. h) (λ x _. refl))

  -- the signature has the regions and clauses that were read, and no closures
  abbrev IsOf : List Outlives → Signature → Type 0
  IsOf cs f = (regions ≡ f.regions) × (cs ≡ f.clauses) × SignatureStands f

  function_ty : (cs : List Outlives) → Parses (IsOf cs) (read.function_ty regions cs) [] spell.function_ty
  unfolding read.function_ty
  function_ty cs = then parameters (λ ps plain. then (expects s.Arrow) (λ _ _. then (ty false regions) (λ r whole.
      gives (record { regions = regions; clauses = cs; parameters = ps; result = r }) (refl, refl, (plain, whole)) (sym (append_assoc (spell.parameters regions ps) (spell.symbol s.Arrow) (spell.ty regions r))))))

  abbrev names : List Token
  names = spell.angled spell.region_name regions

  -- a signature is spelled as its regions and clauses, then its parameters and result
  signature_is : (cs : List Outlives) (f : Signature) → IsOf cs f → (found : List RegionName → List Token) → spell.signature_with (found f.regions) f ≡ (names ++ spell.clauses regions cs) ++ (found regions ++ spell.function_ty f)
  signature_is cs f is found =
      ap (λ (rs : List RegionName). spell.angled spell.region_name rs ++ (spell.clauses rs f.clauses ++ (found rs ++ spell.function_ty f))) (sym is.0)
      ∙ ap (λ (l : List Outlives). names ++ (spell.clauses regions l ++ (found regions ++ spell.function_ty f))) (sym is.1)
      ∙ sym (append_assoc names (spell.clauses regions cs) (found regions ++ spell.function_ty f))

  behind_regions : Parses SignatureStands (read.behind_regions regions) names spell.signature
  unfolding read.behind_regions
  behind_regions = then clauses (λ cs _. behind_so (function_ty cs) (λ f is. is.2) (λ f is. signature_is cs f is (λ _. [])))

  closure_is : (cs : List Outlives) (ts : List Ty) (f : Signature) → IsOf cs f
      → spell.header (record { kind = Closure; captures = ts; signature = f }) ≡ (((spell.symbol s.Closure ++ names) ++ spell.clauses regions cs) ++ spell.bracketed regions ts) ++ spell.function_ty f
  closure_is cs ts f is =
      ap (λ (l : List Token). spell.symbol s.Closure ++ l) (signature_is cs f is (λ rs. spell.bracketed rs ts) ∙ sym (append_assoc (names ++ spell.clauses regions cs) (spell.bracketed regions ts) (spell.function_ty f)))

  closure_behind : Parses HeaderStands (read.closure_behind regions) (spell.symbol s.Closure ++ names) spell.header
  unfolding read.closure_behind
  closure_behind = then clauses (λ cs _. then captures (λ ts plain. then (function_ty cs) (λ f is. gives (record { kind = Closure; captures = ts; signature = f }) (plain, is.2) (closure_is cs ts f is))))

pub signature : (limit : ℕ) → Parses SignatureStands (read.signature limit) [] spell.signature
unfolding read.signature
signature limit = then (in_angles region_looks (new_region false) limit) (λ rs _. behind_regions rs)

function_header : Parses HeaderStands read.function_header (spell.symbol s.Fn) spell.header
unfolding read.function_header
function_header = made_so _ (signature 15) (λ f h. (All-nil IsPlain, h)) (λ f _. refl)

closure_header : Parses HeaderStands read.closure_header (spell.symbol s.Closure) spell.header
unfolding read.closure_header
closure_header = then (in_angles region_looks (new_region false) 15) (λ rs _. closure_behind rs)

header : Parses HeaderStands read.header [] spell.header
unfolding read.header
header = optional s.Fn function_header (then (expects s.Closure) (λ _ _. closure_header))

-- ---- units

module _ (regions : List RegionName) where
  declared_ty : (before : List Token) → Parses IsLet (read.declared_ty regions) before (λ (t : Ty). before ++ (spell.symbol s.Colon ++ (spell.ty regions t ++ spell.symbol s.Semicolon)))
  unfolding read.declared_ty
  declared_ty before = then (expects s.Colon) (λ _ _. then (let_type regions) (λ t h. then (expects s.Semicolon) (λ _ _.
      gives t h (sym (append_assoc before (spell.symbol s.Colon) (spell.ty regions t ++ spell.symbol s.Semicolon)) ∙ sym (append_assoc (before ++ spell.symbol s.Colon) (spell.ty regions t) (spell.symbol s.Semicolon))))))

  let_ty : (number : ℕ) → Parses IsLet (read.let_ty regions number) [] (λ (t : Ty). Numbered n.Local number ∷ (spell.symbol s.Colon ++ (spell.ty regions t ++ spell.symbol s.Semicolon)))
  unfolding read.let_ty
  let_ty number = checked (no_ty, tt) (numbered_one n.Local 255) (λ at l. tried at (l == number) (λ e. moved (ap (λ k. Numbered n.Local k ∷ []) (sym (eqb-true l number e))) (declared_ty (Numbered n.Local number ∷ []))))

  lets_more : (k m : ℕ) (found : List Ty) (t : Ty) → m ≡ k + length found → spell.lets regions k (found ++ t ∷ []) ≡ spell.lets regions k found ++ spell.declared regions m t
  lets_more k m [] t e = let is : m ≡ k = omega arith in append-nil (spell.declared regions k t) ∙ ap (λ j. spell.declared regions j t) (sym is)
  lets_more k m (c ∷ found) t e =
      let is : m ≡ (k + 1) + length found = omega arith in
      ap (λ (l : List Token). spell.declared regions k c ++ l) (lets_more (k + 1) m found t is) ∙ sym (append_assoc (spell.declared regions k c) (spell.lets regions (k + 1) found) (spell.declared regions m t))

  lets_from : (number room : ℕ) (found : List Ty) → All IsLet found → Parses (All IsLet) (read.lets_from regions number room found) (spell.lets regions number found) (spell.lets regions number)
  unfolding read.lets_from read.lets_turn
  lets_from number zero found all = refuses (found, all, [], sym (append-nil (spell.lets regions number found)))
  lets_from number (suc room) found all = optional s.Let (then (let_ty (number + length found)) (λ t h.
      moved (lets_more number (number + length found) found t refl ∙ sym (append_assoc (spell.lets regions number found) (spell.symbol s.Let) (Numbered n.Local (number + length found) ∷ (spell.symbol s.Colon ++ (spell.ty regions t ++ spell.symbol s.Semicolon))))) (lets_from number room (found ++ t ∷ []) (all_and IsLet found t all h)))) (gives found all refl)

body_is : (a b c d e : List Token) → a ++ (b ++ (c ++ (d ++ e))) ≡ ((((a ++ b) ++ c) ++ d) ++ e) ++ []
body_is a b c d e = sym (append_assoc a b (c ++ (d ++ e))) ∙ sym (append_assoc (a ++ b) c (d ++ e)) ∙ sym (append_assoc ((a ++ b) ++ c) d e) ∙ sym (append-nil ((((a ++ b) ++ c) ++ d) ++ e))

body_of : (h : Header) → HeaderStands h → Parses ClosuresStand (read.body_of h) (spell.header h) spell.unit
unfolding read.body_of
body_of h stands =
    then (expects s.OpenBrace) (λ _ _.
    then (lets_from h.signature.regions (first_let h) 256 [] (All-nil IsLet)) (λ ls all.
    then (blocks h.signature.regions (first_let h + length ls)) (λ bs _.
    then (expects s.CloseBrace) (λ _ _.
    then ends (λ _ _. gives (record { header = h; lets = ls; blocks = bs }) (stands, all) (body_is (spell.header h) (spell.symbol s.OpenBrace) (spell.lets h.signature.regions (first_let h) ls) (spell.blocks h.signature.regions 0 bs) (spell.symbol s.CloseBrace)))))))

pub unit : Parses ClosuresStand read.unit [] spell.unit
unfolding read.unit
unit = then header (λ h stands. body_of h stands)
