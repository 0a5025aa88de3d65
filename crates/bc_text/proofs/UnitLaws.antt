-- Tokens are read as a unit exactly if they spell it.
use Rattle.std.proofs.Common.{◌≡◌, ℕ, zero, suc, ◌+◌, ◌≤◌, true, false, cond, ◌&&◌, List, [], ◌∷◌, ◌++◌, length, Ok, Err, refl, sym, ap, ◌∙◌, subst, inl, inr, append_assoc, eqb, ltb, arith}
use Rattle.std.specs.Prelude.{Result}
use Rattle.std.specs.List.{list_all}
use Rattle.std.proofs.lemmas.List.{append-nil, length-append}
use Rattle.std.proofs.lemmas.Bool.{eqb-true, eq-eqb, ltb-false, le-ltb, le-leb, leb-true, and_from, and_parts}
use Rattle.bc_text.specs.declared.fault.ReadFault.TheVariants.{TooLong}
use Rattle.bc_tokens.specs.declared.refusal.Refusal.{Refusal}
use Rattle.bc_syntax.specs.declared.symbol.Symbol.TheVariants as s
use Rattle.bc_syntax.specs.declared.numbering.Numbering.TheVariants as n
use Rattle.bc_syntax.specs.declared.syntax.RegionName.{RegionName}
use Rattle.bc_syntax.specs.declared.syntax.Outlives.{Outlives}
use Rattle.bc_syntax.specs.declared.syntax.Ty.{Ty}
use Rattle.bc_syntax.specs.declared.syntax.UnitKind.{UnitKind}
use Rattle.bc_syntax.specs.declared.syntax.UnitKind.TheVariants.{Function, Closure}
use Rattle.bc_syntax.specs.declared.syntax.Block.{Block}
use Rattle.bc_syntax.specs.declared.syntax.Signature.{Signature}
use Rattle.bc_syntax.specs.declared.syntax.Header.{Header}
use Rattle.bc_syntax.specs.declared.syntax.Body.{Body}
use Rattle.bc_syntax.specs.Symbol.{same}
use Rattle.bc_syntax.specs.Locals.{declared_locals, first_let}
use Rattle.bc_syntax.specs.Fits.{signature_fits, kind_fits, header_fits, Fits, is_new, are_new, clause_fits, clauses_fit, parameters_fit, ty_fits, let_fits, block_fits, universal_count}
use Rattle.bc_syntax.proofs.Signatures.{signature_parts, header_parts}
use Rattle.bc_syntax.specs.Token.{Token, Fixed, Numbered, Word, Region, NotAscii, Stray, End}
use Rattle.bc_tokens.specs.Token.{Tokens, tokens}
use Rattle.bc_tokens.specs.Parser.{Outcome, Reads, and_then, sees, sees_region, after, is_end, at_end, numbered, position, expect, pure, fail, fault, declared_list}
use Rattle.bc_text.specs.Reading as read
use Rattle.bc_text.specs.Reading.{answer_of}
use Rattle.bc_syntax.specs.Spelling as spell
use Rattle.bc_text.specs.Spells as texts
use Rattle.bc_text.proofs.Begins.{Begins, join, split, bind_ok, ok_is, chosen, chosen_parser, eaten, eat_again, eat_other, expect_takes, expect_again, numbered_takes, numbered_again, sees_none, sees_numbered_none}
use Rattle.bc_text.proofs.NameLaws.{Declares, Anything, NoLess, universal_takes, universal_again, new_region_takes, new_region_again}
use Rattle.bc_text.proofs.TypeLaws.{ty_takes, ty_again, let_type_takes, let_type_again, parameters_take, parameters_again, captures_take, captures_again}
use Rattle.bc_text.proofs.Lists.{SpellsBeside, Spells, Closes, are_fitting, declared_list_takes, declared_list_again, opened_take, opened_again, opened_none}
use Rattle.bc_text.proofs.Ends.{IsText, tokens_are_text, within, ends_there, all_of_it, begins_whole}
use Rattle.bc_text.proofs.BlockLaws.{blocks_take, blocks_again}

-- ---- clauses

module _ (regions : List RegionName) (declares : Declares regions) where
  abbrev count : ℕ
  count = length regions + 1

  clause_takes : (ts : Tokens) (y : Outlives × Tokens) → read.clause regions ts ≡ Ok y → Begins ts (spell.clause regions y.0) y.1 × (clause_fits count y.0 ≡ true)
  unfolding read.clause
  clause_takes ts y e =
      let b = bind_ok (read.universal regions ts) (λ l rest. and_then (expect s.Colon rest) (λ _ mid. and_then (read.universal regions mid) (λ k last. Ok (record { longer = l; shorter = k }, last)))) y e in
      let c = bind_ok (expect s.Colon b.0.1) (λ _ mid. and_then (read.universal regions mid) (λ k last. Ok (record { longer = b.0.0; shorter = k }, last))) y b.2 in
      let d = bind_ok (read.universal regions c.0.1) (λ k last. Ok (record { longer = b.0.0; shorter = k }, last)) y c.2 in
      let l = universal_takes regions ts b.0 b.1 in
      let k = universal_takes regions c.0.1 d.0 d.1 in
      let tail = join b.0.1 (spell.symbol s.Colon) c.0.1 (spell.universal regions d.0.0) d.0.1 (expect_takes s.Colon b.0.1 c.0 c.1) k.0 in
      subst (λ (q : Outlives × Tokens). Begins ts (spell.clause regions q.0) q.1 × (clause_fits count q.0 ≡ true)) (ok_is (record { longer = b.0.0; shorter = d.0.0 }, d.0.1) y d.2)
      (join ts (spell.universal regions b.0.0) b.0.1 (spell.symbol s.Colon ++ spell.universal regions d.0.0) d.0.1 l.0 tail, and_from (ltb b.0.0 count) (ltb d.0.0 count) l.1 k.1)

  clause_again : (ts : Tokens) (x : Outlives) (rest : Tokens) → Begins ts (spell.clause regions x) rest → clause_fits count x ≡ true → Anything rest → read.clause regions ts ≡ Ok (x, rest)
  unfolding read.clause
  clause_again ts x rest b fits ends =
      let parts = and_parts (ltb x.longer count) (ltb x.shorter count) fits in
      let a = split ts (spell.universal regions x.longer) (spell.symbol s.Colon ++ spell.universal regions x.shorter) rest b in
      let c = split a.0 (spell.symbol s.Colon) (spell.universal regions x.shorter) rest a.2 in
      rw (universal_again regions ts x.longer a.0 declares a.1 parts.0, expect_again s.Colon a.0 c.0 c.1, universal_again regions c.0 x.shorter rest declares c.2 parts.1) refl

  clause_law : Spells (read.clause regions) (spell.clause regions) (clause_fits count) Anything
  clause_law = record { takes = clause_takes; again = clause_again }

  clauses_take : (ts : Tokens) (y : List Outlives × Tokens) → read.clauses regions ts ≡ Ok y → Begins ts (spell.clauses regions y.0) y.1 × (clauses_fit count y.0 ≡ true)
  unfolding read.clauses
  clauses_take ts y e =
      let P : List Outlives × Tokens → Type 0 = λ q. Begins ts (spell.clauses regions q.0) q.1 × (clauses_fit count q.0 ≡ true) in
      opened_take clause_law sees_region 32 s.Where ts y e P (refl, refl) (λ c cs rest text fit. (text, and_from (list_all (clause_fits count) (c ∷ cs)) _ fit.0 (le-leb (length (c ∷ cs)) 32 fit.1)))

  clauses_again : (ts : Tokens) (cs : List Outlives) (rest : Tokens) → Begins ts (spell.clauses regions cs) rest → clauses_fit count cs ≡ true → sees s.Where rest ≡ false → sees s.Comma rest ≡ false → read.clauses regions ts ≡ Ok (cs, rest)
  unfolding read.clauses
  clauses_again ts [] rest b fits other comma = opened_none clause_law sees_region 32 s.Where ts (rw b other) ∙ rw b refl
  clauses_again ts (c ∷ cs) rest b fits other comma =
      let parts = and_parts (list_all (clause_fits count) (c ∷ cs)) _ fits in
      opened_again clause_law sees_region 32 s.Where (record { comma_ends = λ ts x rest b. tt }) ts c cs rest b (parts.0, leb-true (length (c ∷ cs)) 32 parts.1) tt comma

  -- ---- signatures

  abbrev made : List Outlives → List Ty → Ty → Signature
  made clauses parameters result = record { regions = regions; clauses = clauses; parameters = parameters; result = result }

  -- the parameters and the result of a signature
  abbrev ty_of : Signature → List Token
  ty_of h = spell.parameters regions h.parameters ++ (spell.symbol s.Arrow ++ spell.ty regions h.result)

  pub record RestFits (h : Signature) : Type 0 where
    pub regions_are : h.regions ≡ regions
    pub clauses : clauses_fit count h.clauses ≡ true
    pub parameters : parameters_fit count h.parameters ≡ true
    pub result : ty_fits false count h.result ≡ true

  function_ty_takes : (cs : List Outlives) (ts : Tokens) (y : Signature × Tokens) → clauses_fit count cs ≡ true → read.function_ty regions cs ts ≡ Ok y → Begins ts (ty_of y.0) y.1 × (y.0.clauses ≡ cs) × RestFits y.0
  unfolding read.function_ty
  function_ty_takes cs ts y fit e =
      let c = bind_ok (read.parameters regions ts) (λ ps t2. and_then (expect s.Arrow t2) (λ _ t3. and_then (read.ty false regions t3) (λ r t4. Ok (made cs ps r, t4)))) y e in
      let d = bind_ok (expect s.Arrow c.0.1) (λ _ t3. and_then (read.ty false regions t3) (λ r t4. Ok (made cs c.0.0 r, t4))) y c.2 in
      let f = bind_ok (read.ty false regions d.0.1) (λ r t4. Ok (made cs c.0.0 r, t4)) y d.2 in
      let ps = parameters_take regions ts c.0 declares c.1 in
      let r = ty_takes false regions declares d.0.1 f.0 f.1 in
      let t2 = join c.0.1 (spell.symbol s.Arrow) d.0.1 (spell.ty regions f.0.0) f.0.1 (expect_takes s.Arrow c.0.1 d.0 d.1) r.0 in
      let whole = join ts (spell.parameters regions c.0.0) c.0.1 (spell.symbol s.Arrow ++ spell.ty regions f.0.0) f.0.1 ps.0 t2 in
      subst (λ (q : Signature × Tokens). Begins ts (ty_of q.0) q.1 × (q.0.clauses ≡ cs) × RestFits q.0) (ok_is (made cs c.0.0 f.0.0, f.0.1) y f.2)
      (whole, refl, record { regions_are = refl; clauses = fit; parameters = ps.1; result = r.1 })

  made_is : (h : Signature) → h.regions ≡ regions → made h.clauses h.parameters h.result ≡ h
  made_is h same_regions = ap (λ (rs : List RegionName). record { regions = rs; clauses = h.clauses; parameters = h.parameters; result = h.result }) (sym same_regions)

  function_ty_again : (ts : Tokens) (h : Signature) (rest : Tokens) → Begins ts (ty_of h) rest → RestFits h → NoLess rest → read.function_ty regions h.clauses ts ≡ Ok (h, rest)
  unfolding read.function_ty
  function_ty_again ts h rest b fits other =
      let c = split ts (spell.parameters regions h.parameters) (spell.symbol s.Arrow ++ spell.ty regions h.result) rest b in
      let d = split c.0 (spell.symbol s.Arrow) (spell.ty regions h.result) rest c.2 in
      rw (parameters_again regions ts h.parameters c.0 declares c.1 fits.parameters, expect_again s.Arrow c.0 d.0 d.1, ty_again false regions declares d.0 h.result rest d.2 fits.result other)
      (ap (λ (k : Signature). Ok (k, rest)) (made_is h fits.regions_are))

  -- what follows the declared regions
  abbrev rest_of : Signature → List Token
  rest_of h = spell.clauses regions h.clauses ++ ty_of h

  pub behind_regions_takes : (ts : Tokens) (y : Signature × Tokens) → read.behind_regions regions ts ≡ Ok y → Begins ts (rest_of y.0) y.1 × RestFits y.0
  unfolding read.behind_regions
  behind_regions_takes ts y e =
      let b = bind_ok (read.clauses regions ts) (λ cs rest. read.function_ty regions cs rest) y e in
      let cs = clauses_take ts b.0 b.1 in
      let f = function_ty_takes b.0.0 b.0.1 y cs.1 b.2 in
      let text : Begins ts (spell.clauses regions y.0.clauses) b.0.1 = subst (λ (l : List Outlives). Begins ts (spell.clauses regions l) b.0.1) (sym f.1) cs.0 in
      (join ts (spell.clauses regions y.0.clauses) b.0.1 (ty_of y.0) y.1 text f.0, f.2)

  pub behind_regions_again : (ts : Tokens) (h : Signature) (rest : Tokens) → Begins ts (rest_of h) rest → RestFits h → NoLess rest → read.behind_regions regions ts ≡ Ok (h, rest)
  unfolding read.behind_regions same
  behind_regions_again ts h rest b fits other =
      let a = split ts (spell.clauses regions h.clauses) (ty_of h) rest b in
      let tail = (spell.commas (spell.ty regions) h.parameters ++ spell.symbol s.CloseParen) ++ (spell.symbol s.Arrow ++ spell.ty regions h.result) in
      let no_where = sees_none s.Where a.0 (Fixed s.OpenParen) tail rest a.2 refl in
      let no_comma = sees_none s.Comma a.0 (Fixed s.OpenParen) tail rest a.2 refl in
      rw (clauses_again ts h.clauses a.0 a.1 fits.clauses no_where no_comma) (function_ty_again a.0 h rest a.2 fits other)

  -- ---- closures

  -- what follows the regions that a closure declares
  abbrev closure_rest_of : List Ty → Signature → List Token
  closure_rest_of ts h = spell.clauses regions h.clauses ++ (spell.bracketed regions ts ++ ty_of h)

  pub record ClosureFits (h : Header) : Type 0 where
    pub kind : h.kind ≡ Closure
    pub captures : parameters_fit count h.captures ≡ true
    pub signature : RestFits h.signature

  abbrev closure_of : List Ty → Signature → Header
  closure_of ts h = record { kind = Closure; captures = ts; signature = h }

  pub closure_behind_takes : (ts : Tokens) (y : Header × Tokens) → read.closure_behind regions ts ≡ Ok y → Begins ts (closure_rest_of y.0.captures y.0.signature) y.1 × ClosureFits y.0
  unfolding read.closure_behind
  closure_behind_takes ts y e =
      let b = bind_ok (read.clauses regions ts) (λ cs t1. and_then (read.captures regions t1) (λ xs t2. and_then (read.function_ty regions cs t2) (λ f t3. Ok (closure_of xs f, t3)))) y e in
      let c = bind_ok (read.captures regions b.0.1) (λ xs t2. and_then (read.function_ty regions b.0.0 t2) (λ f t3. Ok (closure_of xs f, t3))) y b.2 in
      let d = bind_ok (read.function_ty regions b.0.0 c.0.1) (λ f t3. Ok (closure_of c.0.0 f, t3)) y c.2 in
      let cs = clauses_take ts b.0 b.1 in
      let xs = captures_take regions b.0.1 c.0 declares c.1 in
      let f = function_ty_takes b.0.0 c.0.1 d.0 cs.1 d.1 in
      let text : Begins ts (spell.clauses regions d.0.0.clauses) b.0.1 = subst (λ (l : List Outlives). Begins ts (spell.clauses regions l) b.0.1) (sym f.1) cs.0 in
      let tail = join b.0.1 (spell.bracketed regions c.0.0) c.0.1 (ty_of d.0.0) d.0.1 xs.0 f.0 in
      subst (λ (q : Header × Tokens). Begins ts (closure_rest_of q.0.captures q.0.signature) q.1 × ClosureFits q.0) (ok_is (closure_of c.0.0 d.0.0, d.0.1) y d.2)
      (join ts (spell.clauses regions d.0.0.clauses) b.0.1 (spell.bracketed regions c.0.0 ++ ty_of d.0.0) d.0.1 text tail, record { kind = refl; captures = xs.1; signature = f.2 })

  pub closure_behind_again : (ts : Tokens) (xs : List Ty) (h : Signature) (rest : Tokens) → Begins ts (closure_rest_of xs h) rest → parameters_fit count xs ≡ true → RestFits h → NoLess rest → read.closure_behind regions ts ≡ Ok (closure_of xs h, rest)
  unfolding read.closure_behind same
  closure_behind_again ts xs h rest b captured fits other =
      let a = split ts (spell.clauses regions h.clauses) (spell.bracketed regions xs ++ ty_of h) rest b in
      let c = split a.0 (spell.bracketed regions xs) (ty_of h) rest a.2 in
      let tail = (spell.commas (spell.ty regions) xs ++ spell.symbol s.CloseBracket) ++ ty_of h in
      let no_where = sees_none s.Where a.0 (Fixed s.OpenBracket) tail rest a.2 refl in
      let no_comma = sees_none s.Comma a.0 (Fixed s.OpenBracket) tail rest a.2 refl in
      rw (clauses_again ts h.clauses a.0 a.1 fits.clauses no_where no_comma, captures_again regions a.0 xs c.0 declares c.1 captured, function_ty_again c.0 h rest c.2 fits other) refl

-- ---- regions that are declared

new_law : SpellsBeside read.new_region spell.region_name is_new Anything
new_law = record { takes = new_region_takes; again = λ found ts x rest b fits ends. new_region_again found ts x rest b fits }

names_apart : (x : RegionName) (l : List Token) (ts rest : Tokens) → Begins ts (spell.region_name x ++ l) rest → sees s.Greater ts ≡ false
names_apart x l ts rest b = sees_none s.Greater ts (Region x.bytes) l rest b refl

names_close : Closes spell.region_name Anything s.Greater
unfolding same
names_close = record {
  follows = record { comma_ends = λ ts x rest b. tt };
  close_ends = λ ts x rest b. tt;
  close_apart = refl;
  item_apart = names_apart;
}

fitting_is : (before names : List RegionName) → are_fitting is_new before names ≡ are_new before names
fitting_is before [] = refl
fitting_is before (x ∷ names) = ap (λ b. is_new before x && b) (fitting_is (before ++ x ∷ []) names)

-- a signature that fits, with at most the given number of regions
pub record SignatureIs (limit : ℕ) (h : Signature) : Type 0 where
  pub declares : Declares h.regions
  pub few : length h.regions ≤ limit
  pub behind : (d : Declares h.regions) → RestFits h.regions d h

signature_from : (limit : ℕ) (regions : List RegionName) (declares : Declares regions) (h : Signature) → length regions ≤ limit → RestFits regions declares h → SignatureIs limit h
signature_from limit regions declares h few fits =
    let is = fits.regions_are in
    record {
      declares = subst Declares (sym is) declares;
      few = subst (λ (rs : List RegionName). length rs ≤ limit) (sym is) few;
      behind = λ d. record {
        regions_are = refl;
        clauses = subst (λ (rs : List RegionName). clauses_fit (length rs + 1) h.clauses ≡ true) (sym is) fits.clauses;
        parameters = subst (λ (rs : List RegionName). parameters_fit (length rs + 1) h.parameters ≡ true) (sym is) fits.parameters;
        result = subst (λ (rs : List RegionName). ty_fits false (length rs + 1) h.result ≡ true) (sym is) fits.result;
      };
    }

pub signature_takes : (limit : ℕ) (ts : Tokens) (y : Signature × Tokens) → read.signature limit ts ≡ Ok y → Begins ts (spell.signature y.0) y.1 × SignatureIs limit y.0
unfolding read.signature
signature_takes limit ts y e =
    let b = bind_ok (declared_list sees_region read.new_region limit ts) (λ rs rest. read.behind_regions rs rest) y e in
    let list = declared_list_takes new_law sees_region limit ts b.0 b.1 in
    let declares : Declares b.0.0 = sym (fitting_is [] b.0.0) ∙ list.1.0 in
    let g = behind_regions_takes b.0.0 declares b.0.1 y b.2 in
    let whole = join ts (spell.angled spell.region_name b.0.0) b.0.1 (rest_of b.0.0 declares y.0) y.1 list.0 g.0 in (
      subst (λ (rs : List RegionName). Begins ts (spell.angled spell.region_name rs ++ (spell.clauses rs y.0.clauses ++ (spell.parameters rs y.0.parameters ++ (spell.symbol s.Arrow ++ spell.ty rs y.0.result)))) y.1) (sym g.1.regions_are) whole,
      signature_from limit b.0.0 declares y.0 list.1.1 g.1,
    )

no_less_from : (regions : List RegionName) (cs : List Outlives) (ps : List Ty) (l : List Token) (ts rest : Tokens) → Begins ts (spell.clauses regions cs ++ (spell.parameters regions ps ++ l)) rest → NoLess ts
unfolding same
no_less_from regions [] ps l ts rest b = sees_none s.Less ts (Fixed s.OpenParen) ((spell.commas (spell.ty regions) ps ++ spell.symbol s.CloseParen) ++ l) rest b refl
no_less_from regions (c ∷ cs) ps l ts rest b = sees_none s.Less ts (Fixed s.Where) (spell.commas (spell.clause regions) (c ∷ cs) ++ (spell.parameters regions ps ++ l)) rest b refl

-- what follows the declared regions does not begin with `<`
no_less : (h : Signature) (ts rest : Tokens) → Begins ts (spell.clauses h.regions h.clauses ++ (spell.parameters h.regions h.parameters ++ (spell.symbol s.Arrow ++ spell.ty h.regions h.result))) rest → NoLess ts
unfolding same
no_less h ts rest b = no_less_from h.regions h.clauses h.parameters (spell.symbol s.Arrow ++ spell.ty h.regions h.result) ts rest b

pub signature_again : (limit : ℕ) (ts : Tokens) (h : Signature) (rest : Tokens) → Begins ts (spell.signature h) rest → SignatureIs limit h → NoLess rest → read.signature limit ts ≡ Ok (h, rest)
unfolding read.signature
signature_again limit ts h rest b fits other =
    let tail = spell.clauses h.regions h.clauses ++ (spell.parameters h.regions h.parameters ++ (spell.symbol s.Arrow ++ spell.ty h.regions h.result)) in
    let a = split ts (spell.angled spell.region_name h.regions) tail rest b in
    rw (declared_list_again new_law sees_region limit names_close ts h.regions a.0 a.1 (fitting_is [] h.regions ∙ fits.declares, fits.few) (no_less h a.0 rest a.2))
    (behind_regions_again h.regions fits.declares a.0 h rest a.2 (fits.behind fits.declares) other)

pub signature_fit : (limit : ℕ) (h : Signature) → SignatureIs limit h → signature_fits limit h ≡ true
signature_fit limit h is =
    let g = is.behind is.declares in
    and_from _ _ (and_from _ _ (and_from _ _ (and_from (are_new [] h.regions) _ is.declares (le-leb (length h.regions) limit is.few)) g.clauses) g.parameters) g.result

pub signature_is : (limit : ℕ) (h : Signature) → signature_fits limit h ≡ true → SignatureIs limit h
signature_is limit h fits =
    let p = signature_parts limit h fits in
    record { declares = p.regions; few = p.few; behind = λ _. record { regions_are = refl; clauses = p.clauses; parameters = p.parameters; result = p.result } }

-- ---- headers

abbrev function_of : Signature → Header
function_of f = record { kind = Function; captures = []; signature = f }

-- a closure's header after `closure`
abbrev closure_rest : List Ty → Signature → List Token
closure_rest xs f = spell.signature_with (spell.bracketed f.regions xs) f

abbrev captures_fit : List Ty → Signature → Type 0
captures_fit xs f = parameters_fit (universal_count f) xs ≡ true

closure_header_takes : (ts : Tokens) (y : Header × Tokens) → read.closure_header ts ≡ Ok y → Begins ts (closure_rest y.0.captures y.0.signature) y.1 × (y.0.kind ≡ Closure) × captures_fit y.0.captures y.0.signature × SignatureIs 15 y.0.signature
unfolding read.closure_header
closure_header_takes ts y e =
    let b = bind_ok (declared_list sees_region read.new_region 15 ts) (λ rs rest. read.closure_behind rs rest) y e in
    let list = declared_list_takes new_law sees_region 15 ts b.0 b.1 in
    let declares : Declares b.0.0 = sym (fitting_is [] b.0.0) ∙ list.1.0 in
    let g = closure_behind_takes b.0.0 declares b.0.1 y b.2 in
    let f = y.0.signature in
    let whole = join ts (spell.angled spell.region_name b.0.0) b.0.1 (closure_rest_of b.0.0 declares y.0.captures f) y.1 list.0 g.0 in
    let is = g.1.signature.regions_are in (
      subst (λ (rs : List RegionName). Begins ts (spell.angled spell.region_name rs ++ (spell.clauses rs f.clauses ++ (spell.bracketed rs y.0.captures ++ (spell.parameters rs f.parameters ++ (spell.symbol s.Arrow ++ spell.ty rs f.result))))) y.1) (sym is) whole,
      g.1.kind,
      subst (λ (rs : List RegionName). parameters_fit (length rs + 1) y.0.captures ≡ true) (sym is) g.1.captures,
      signature_from 15 b.0.0 declares f list.1.1 g.1.signature,
    )

-- what follows the declared regions of a closure does not begin with `<`
no_less_closure : (regions : List RegionName) (cs : List Outlives) (xs : List Ty) (l : List Token) (ts rest : Tokens) → Begins ts (spell.clauses regions cs ++ (spell.bracketed regions xs ++ l)) rest → NoLess ts
unfolding same
no_less_closure regions [] xs l ts rest b = sees_none s.Less ts (Fixed s.OpenBracket) ((spell.commas (spell.ty regions) xs ++ spell.symbol s.CloseBracket) ++ l) rest b refl
no_less_closure regions (c ∷ cs) xs l ts rest b = sees_none s.Less ts (Fixed s.Where) (spell.commas (spell.clause regions) (c ∷ cs) ++ (spell.bracketed regions xs ++ l)) rest b refl

closure_header_again : (ts : Tokens) (xs : List Ty) (f : Signature) (rest : Tokens) → Begins ts (closure_rest xs f) rest → captures_fit xs f → SignatureIs 15 f → NoLess rest → read.closure_header ts ≡ Ok (record { kind = Closure; captures = xs; signature = f }, rest)
unfolding read.closure_header
closure_header_again ts xs f rest b captured fits other =
    let tail = spell.clauses f.regions f.clauses ++ (spell.bracketed f.regions xs ++ spell.function_ty f) in
    let a = split ts (spell.angled spell.region_name f.regions) tail rest b in
    rw (declared_list_again new_law sees_region 15 names_close ts f.regions a.0 a.1 (fitting_is [] f.regions ∙ fits.declares, fits.few) (no_less_closure f.regions f.clauses xs (spell.function_ty f) a.0 rest a.2))
    (closure_behind_again f.regions fits.declares a.0 xs f rest a.2 captured (fits.behind fits.declares) other)

-- the spelling of a header by its kind, and whether it fits
abbrev spelled_by : UnitKind → List Ty → Signature → List Token
spelled_by kind xs f = spell.symbol (spell.kind_word kind) ++ spell.signature_with (spell.captures_of kind f.regions xs) f

abbrev fits_by : UnitKind → List Ty → Signature → Type 0
fits_by kind xs f = kind_fits (universal_count f) kind xs && signature_fits 15 f ≡ true

header_takes : (ts : Tokens) (y : Header × Tokens) → read.header ts ≡ Ok y → Begins ts (spell.header y.0) y.1 × (header_fits y.0 ≡ true)
unfolding read.header read.function_header
header_takes ts y e =
    elim (eaten s.Fn (λ rest. and_then (read.signature 15 rest) (λ f last. Ok (function_of f, last))) (λ rest. and_then (expect s.Closure rest) (λ _ last. read.closure_header last)) ts y e) [
      | inl p ↦
          let c = bind_ok (read.signature 15 (after ts)) (λ f last. Ok (function_of f, last)) y p.1 in
          let g = signature_takes 15 (after ts) c.0 c.1 in
          subst (λ (q : Header × Tokens). Begins ts (spell.header q.0) q.1 × (header_fits q.0 ≡ true)) (ok_is (function_of c.0.0, c.0.1) y c.2)
          (join ts (spell.symbol s.Fn) (after ts) (spell.signature c.0.0) c.0.1 p.0 g.0, signature_fit 15 c.0.0 g.1)
      | inr p ↦
          let b = bind_ok (expect s.Closure ts) (λ _ last. read.closure_header last) y p.1 in
          let g = closure_header_takes b.0.1 y b.2 in
          let f = y.0.signature in
          let text = join ts (spell.symbol s.Closure) b.0.1 (closure_rest y.0.captures f) y.1 (expect_takes s.Closure ts b.0 b.1) g.0 in
          subst (λ (kind : UnitKind). Begins ts (spelled_by kind y.0.captures f) y.1 × fits_by kind y.0.captures f) (sym g.1) (text, and_from (parameters_fit (universal_count f) y.0.captures) (signature_fits 15 f) g.2 (signature_fit 15 f g.3))
    ]

header_by : (kind : UnitKind) (xs : List Ty) (f : Signature) (ts rest : Tokens) → Begins ts (spelled_by kind xs f) rest → kind_fits (universal_count f) kind xs ≡ true → SignatureIs 15 f → NoLess rest → read.header ts ≡ Ok (record { kind = kind; captures = xs; signature = f }, rest)
unfolding read.header read.function_header same
header_by Function [] f ts rest b captured fits other =
    let a = split ts (spell.symbol s.Fn) (spell.signature f) rest b in
    eat_again s.Fn _ _ ts a.0 a.1 ∙ rw (signature_again 15 a.0 f rest a.2 fits other) refl
header_by Function (x ∷ xs) f ts rest b captured fits other = absurd cc
header_by Closure xs f ts rest b captured fits other =
    let a = split ts (spell.symbol s.Closure) (closure_rest xs f) rest b in
    eat_other s.Fn _ _ ts (sees_none s.Fn ts (Fixed s.Closure) (closure_rest xs f) rest b refl)
    ∙ rw (expect_again s.Closure ts a.0 a.1) (closure_header_again a.0 xs f rest a.2 captured fits other)

header_again : (ts : Tokens) (h : Header) (rest : Tokens) → Begins ts (spell.header h) rest → header_fits h ≡ true → NoLess rest → read.header ts ≡ Ok (h, rest)
header_again ts h rest b fits other =
    let parts = header_parts h fits in
    header_by h.kind h.captures h.signature ts rest b parts.kind (signature_is 15 h.signature parts.signature_fits) other

-- ---- lets

module _ (regions : List RegionName) (declares : Declares regions) where
  abbrev ty_is : Ty → Type 0
  ty_is t = let_fits (length regions + 1) t ≡ true

  abbrev typed : Ty → List Token
  typed t = spell.symbol s.Colon ++ (spell.ty regions t ++ spell.symbol s.Semicolon)

  declared_takes : (ts : Tokens) (y : Ty × Tokens) → read.declared_ty regions ts ≡ Ok y → Begins ts (typed y.0) y.1 × ty_is y.0
  unfolding read.declared_ty
  declared_takes ts y e =
      let b = bind_ok (expect s.Colon ts) (λ _ rest. and_then (read.let_type regions rest) (λ t mid. and_then (expect s.Semicolon mid) (λ _ last. Ok (t, last)))) y e in
      let c = bind_ok (read.let_type regions b.0.1) (λ t mid. and_then (expect s.Semicolon mid) (λ _ last. Ok (t, last))) y b.2 in
      let d = bind_ok (expect s.Semicolon c.0.1) (λ _ last. Ok (c.0.0, last)) y c.2 in
      let t = let_type_takes regions declares b.0.1 c.0 c.1 in
      let tail = join b.0.1 (spell.ty regions c.0.0) c.0.1 (spell.symbol s.Semicolon) d.0.1 t.0 (expect_takes s.Semicolon c.0.1 d.0 d.1) in
      subst (λ (q : Ty × Tokens). Begins ts (typed q.0) q.1 × ty_is q.0) (ok_is (c.0.0, d.0.1) y d.2)
      (join ts (spell.symbol s.Colon) b.0.1 (spell.ty regions c.0.0 ++ spell.symbol s.Semicolon) d.0.1 (expect_takes s.Colon ts b.0 b.1) tail, t.1)

  declared_again : (ts : Tokens) (t : Ty) (rest : Tokens) → Begins ts (typed t) rest → ty_is t → read.declared_ty regions ts ≡ Ok (t, rest)
  unfolding read.declared_ty same
  declared_again ts t rest b fits =
      let a = split ts (spell.symbol s.Colon) (spell.ty regions t ++ spell.symbol s.Semicolon) rest b in
      let c = split a.0 (spell.ty regions t) (spell.symbol s.Semicolon) rest a.2 in
      rw (expect_again s.Colon ts a.0 a.1, let_type_again regions declares a.0 t c.0 c.1 fits (sees_none s.Less c.0 (Fixed s.Semicolon) [] rest c.2 refl), expect_again s.Semicolon c.0 rest c.2) refl

  let_takes : (number : ℕ) (ts : Tokens) (y : Ty × Tokens) → read.let_ty regions number ts ≡ Ok y → Begins ts (Numbered n.Local number ∷ typed y.0) y.1 × ty_is y.0 × (number ≤ 255)
  unfolding read.let_ty
  let_takes number ts y e =
      let b = bind_ok (numbered n.Local 255 ts) (λ l. cond (eqb l number) (read.declared_ty regions) (fail (position ts))) y e in
      let t = numbered_takes n.Local 255 ts b.0 b.1 in
      elim (chosen_parser (eqb b.0.0 number) (read.declared_ty regions) (fail (position ts)) b.0.1 y b.2) [
        | inl p ↦
            let is : b.0.0 ≡ number = eqb-true b.0.0 number p.0 in
            let d = declared_takes b.0.1 y p.1 in
            let local : Begins ts (Numbered n.Local number ∷ []) b.0.1 = subst (λ k. Begins ts (Numbered n.Local k ∷ []) b.0.1) is t.0 in
            (join ts (Numbered n.Local number ∷ []) b.0.1 (typed y.0) y.1 local d.0, d.1, subst (λ k. k ≤ 255) is t.1)
        | inr p ↦ let bad = p.1 in absurd cc
      ]

  let_again : (number : ℕ) (ts : Tokens) (t : Ty) (rest : Tokens) → Begins ts (Numbered n.Local number ∷ typed t) rest → ty_is t → number ≤ 255 → read.let_ty regions number ts ≡ Ok (t, rest)
  unfolding read.let_ty
  let_again number ts t rest b fits le =
      let a = split ts (Numbered n.Local number ∷ []) (typed t) rest b in
      rw (numbered_again n.Local 255 ts number a.0 a.1 le, eq-eqb number number refl) (declared_again a.0 t rest a.2 fits)

  abbrev LetsGoOn : ℕ → List Ty → Tokens → List Ty × Tokens → Type 0
  LetsGoOn number found ts y = (more : List Ty) × (y.0 ≡ found ++ more) × Begins ts (spell.lets regions (number + length found) more) y.1 × (list_all (let_fits (length regions + 1)) more ≡ true) × (number + length found + length more ≤ 256)

  lets_take : (number room : ℕ) (found : List Ty) (ts : Tokens) (y : List Ty × Tokens) → number + length found ≤ 256 → read.lets_from regions number room found ts ≡ Ok y → LetsGoOn number found ts y
  unfolding read.lets_from read.lets_turn
  lets_take number zero found ts y few e = absurd cc
  lets_take number (suc room) found ts y few e =
      elim (eaten s.Let (λ rest. and_then (read.let_ty regions (number + length found) rest) (λ t last. read.lets_from regions number room (found ++ t ∷ []) last)) (pure found) ts y e) [
        | inl p ↦
            let b = bind_ok (read.let_ty regions (number + length found) (after ts)) (λ t last. read.lets_from regions number room (found ++ t ∷ []) last) y p.1 in
            let t = let_takes (number + length found) (after ts) b.0 b.1 in
            let one_more : number + length (found ++ b.0.0 ∷ []) ≡ number + length found + 1 = omega (arith, length-append found (b.0.0 ∷ [])) in
            let more = lets_take number room (found ++ b.0.0 ∷ []) b.0.1 y (omega (arith, t.2)) b.2 in
            let rest : Begins b.0.1 (spell.lets regions (number + length found + 1) more.0) y.1 = subst (λ k. Begins b.0.1 (spell.lets regions k more.0) y.1) one_more more.2 in
            let head = join ts (spell.symbol s.Let) (after ts) (Numbered n.Local (number + length found) ∷ typed b.0.0) b.0.1 p.0 t.0 in (
              b.0.0 ∷ more.0,
              more.1 ∙ append_assoc found (b.0.0 ∷ []) more.0,
              join ts (spell.declared regions (number + length found) b.0.0) b.0.1 (spell.lets regions (number + length found + 1) more.0) y.1 head rest,
              and_from (let_fits (length regions + 1) b.0.0) _ t.1 more.3,
              omega (arith, one_more, more.4),
            )
        | inr p ↦
            subst (λ (q : List Ty × Tokens). LetsGoOn number found ts q) (ok_is (found, ts) y p.1) ([], sym (append-nil found), refl, refl, omega arith)
      ]

  lets_again : (number room : ℕ) (found more : List Ty) (ts rest : Tokens) → Begins ts (spell.lets regions (number + length found) more) rest → list_all (let_fits (length regions + 1)) more ≡ true → number + length found + length more ≤ 256 → length more + 1 ≤ room
      → sees s.Let rest ≡ false → read.lets_from regions number room found ts ≡ Ok (found ++ more, rest)
  unfolding read.lets_from read.lets_turn
  lets_again number zero found more ts rest b fits few le other = absurd (omega arith)
  lets_again number (suc room) found [] ts rest b fits few le other = rw (append-nil found, b) (eat_other s.Let _ (pure found) rest other)
  lets_again number (suc room) found (t ∷ more) ts rest b fits few le other =
      let a = split ts (spell.declared regions (number + length found) t) (spell.lets regions (number + length found + 1) more) rest b in
      let c = split ts (spell.symbol s.Let) (Numbered n.Local (number + length found) ∷ typed t) a.0 a.1 in
      let parts = and_parts (let_fits (length regions + 1) t) _ fits in
      let one_more : number + length (found ++ t ∷ []) ≡ number + length found + 1 = omega (arith, length-append found (t ∷ [])) in
      let small : number + length found ≤ 255 = omega arith in
      let text : Begins a.0 (spell.lets regions (number + length (found ++ t ∷ [])) more) rest = subst (λ k. Begins a.0 (spell.lets regions k more) rest) (sym one_more) a.2 in
      let few2 : number + length (found ++ t ∷ []) + length more ≤ 256 = omega (arith, one_more) in
      let le2 : length more + 1 ≤ room = omega arith in
      eat_again s.Let _ (pure found) ts c.0 c.1
      ∙ ap (λ o. and_then o (λ z last. read.lets_from regions number room (found ++ z ∷ []) last)) (let_again (number + length found) c.0 t a.0 c.2 parts.0 small)
      ∙ lets_again number room (found ++ t ∷ []) more a.0 rest text parts.1 few2 le2 other
      ∙ rw (append_assoc found (t ∷ []) more) refl

-- ---- the end

is_end-true : (token : Token) → is_end token ≡ true → token ≡ End
is_end-true End e = refl
is_end-true (Fixed symbol) e = absurd cc
is_end-true (Numbered k m) e = absurd cc
is_end-true (Word name) e = absurd cc
is_end-true (Region name) e = absurd cc
is_end-true NotAscii e = absurd cc
is_end-true Stray e = absurd cc

pub end_takes : (ts : Tokens) (y : Unit {0} × Tokens) → at_end ts ≡ Ok y → Begins ts (End ∷ []) (after y.1)
unfolding at_end
end_takes [] y e = absurd cc
end_takes (t ∷ ts) y e =
    elim (chosen (is_end t.token) (Ok (tt, t ∷ ts)) (Err (fault (t ∷ ts))) (Ok y) e) [
      | inl p ↦ (is_end-true t.token p.0, ap (λ (q : Unit {0} × Tokens). after q.1) (ok_is (tt, t ∷ ts) y p.1))
      | inr p ↦ let bad = p.1 in absurd cc
    ]

pub end_again : (ts rest : Tokens) → Begins ts (End ∷ []) rest → at_end ts ≡ Ok (tt, ts)
unfolding at_end
end_again [] rest p = absurd p
end_again (t ∷ ts) rest p = rw (ap is_end p.0) refl

abbrev pub closing : List Token
closing = Fixed s.CloseBrace ∷ (End ∷ [])

-- ---- bodies

abbrev pub body_tokens : Body → List Token
body_tokens u = spell.symbol s.OpenBrace ++ (spell.lets u.header.signature.regions (first_let u.header) u.lets ++ (spell.blocks u.header.signature.regions 0 u.blocks ++ closing))

abbrev pub whole_tokens : Body → List Token
whole_tokens u = spell.header u.header ++ body_tokens u

abbrev made_of : Header → List Ty → List Block → Body
made_of h ls bs = record { header = h; lets = ls; blocks = bs }

plus-zero : (k : ℕ) → k + 0 ≡ k
plus-zero k = omega arith

locals_are : (h : Header) (ls : List Ty) → first_let h + length ls ≡ length (declared_locals h ++ ls)
locals_are h ls = omega (arith, length-append (declared_locals h) ls)

body_takes : (h : Header) (ts : Tokens) (y : Body × Tokens) → header_fits h ≡ true → read.body_of h ts ≡ Ok y → (y.0.header ≡ h) × Begins ts (body_tokens y.0) (after y.1) × Fits y.0
unfolding read.body_of
body_takes h ts y fits e =
    let head = header_parts h fits in
    let parts = head.signature in
    let locals : List Ty → ℕ = λ ls. first_let h + length ls in
    let b = bind_ok (expect s.OpenBrace ts) (λ _ t2. and_then (read.lets_from h.signature.regions (first_let h) 256 [] t2) (λ ls t3. and_then (read.blocks h.signature.regions (first_let h + length ls) t3) (λ bs t4. and_then (expect s.CloseBrace t4) (λ _ t5. and_then (at_end t5) (λ _ t6. Ok (made_of h ls bs, t6)))))) y e in
    let c = bind_ok (read.lets_from h.signature.regions (first_let h) 256 [] b.0.1) (λ ls t3. and_then (read.blocks h.signature.regions (first_let h + length ls) t3) (λ bs t4. and_then (expect s.CloseBrace t4) (λ _ t5. and_then (at_end t5) (λ _ t6. Ok (made_of h ls bs, t6))))) y b.2 in
    let ls = c.0.0 in
    let d = bind_ok (read.blocks h.signature.regions (first_let h + length ls) c.0.1) (λ bs t4. and_then (expect s.CloseBrace t4) (λ _ t5. and_then (at_end t5) (λ _ t6. Ok (made_of h ls bs, t6)))) y c.2 in
    let bs = d.0.0 in
    let f = bind_ok (expect s.CloseBrace d.0.1) (λ _ t5. and_then (at_end t5) (λ _ t6. Ok (made_of h ls bs, t6))) y d.2 in
    let g = bind_ok (at_end f.0.1) (λ _ t6. Ok (made_of h ls bs, t6)) y f.2 in
    let parameters = and_parts (list_all (ty_fits false (length h.signature.regions + 1)) h.signature.parameters) _ parts.parameters in
    let few_parameters = leb-true (length h.signature.parameters) 16 parameters.1 in
    let captures = and_parts (list_all (ty_fits false (length h.signature.regions + 1)) h.captures) _ head.captures in
    let few_captured = leb-true (length h.captures) 16 captures.1 in
    let few : first_let h + 0 ≤ 256 = omega (arith, few_parameters, few_captured, length-append h.captures h.signature.parameters) in
    let let_part = lets_take h.signature.regions parts.regions (first_let h) 256 [] b.0.1 c.0 few c.1 in
    let let_text : Begins b.0.1 (spell.lets h.signature.regions (first_let h) ls) c.0.1 = subst (λ (l : List Ty). Begins b.0.1 (spell.lets h.signature.regions (first_let h) l) c.0.1) (sym let_part.1) (subst (λ k. Begins b.0.1 (spell.lets h.signature.regions k let_part.0) c.0.1) (plus-zero (first_let h)) let_part.2) in
    let let_fits : list_all (let_fits (length h.signature.regions + 1)) ls ≡ true = subst (λ (l : List Ty). list_all (let_fits (length h.signature.regions + 1)) l ≡ true) (sym let_part.1) let_part.3 in
    let count : first_let h + length ls ≤ 256 = subst (λ (l : List Ty). first_let h + length l ≤ 256) (sym let_part.1) (omega (arith, let_part.4)) in
    let block_part = blocks_take h.signature.regions parts.regions (first_let h + length ls) count c.0.1 d.0 d.1 in
    let end = join d.0.1 (spell.symbol s.CloseBrace) f.0.1 (End ∷ []) (after g.0.1) (expect_takes s.CloseBrace d.0.1 f.0 f.1) (end_takes f.0.1 g.0 g.1) in
    let t3 = join c.0.1 (spell.blocks h.signature.regions 0 bs) d.0.1 closing (after g.0.1) block_part.0 end in
    let t2 = join b.0.1 (spell.lets h.signature.regions (first_let h) ls) c.0.1 (spell.blocks h.signature.regions 0 bs ++ closing) (after g.0.1) let_text t3 in
    let whole = join ts (spell.symbol s.OpenBrace) b.0.1 (spell.lets h.signature.regions (first_let h) ls ++ (spell.blocks h.signature.regions 0 bs ++ closing)) (after g.0.1) (expect_takes s.OpenBrace ts b.0 b.1) t2 in
    subst (λ (q : Body × Tokens). (q.0.header ≡ h) × Begins ts (body_tokens q.0) (after q.1) × Fits q.0) (ok_is (made_of h ls bs, g.0.1) y g.2) (
      refl,
      whole,
      record {
        header = fits;
        lets = let_fits;
        locals = subst (λ k. k ≤ 256) (locals_are h ls) count;
        some_block = block_part.4;
        few_blocks = block_part.3;
        points = block_part.2;
        blocks = subst (λ k. list_all (block_fits (length h.signature.regions + 1) k) bs ≡ true) (locals_are h ls) block_part.1;
      },
    )

-- blocks do not begin with `let`
no_let_before : (regions : List RegionName) (bs : List Block) → 1 ≤ length bs → (l : List Token) (ts rest : Tokens) → Begins ts (spell.blocks regions 0 bs ++ l) rest → sees s.Let ts ≡ false
no_let_before regions [] some l ts rest b = absurd (omega arith)
no_let_before regions (x ∷ bs) some l ts rest b = sees_none s.Let ts (Numbered n.Label 0) ((spell.braced regions x ++ spell.blocks regions 1 bs) ++ l) rest b refl

body_again : (ts : Tokens) (u : Body) (rest : Tokens) → Begins ts (body_tokens u) rest → Fits u → (last : Tokens) × (read.body_of u.header ts ≡ Ok (u, last))
unfolding read.body_of same
body_again ts u rest p fits =
    let h = u.header in
    let declares = (header_parts h fits.header).signature.regions in
    let b = split ts (spell.symbol s.OpenBrace) (spell.lets h.signature.regions (first_let h) u.lets ++ (spell.blocks h.signature.regions 0 u.blocks ++ closing)) rest p in
    let c = split b.0 (spell.lets h.signature.regions (first_let h) u.lets) (spell.blocks h.signature.regions 0 u.blocks ++ closing) rest b.2 in
    let d = split c.0 (spell.blocks h.signature.regions 0 u.blocks) closing rest c.2 in
    let f = split d.0 (spell.symbol s.CloseBrace) (End ∷ []) rest d.2 in
    let same_count = locals_are h u.lets in
    let count : first_let h + length u.lets ≤ 256 = subst (λ k. k ≤ 256) (sym same_count) fits.locals in
    let block_fit : list_all (block_fits (length h.signature.regions + 1) (first_let h + length u.lets)) u.blocks ≡ true = subst (λ k. list_all (block_fits (length h.signature.regions + 1) k) u.blocks ≡ true) (sym same_count) fits.blocks in
    let text : Begins b.0 (spell.lets h.signature.regions (first_let h + 0) u.lets) c.0 = subst (λ k. Begins b.0 (spell.lets h.signature.regions k u.lets) c.0) (sym (plus-zero (first_let h))) c.1 in
    let few : first_let h + 0 + length u.lets ≤ 256 = omega (arith, count) in
    let room : length u.lets + 1 ≤ 256 = omega (arith, count) in
    let no_let = no_let_before u.header.signature.regions u.blocks fits.some_block closing c.0 rest c.2 in
    let no_label = sees_numbered_none n.Label d.0 (Fixed s.CloseBrace) (End ∷ []) rest d.2 refl in (
      f.0,
      rw (
        expect_again s.OpenBrace ts b.0 b.1,
        lets_again h.signature.regions declares (first_let h) 256 [] u.lets b.0 c.0 text fits.lets few room no_let,
        blocks_again h.signature.regions declares (first_let h + length u.lets) count c.0 u.blocks d.0 d.1 block_fit fits.points fits.few_blocks fits.some_block no_label,
        expect_again s.CloseBrace d.0 f.0 f.1,
        end_again f.0 rest f.2,
      ) refl,
    )

-- ---- units

unit_takes : (ts : Tokens) (y : Body × Tokens) → read.unit ts ≡ Ok y → Begins ts (whole_tokens y.0) (after y.1) × Fits y.0
unfolding read.unit
unit_takes ts y e =
    let a = bind_ok (read.header ts) (λ h rest. read.body_of h rest) y e in
    let head = header_takes ts a.0 a.1 in
    let body = body_takes a.0.0 a.0.1 y head.1 a.2 in
    let text : Begins ts (spell.header y.0.header) a.0.1 = subst (λ (h : Header). Begins ts (spell.header h) a.0.1) (sym body.0) head.0 in
    (join ts (spell.header y.0.header) a.0.1 (body_tokens y.0) (after y.1) text body.1, body.2)

pub unit_again : (ts : Tokens) (u : Body) (rest : Tokens) → Begins ts (whole_tokens u) rest → Fits u → (last : Tokens) × (read.unit ts ≡ Ok (u, last))
unfolding read.unit same
unit_again ts u rest p fits =
    let a = split ts (spell.header u.header) (body_tokens u) rest p in
    let brace = sees_none s.Less a.0 (Fixed s.OpenBrace) (spell.lets u.header.signature.regions (first_let u.header) u.lets ++ (spell.blocks u.header.signature.regions 0 u.blocks ++ closing)) rest a.2 refl in
    let body = body_again a.0 u rest a.2 fits in
    (body.0, rw (header_again ts u.header a.0 a.1 fits.header brace) body.1)

-- a unit that is read fits
pub body_fits : (ts later : Tokens) (r : Result Body Refusal) (u : Body) → Reads (read.unit ts) r later → r ≡ Ok u → Fits u
body_fits ts later (Ok b) u reads e =
    let same_body : b ≡ u = cc in
    subst Fits same_body (unit_takes ts (b, later) reads).1
body_fits ts later (Err f) u reads e = absurd cc

-- ---- texts

pub answer_Ok : {A : Type 0} (outcome : Outcome A) (x : A) → answer_of outcome ≡ Ok x → (rest : Tokens) × (outcome ≡ Ok (x, rest))
answer_Ok (Ok p) x e = let is : p.0 ≡ x = cc in (p.1, ap (λ z. Ok (z, p.1)) is)
answer_Ok (Err d) x e = absurd cc

-- the whole spelling, and then the end
pub closed : (u : Body) → whole_tokens u ≡ spell.unit u ++ End ∷ []
closed u = simp append_assoc

whole_unit : (ts : Tokens) (u : Body) (rest : Tokens) → IsText ts → Begins ts (spell.unit u ++ End ∷ []) rest → rest ≡ []
whole_unit ts u rest text p =
    let c = within ts (spell.unit u) End [] rest text p in
    ends_there c.0 rest c.1 c.2

-- a text spells the unit that is read from it
pub read_found : (bytes : List ℕ) (u : Body) → read.read bytes ≡ Ok u → texts.Spells bytes u × Fits u
unfolding read.read read.read_whole
read_found bytes u e =
    elim (chosen (ltb 1048576 (length bytes)) (Err TooLong) (answer_of (read.unit (tokens 0 0 bytes))) (Ok u) e) [
      | inl p ↦ let bad = p.1 in absurd cc
      | inr p ↦
          let r = answer_Ok (read.unit (tokens 0 0 bytes)) u p.1 in
          let t = unit_takes (tokens 0 0 bytes) (u, r.0) r.1 in
          let text : Begins (tokens 0 0 bytes) (spell.unit u ++ End ∷ []) (after r.0) = subst (λ (l : List Token). Begins (tokens 0 0 bytes) l (after r.0)) (closed u) t.0 in
          let none = whole_unit (tokens 0 0 bytes) u (after r.0) (tokens_are_text 0 0 bytes) text in
          ((ltb-false 1048576 (length bytes) p.0, all_of_it (tokens 0 0 bytes) (spell.unit u ++ End ∷ []) (subst (λ (l : Tokens). Begins (tokens 0 0 bytes) (spell.unit u ++ End ∷ []) l) none text)), t.1)
    ]

-- a text that spells a unit is read as it
pub read_only : (bytes : List ℕ) (u : Body) → texts.Spells bytes u → Fits u → read.read bytes ≡ Ok u
unfolding read.read read.read_whole
read_only bytes u spells fits =
    let text = begins_whole (tokens 0 0 bytes) (spell.unit u ++ End ∷ []) spells.1 in
    let r = unit_again (tokens 0 0 bytes) u [] (subst (λ (l : List Token). Begins (tokens 0 0 bytes) l []) (sym (closed u)) text) fits in
    rw (le-ltb 1048576 (length bytes) spells.0, r.1) refl
