-- Tokens are read as a type exactly if they spell it.
use Rattle.std.proofs.Common.{◌≡◌, ℕ, zero, suc, ◌+◌, ◌≤◌, Bool, true, false, List, [], ◌∷◌, ◌++◌, length, Ok, refl, sym, ap, ◌∙◌, subst, inl, inr, append_assoc, arith}
use Rattle.std.specs.List.{flat_map, list_all}
use Rattle.std.proofs.lemmas.Bool.{cases_Bool, and_from, and_parts, leb-true, le-leb}
use Rattle.std.proofs.lemmas.List.{append-nil}
use Rattle.bc_syntax.specs.declared.symbol.Symbol.{Symbol}
use Rattle.bc_syntax.specs.declared.symbol.Symbol.TheVariants as s
use Rattle.bc_syntax.specs.declared.syntax.RegionName.{RegionName}
use Rattle.bc_syntax.specs.declared.syntax.Mutability.{Mutability}
use Rattle.bc_syntax.specs.declared.syntax.Mutability.TheVariants.{Shared, Mutable}
use Rattle.bc_syntax.specs.declared.syntax.Reference.{Reference}
use Rattle.bc_syntax.specs.declared.syntax.Base.{Base}
use Rattle.bc_syntax.specs.declared.syntax.Base.TheVariants as bases
use Rattle.bc_syntax.specs.declared.syntax.Ty.{Ty}
use Rattle.bc_syntax.specs.Symbol.{same}
use Rattle.bc_syntax.specs.Fits.{reference_fits, base_fits, ty_fits, whole_closure_fits, let_fits, parameters_fit}
use Rattle.bc_syntax.specs.Token.{Token, Fixed, Word}
use Rattle.bc_tokens.specs.Token.{Tokens}
use Rattle.bc_tokens.specs.Parser.{and_then, sees, is_fixed, after, expect, pure, closed_list}
use Rattle.bc_text.specs.Reading as read
use Rattle.bc_syntax.specs.Spelling as spell
use Rattle.bc_text.proofs.Begins.{Begins, join, split, bind_ok, ok_is, eaten, eat_again, eat_other, expect_takes, expect_again, sees_none, no_value}
use Rattle.bc_text.proofs.NameLaws.{Declares, NoLess, region_takes, region_again, instance_takes, instance_again, closure_takes, closure_again}
use Rattle.bc_text.proofs.Lists.{Spells, Closes, list_takes, list_again}

-- ---- references

mutability_takes : (ts : Tokens) (y : Mutability × Tokens) → read.mutability ts ≡ Ok y → Begins ts (spell.mutability y.0) y.1
unfolding read.mutability
mutability_takes ts y e =
    elim (eaten s.Mut (λ rest. Ok (Mutable, rest)) (λ rest. Ok (Shared, rest)) ts y e) [
      | inl p ↦ subst (λ (q : Mutability × Tokens). Begins ts (spell.mutability q.0) q.1) (ok_is (Mutable, after ts) y p.1) p.0
      | inr p ↦ subst (λ (q : Mutability × Tokens). Begins ts (spell.mutability q.0) q.1) (ok_is (Shared, ts) y p.1) refl
    ]

mutability_again : (ts : Tokens) (m : Mutability) (rest : Tokens) → Begins ts (spell.mutability m) rest → sees s.Mut rest ≡ false → read.mutability ts ≡ Ok (m, rest)
unfolding read.mutability
mutability_again ts Shared rest p other = rw p (eat_other s.Mut _ _ rest other)
mutability_again ts Mutable rest p other = eat_again s.Mut _ _ ts rest p

module _ (variables : Bool) (regions : List RegionName) (declares : Declares regions) where
  abbrev count : ℕ
  count = length regions + 1

  pub reference_takes : (ts : Tokens) (y : Reference × Tokens) → read.reference variables regions ts ≡ Ok y → Begins ts (spell.reference regions y.0) y.1 × (reference_fits variables count y.0 ≡ true)
  unfolding read.reference
  reference_takes ts y e =
      let b = bind_ok (read.region variables regions ts) (λ r rest. and_then (read.mutability rest) (λ m last. Ok (record { region = r; mutability = m }, last))) y e in
      let c = bind_ok (read.mutability b.0.1) (λ m last. Ok (record { region = b.0.0; mutability = m }, last)) y b.2 in
      let r = region_takes variables regions ts b.0 b.1 in
      let m = mutability_takes b.0.1 c.0 c.1 in
      subst (λ (q : Reference × Tokens). Begins ts (spell.reference regions q.0) q.1 × (reference_fits variables count q.0 ≡ true)) (ok_is (record { region = b.0.0; mutability = c.0.0 }, c.0.1) y c.2)
      (join ts (spell.region regions b.0.0) b.0.1 (spell.mutability c.0.0) c.0.1 r.0 m, r.1)

  pub reference_again : (ts : Tokens) (r : Reference) (rest : Tokens) → Begins ts (spell.reference regions r) rest → reference_fits variables count r ≡ true → sees s.Mut rest ≡ false → read.reference variables regions ts ≡ Ok (r, rest)
  unfolding read.reference
  reference_again ts r rest p fits other =
      let a = split ts (spell.region regions r.region) (spell.mutability r.mutability) rest p in
      rw (region_again variables regions ts r.region a.0 declares a.1 fits, mutability_again a.0 r.mutability rest a.2 other) refl

  -- ---- bases

  base_takes : (ts : Tokens) (y : Base × Tokens) → read.base variables regions ts ≡ Ok y → Begins ts (spell.base regions y.0) y.1 × (base_fits variables count y.0 ≡ true)
  unfolding read.base
  base_takes ts y e =
      elim (eaten s.Int (pure bases.Int) (λ rest. and_then (read.instance variables regions rest) (λ i last. Ok (bases.Struct i, last))) ts y e) [
        | inl p ↦ subst (λ (q : Base × Tokens). Begins ts (spell.base regions q.0) q.1 × (base_fits variables count q.0 ≡ true)) (ok_is (bases.Int, after ts) y p.1) (p.0, refl)
        | inr p ↦
            let b = bind_ok (read.instance variables regions ts) (λ i last. Ok (bases.Struct i, last)) y p.1 in
            subst (λ (q : Base × Tokens). Begins ts (spell.base regions q.0) q.1 × (base_fits variables count q.0 ≡ true)) (ok_is (bases.Struct b.0.0, b.0.1) y b.2) (instance_takes variables regions ts b.0 declares b.1)
      ]

  base_again : (ts : Tokens) (x : Base) (rest : Tokens) → Begins ts (spell.base regions x) rest → base_fits variables count x ≡ true → NoLess rest → read.base variables regions ts ≡ Ok (x, rest)
  unfolding read.base same
  base_again ts bases.Int rest p fits other = eat_again s.Int (pure bases.Int) _ ts rest p
  base_again ts (bases.Struct i) rest p fits other =
      eat_other s.Int (pure bases.Int) _ ts (sees_none s.Int ts (Word i.name.bytes) (spell.angled (spell.region regions) i.regions) rest p refl)
      ∙ rw (instance_again variables regions ts i rest declares p fits other) refl
  base_again ts (bases.Closure c) rest p fits other = absurd cc

  -- ---- types

  -- what is taken of a type after the references that were found
  abbrev GoesOn : ℕ → List Reference → Tokens → Ty × Tokens → Type 0
  GoesOn room found ts y = (more : List Reference) × (y.0.references ≡ found ++ more) × Begins ts (flat_map (spell.behind regions) more ++ spell.base regions y.0.base) y.1 × (list_all (reference_fits variables count) more ≡ true) × (length more + 1 ≤ room)
      × (base_fits variables count y.0.base ≡ true)

  ended : (room : ℕ) (found : List Reference) (ts : Tokens) (y : Ty × Tokens) → and_then (read.base variables regions ts) (λ b last. Ok (read.behind found b, last)) ≡ Ok y → GoesOn (suc room) found ts y
  ended room found ts y e =
      let b = bind_ok (read.base variables regions ts) (λ x last. Ok (read.behind found x, last)) y e in
      let t = base_takes ts b.0 b.1 in
      subst (λ (q : Ty × Tokens). GoesOn (suc room) found ts q) (ok_is (read.behind found b.0.0, b.0.1) y b.2)
      ([], sym (append-nil found), t.0, refl, omega arith, t.1)

  ty_from_takes : (room : ℕ) (found : List Reference) (ts : Tokens) (y : Ty × Tokens) → read.ty_from variables regions room found ts ≡ Ok y → GoesOn room found ts y
  unfolding read.ty_from read.ty_turn
  ty_from_takes zero found ts y e = absurd (no_value (read.begins_ty ts) _ _ y e)
  ty_from_takes (suc room) found ts y e =
      elim (eaten s.Ampersand (λ rest. and_then (read.reference variables regions rest) (λ r last. read.ty_from variables regions room (found ++ r ∷ []) last)) (λ rest. and_then (read.base variables regions rest) (λ b last. Ok (read.behind found b, last))) ts y e) [
        | inl p ↦
            let b = bind_ok (read.reference variables regions (after ts)) (λ r last. read.ty_from variables regions room (found ++ r ∷ []) last) y p.1 in
            let r = reference_takes (after ts) b.0 b.1 in
            let more = ty_from_takes room (found ++ b.0.0 ∷ []) b.0.1 y b.2 in
            let list : y.0.references ≡ found ++ (b.0.0 ∷ more.0) = more.1 ∙ append_assoc found (b.0.0 ∷ []) more.0 in
            let head = join ts (Fixed s.Ampersand ∷ []) (after ts) (spell.reference regions b.0.0) b.0.1 p.0 r.0 in
            let whole = join ts (spell.behind regions b.0.0) b.0.1 (flat_map (spell.behind regions) more.0 ++ spell.base regions y.0.base) y.1 head more.2 in
            let text : Begins ts (flat_map (spell.behind regions) (b.0.0 ∷ more.0) ++ spell.base regions y.0.base) y.1 = subst (λ (l : List Token). Begins ts l y.1) (sym (append_assoc (spell.behind regions b.0.0) (flat_map (spell.behind regions) more.0) (spell.base regions y.0.base))) whole in
            (b.0.0 ∷ more.0, list, text, and_from (reference_fits variables count b.0.0) _ r.1 more.3, omega (arith, more.4), more.5)
        | inr p ↦ ended room found ts y p.1
      ]

  -- no `mut` follows a reference
  no_mut : (more : List Reference) (x : Base) (ts rest : Tokens) → Begins ts (flat_map (spell.behind regions) more ++ spell.base regions x) rest → sees s.Mut ts ≡ false
  unfolding same
  no_mut [] bases.Int ts rest p = sees_none s.Mut ts (Fixed s.Int) [] rest p refl
  no_mut [] (bases.Struct i) ts rest p = sees_none s.Mut ts (Word i.name.bytes) (spell.angled (spell.region regions) i.regions) rest p refl
  no_mut [] (bases.Closure c) ts rest p = sees_none s.Mut ts (Fixed s.Closure) (spell.closure_number regions c) rest p refl
  no_mut (r ∷ more) x ts rest p = sees_none s.Mut ts (Fixed s.Ampersand) ((spell.reference regions r ++ flat_map (spell.behind regions) more) ++ spell.base regions x) rest p refl

  -- a base does not begin with `&`
  no_ampersand : (x : Base) (ts rest : Tokens) → Begins ts (spell.base regions x) rest → sees s.Ampersand ts ≡ false
  unfolding same
  no_ampersand bases.Int ts rest p = sees_none s.Ampersand ts (Fixed s.Int) [] rest p refl
  no_ampersand (bases.Struct i) ts rest p = sees_none s.Ampersand ts (Word i.name.bytes) (spell.angled (spell.region regions) i.regions) rest p refl
  no_ampersand (bases.Closure c) ts rest p = sees_none s.Ampersand ts (Fixed s.Closure) (spell.closure_number regions c) rest p refl

  ty_from_again : (room : ℕ) (found more : List Reference) (x : Base) (ts rest : Tokens) → Begins ts (flat_map (spell.behind regions) more ++ spell.base regions x) rest → list_all (reference_fits variables count) more ≡ true → base_fits variables count x ≡ true
      → length more + 1 ≤ room → NoLess rest → read.ty_from variables regions room found ts ≡ Ok (record { references = found ++ more; base = x }, rest)
  unfolding read.ty_from read.ty_turn
  ty_from_again zero found more x ts rest p fits fit le other = absurd (omega arith)
  ty_from_again (suc room) found [] x ts rest p fits fit le other =
      eat_other s.Ampersand _ _ ts (no_ampersand x ts rest p) ∙ rw (base_again ts x rest p fit other, append-nil found) refl
  ty_from_again (suc room) found (r ∷ more) x ts rest p fits fit le other =
      let text : Begins ts (spell.behind regions r ++ (flat_map (spell.behind regions) more ++ spell.base regions x)) rest = subst (λ (l : List Token). Begins ts l rest) (append_assoc (spell.behind regions r) (flat_map (spell.behind regions) more) (spell.base regions x)) p in
      let a = split ts (spell.behind regions r) (flat_map (spell.behind regions) more ++ spell.base regions x) rest text in
      let b = split ts (Fixed s.Ampersand ∷ []) (spell.reference regions r) a.0 a.1 in
      let parts = and_parts (reference_fits variables count r) _ fits in
      let le2 : length more + 1 ≤ room = omega arith in
      eat_again s.Ampersand _ _ ts b.0 b.1
      ∙ ap (λ o. and_then o (λ z last. read.ty_from variables regions room (found ++ z ∷ []) last)) (reference_again b.0 r a.0 b.2 parts.0 (no_mut more x a.0 rest a.2))
      ∙ ty_from_again room (found ++ r ∷ []) more x a.0 rest a.2 parts.1 fit le2 other
      ∙ rw (append_assoc found (r ∷ []) more) refl

  pub ty_takes : (ts : Tokens) (y : Ty × Tokens) → read.ty variables regions ts ≡ Ok y → Begins ts (spell.ty regions y.0) y.1 × (ty_fits variables count y.0 ≡ true)
  unfolding read.ty
  ty_takes ts y e =
      let g = ty_from_takes 8 [] ts y e in
      let all : list_all (reference_fits variables count) y.0.references ≡ true = subst (λ (l : List Reference). list_all (reference_fits variables count) l ≡ true) (sym g.1) g.3 in
      let few : length y.0.references ≤ 7 = subst (λ (l : List Reference). length l ≤ 7) (sym g.1) (omega (arith, g.4)) in (
        subst (λ (l : List Reference). Begins ts (flat_map (spell.behind regions) l ++ spell.base regions y.0.base) y.1) (sym g.1) g.2,
        and_from _ (base_fits variables count y.0.base) (and_from (list_all (reference_fits variables count) y.0.references) _ all (le-leb (length y.0.references) 7 few)) g.5,
      )

  pub ty_again : (ts : Tokens) (t : Ty) (rest : Tokens) → Begins ts (spell.ty regions t) rest → ty_fits variables count t ≡ true → NoLess rest → read.ty variables regions ts ≡ Ok (t, rest)
  unfolding read.ty
  ty_again ts t rest p fits other =
      let parts = and_parts _ (base_fits variables count t.base) fits in
      let more = and_parts (list_all (reference_fits variables count) t.references) _ parts.0 in
      let few : length t.references + 1 ≤ 8 = omega (arith, leb-true (length t.references) 7 more.1) in
      ty_from_again 8 [] t.references t.base ts rest p more.0 parts.1 few other

-- ---- the types of `let` locals

-- no other type begins with `closure`
no_closure : (variables : Bool) (count : ℕ) (regions : List RegionName) (rs : List Reference) (x : Base) (ts rest : Tokens) → base_fits variables count x ≡ true → Begins ts (flat_map (spell.behind regions) rs ++ spell.base regions x) rest → sees s.Closure ts ≡ false
unfolding same
no_closure variables count regions [] bases.Int ts rest fits p = sees_none s.Closure ts (Fixed s.Int) [] rest p refl
no_closure variables count regions [] (bases.Struct i) ts rest fits p = sees_none s.Closure ts (Word i.name.bytes) (spell.angled (spell.region regions) i.regions) rest p refl
no_closure variables count regions [] (bases.Closure c) ts rest fits p = absurd cc
no_closure variables count regions (r ∷ rs) x ts rest fits p = sees_none s.Closure ts (Fixed s.Ampersand) ((spell.reference regions r ++ flat_map (spell.behind regions) rs) ++ spell.base regions x) rest p refl

module _ (regions : List RegionName) (declares : Declares regions) where
  pub let_type_takes : (ts : Tokens) (y : Ty × Tokens) → read.let_type regions ts ≡ Ok y → Begins ts (spell.ty regions y.0) y.1 × (let_fits (length regions + 1) y.0 ≡ true)
  unfolding read.let_type
  let_type_takes ts y e =
      let P : Ty × Tokens → Type 0 = λ q. Begins ts (spell.ty regions q.0) q.1 × (let_fits (length regions + 1) q.0 ≡ true) in
      elim (eaten s.Closure (λ rest. and_then (read.closure_instance regions rest) (λ c last. Ok (read.behind [] (bases.Closure c), last))) (read.ty true regions) ts y e) [
        | inl p ↦
            let b = bind_ok (read.closure_instance regions (after ts)) (λ c last. Ok (read.behind [] (bases.Closure c), last)) y p.1 in
            let c = closure_takes regions (after ts) b.0 declares b.1 in
            subst P (ok_is (read.behind [] (bases.Closure b.0.0), b.0.1) y b.2) (join ts (spell.symbol s.Closure) (after ts) (spell.closure_number regions b.0.0) b.0.1 p.0 c.0, c.1)
        | inr p ↦ let t = ty_takes true regions declares ts y p.1 in (t.0, rw t.1 refl)
      ]

  whole_again : (rs : List Reference) (x : Base) (ts rest : Tokens) → Begins ts (flat_map (spell.behind regions) rs ++ spell.base regions x) rest → whole_closure_fits (length regions + 1) rs x ≡ true → NoLess rest
      → read.let_type regions ts ≡ Ok (record { references = rs; base = x }, rest)
  unfolding read.let_type
  whole_again [] bases.Int ts rest p fits other = absurd cc
  whole_again [] (bases.Struct i) ts rest p fits other = absurd cc
  whole_again [] (bases.Closure c) ts rest p fits other =
      let a = split ts (spell.symbol s.Closure) (spell.closure_number regions c) rest p in
      eat_again s.Closure _ (read.ty true regions) ts a.0 a.1 ∙ rw (closure_again regions a.0 c rest declares a.2 fits other) refl
  whole_again (r ∷ rs) x ts rest p fits other = absurd cc

  pub let_type_again : (ts : Tokens) (t : Ty) (rest : Tokens) → Begins ts (spell.ty regions t) rest → let_fits (length regions + 1) t ≡ true → NoLess rest → read.let_type regions ts ≡ Ok (t, rest)
  unfolding read.let_type
  let_type_again ts t rest p fits other =
      elim (cases_Bool (ty_fits true (length regions + 1) t)) [
        | inl fit ↦
            let base = (and_parts _ (base_fits true (length regions + 1) t.base) fit).1 in
            eat_other s.Closure _ (read.ty true regions) ts (no_closure true (length regions + 1) regions t.references t.base ts rest base p) ∙ ty_again true regions declares ts t rest p fit other
        | inr unfit ↦ whole_again t.references t.base ts rest p (rw unfit at fits) other
      ]

-- ---- lists of types

ty_law : (regions : List RegionName) → Declares regions → Spells (read.ty false regions) (spell.ty regions) (ty_fits false (length regions + 1)) NoLess
ty_law regions declares = record { takes = ty_takes false regions declares; again = ty_again false regions declares }

-- a symbol that closes a list of types
record ClosesTys (close : Symbol) : Type 0 where
  int : is_fixed close (Fixed s.Int) ≡ false
  closure : is_fixed close (Fixed s.Closure) ≡ false
  ampersand : is_fixed close (Fixed s.Ampersand) ≡ false
  less : is_fixed s.Less (Fixed close) ≡ false
  comma : is_fixed s.Comma (Fixed close) ≡ false

module _ (opening close : Symbol) (closes : ClosesTys close) (regions : List RegionName) where
  no_close : (rs : List Reference) (b : Base) (l : List Token) (ts rest : Tokens) → Begins ts ((flat_map (spell.behind regions) rs ++ spell.base regions b) ++ l) rest → sees close ts ≡ false
  no_close [] bases.Int l ts rest b = sees_none close ts (Fixed s.Int) l rest b closes.int
  no_close [] (bases.Struct i) l ts rest b = sees_none close ts (Word i.name.bytes) (spell.angled (spell.region regions) i.regions ++ l) rest b refl
  no_close [] (bases.Closure c) l ts rest b = sees_none close ts (Fixed s.Closure) (spell.closure_number regions c ++ l) rest b closes.closure
  no_close (r ∷ rs) k l ts rest b = sees_none close ts (Fixed s.Ampersand) (((spell.reference regions r ++ flat_map (spell.behind regions) rs) ++ spell.base regions k) ++ l) rest b closes.ampersand

  tys_close : Closes (spell.ty regions) NoLess close
  unfolding same
  tys_close = record {
    follows = record { comma_ends = λ ts x rest b. sees_none s.Less ts (Fixed s.Comma) x rest b refl };
    close_ends = λ ts x rest b. sees_none s.Less ts (Fixed close) x rest b closes.less;
    close_apart = closes.comma;
    item_apart = λ x l ts rest b. no_close x.references x.base l ts rest b;
  }

  abbrev enclosed : List Ty → List Token
  enclosed tys = spell.symbol opening ++ (spell.commas (spell.ty regions) tys ++ spell.symbol close)

  enclosed_take : (ts : Tokens) (y : List Ty × Tokens) → Declares regions → and_then (expect opening ts) (λ _ rest. closed_list read.begins_ty (read.ty false regions) 16 close rest) ≡ Ok y
      → Begins ts (enclosed y.0) y.1 × (parameters_fit (length regions + 1) y.0 ≡ true)
  enclosed_take ts y declares e =
      let b = bind_ok (expect opening ts) (λ _ rest. closed_list read.begins_ty (read.ty false regions) 16 close rest) y e in
      let list = list_takes (ty_law regions declares) read.begins_ty 16 close b.0.1 y b.2 in (
        join ts (Fixed opening ∷ []) b.0.1 (spell.commas (spell.ty regions) y.0 ++ spell.symbol close) y.1 (expect_takes opening ts b.0 b.1) list.0,
        and_from (list_all (ty_fits false (length regions + 1)) y.0) _ list.1.0 (le-leb (length y.0) 16 list.1.1),
      )

  enclosed_again : (ts : Tokens) (tys : List Ty) (rest : Tokens) → Declares regions → Begins ts (enclosed tys) rest → parameters_fit (length regions + 1) tys ≡ true
      → and_then (expect opening ts) (λ _ late. closed_list read.begins_ty (read.ty false regions) 16 close late) ≡ Ok (tys, rest)
  enclosed_again ts tys rest declares b fits =
      let a = split ts (Fixed opening ∷ []) (spell.commas (spell.ty regions) tys ++ spell.symbol close) rest b in
      let parts = and_parts (list_all (ty_fits false (length regions + 1)) tys) _ fits in
      rw (expect_again opening ts a.0 a.1) (list_again (ty_law regions declares) read.begins_ty 16 close tys_close a.0 tys rest a.2 (parts.0, leb-true (length tys) 16 parts.1))

-- ---- parameters and captures

paren : ClosesTys s.CloseParen
unfolding same
paren = record { int = refl; closure = refl; ampersand = refl; less = refl; comma = refl }

bracket : ClosesTys s.CloseBracket
unfolding same
bracket = record { int = refl; closure = refl; ampersand = refl; less = refl; comma = refl }

pub parameters_take : (regions : List RegionName) (ts : Tokens) (y : List Ty × Tokens) → Declares regions → read.parameters regions ts ≡ Ok y → Begins ts (spell.parameters regions y.0) y.1 × (parameters_fit (length regions + 1) y.0 ≡ true)
unfolding read.parameters
parameters_take regions ts y declares e = enclosed_take s.OpenParen s.CloseParen paren regions ts y declares e

pub parameters_again : (regions : List RegionName) (ts : Tokens) (ps : List Ty) (rest : Tokens) → Declares regions → Begins ts (spell.parameters regions ps) rest → parameters_fit (length regions + 1) ps ≡ true → read.parameters regions ts ≡ Ok (ps, rest)
unfolding read.parameters
parameters_again regions ts ps rest declares b fits = enclosed_again s.OpenParen s.CloseParen paren regions ts ps rest declares b fits

pub captures_take : (regions : List RegionName) (ts : Tokens) (y : List Ty × Tokens) → Declares regions → read.captures regions ts ≡ Ok y → Begins ts (spell.bracketed regions y.0) y.1 × (parameters_fit (length regions + 1) y.0 ≡ true)
unfolding read.captures
captures_take regions ts y declares e = enclosed_take s.OpenBracket s.CloseBracket bracket regions ts y declares e

pub captures_again : (regions : List RegionName) (ts : Tokens) (cs : List Ty) (rest : Tokens) → Declares regions → Begins ts (spell.bracketed regions cs) rest → parameters_fit (length regions + 1) cs ≡ true → read.captures regions ts ≡ Ok (cs, rest)
unfolding read.captures
captures_again regions ts cs rest declares b fits = enclosed_again s.OpenBracket s.CloseBracket bracket regions ts cs rest declares b fits
