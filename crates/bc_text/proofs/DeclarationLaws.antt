-- Tokens are read as declarations exactly if they spell them.
use Rattle.std.proofs.Common.{◌≡◌, ℕ, zero, suc, ◌+◌, ◌-◌, ◌<◌, ◌≤◌, Bool, true, false, cond, ◌&&◌, List, [], ◌∷◌, ◌++◌, length, nat_le, Ok, Err, refl, sym, ap, ◌∙◌, subst, inl, inr, append_assoc, ltb, arith}
use Rattle.std.specs.Prelude.{Result}
use Rattle.std.specs.List.{flat_map, list_all, zip}
use Rattle.std.proofs.lemmas.List.{append-nil, length-append, length-map}
use Rattle.std.proofs.lemmas.Bool.{eqb-true, eq-eqb, ltb-true, lt-ltb, ltb-false, le-ltb, le-leb, leb-true, and_from, and_parts}
use Rattle.std.proofs.lemmas.Slice.Zip.{firsts-zip, seconds-zip}
use Rattle.bc_text.specs.declared.fault.ReadFault.TheVariants.{TooLong}
use Rattle.bc_tokens.specs.declared.refusal.Refusal.{Refusal}
use Rattle.bc_syntax.specs.declared.symbol.Symbol.{Symbol}
use Rattle.bc_syntax.specs.declared.symbol.Symbol.TheVariants as s
use Rattle.bc_syntax.specs.declared.syntax.RegionName.{RegionName}
use Rattle.bc_syntax.specs.declared.syntax.Base.{Base}
use Rattle.bc_syntax.specs.declared.syntax.Base.TheVariants as bases
use Rattle.bc_syntax.specs.declared.syntax.Reference.{Reference}
use Rattle.bc_syntax.specs.declared.syntax.Ty.{Ty}
use Rattle.bc_syntax.specs.declared.syntax.ItemName.{ItemName}
use Rattle.bc_syntax.specs.declared.syntax.Variance.{Variance}
use Rattle.bc_syntax.specs.declared.syntax.Variance.TheVariants.{Covariant, Invariant}
use Rattle.bc_syntax.specs.declared.syntax.StructDeclaration.{StructDeclaration}
use Rattle.bc_syntax.specs.declared.syntax.ExternDeclaration.{ExternDeclaration}
use Rattle.bc_syntax.specs.declared.syntax.Declaration.{Declaration}
use Rattle.bc_syntax.specs.declared.syntax.Declaration.TheVariants as declarations
use Rattle.bc_syntax.specs.Symbol.{same}
use Rattle.bc_syntax.specs.Fits.{is_new, are_new, item_fits, reference_fits, base_fits, ty_fits, struct_fits, signature_fits, extern_fits, declaration_fits, is_struct, TypesFit}
use Rattle.bc_syntax.specs.Token.{Token, Fixed, Word, End}
use Rattle.bc_tokens.specs.Token.{Tokens, tokens}
use Rattle.bc_tokens.specs.Parser.{Parser, Reads, and_then, sees, after, at_end, expect, pure, declared_list}
use Rattle.bc_text.specs.Reading as read
use Rattle.bc_text.specs.Reading.{Marks, variances_of, regions_of, structs_in, answer_of}
use Rattle.bc_syntax.specs.Spelling as spell
use Rattle.bc_text.specs.Spells as texts
use Rattle.bc_text.proofs.Begins.{Begins, join, split, bind_ok, ok_is, chosen, eaten, eat_again, eat_other, expect_takes, expect_again, sees_takes, sees_again, sees_none, sees_word_same, sees_word_none}
use Rattle.bc_text.proofs.NameLaws.{Declares, Anything, NoLess, new_region_takes, new_region_again, item_name_takes, item_name_again}
use Rattle.bc_text.proofs.TypeLaws.{ty_takes, ty_again}
use Rattle.bc_text.proofs.Lists.{SpellsBeside, Closes, are_fitting, declared_list_takes, declared_list_again}
use Rattle.bc_text.proofs.UnitLaws.{signature_takes, signature_again, signature_fit, signature_is, end_takes, end_again, answer_Ok}
use Rattle.bc_text.proofs.Ends.{tokens_are_text, within, ends_there, all_of_it, begins_whole}

-- ---- marks

variance_takes : (ts : Tokens) (y : Variance × Tokens) → read.variance ts ≡ Ok y → Begins ts (spell.variance y.0) y.1
unfolding read.variance
variance_takes ts y e =
    elim (eaten s.Plus (pure Covariant) (λ rest. and_then (expect s.Equals rest) (λ _ last. Ok (Invariant, last))) ts y e) [
      | inl p ↦ subst (λ (q : Variance × Tokens). Begins ts (spell.variance q.0) q.1) (ok_is (Covariant, after ts) y p.1) p.0
      | inr p ↦
          let b = bind_ok (expect s.Equals ts) (λ _ last. Ok (Invariant, last)) y p.1 in
          subst (λ (q : Variance × Tokens). Begins ts (spell.variance q.0) q.1) (ok_is (Invariant, b.0.1) y b.2) (expect_takes s.Equals ts b.0 b.1)
    ]

variance_again : (ts : Tokens) (v : Variance) (rest : Tokens) → Begins ts (spell.variance v) rest → read.variance ts ≡ Ok (v, rest)
unfolding read.variance same
variance_again ts Covariant rest p = eat_again s.Plus (pure Covariant) _ ts rest p
variance_again ts Invariant rest p =
    eat_other s.Plus (pure Covariant) _ ts (sees_none s.Plus ts (Fixed s.Equals) [] rest p refl) ∙ rw (expect_again s.Equals ts rest p) refl

abbrev Mark : Type 0
Mark = Variance × RegionName

-- a mark whose region none of the marks before declares
abbrev mark_fits : Marks → Mark → Bool
mark_fits before m = is_new (regions_of before) m.1

mark_takes : (before : Marks) (ts : Tokens) (y : Mark × Tokens) → read.mark before ts ≡ Ok y → Begins ts (spell.mark y.0) y.1 × (mark_fits before y.0 ≡ true)
unfolding read.mark
mark_takes before ts y e =
    let b = bind_ok (read.variance ts) (λ v rest. and_then (read.new_region (regions_of before) rest) (λ r last. Ok ((v, r), last))) y e in
    let c = bind_ok (read.new_region (regions_of before) b.0.1) (λ r last. Ok ((b.0.0, r), last)) y b.2 in
    let v = variance_takes ts b.0 b.1 in
    let r = new_region_takes (regions_of before) b.0.1 c.0 c.1 in
    subst (λ (q : Mark × Tokens). Begins ts (spell.mark q.0) q.1 × (mark_fits before q.0 ≡ true)) (ok_is ((b.0.0, c.0.0), c.0.1) y c.2)
    (join ts (spell.variance b.0.0) b.0.1 (spell.region_name c.0.0) c.0.1 v r.0, r.1)

mark_again : (before : Marks) (ts : Tokens) (m : Mark) (rest : Tokens) → Begins ts (spell.mark m) rest → mark_fits before m ≡ true → Anything rest → read.mark before ts ≡ Ok (m, rest)
unfolding read.mark
mark_again before ts m rest b fits ends =
    let a = split ts (spell.variance m.0) (spell.region_name m.1) rest b in
    rw (variance_again ts m.0 a.0 a.1, new_region_again (regions_of before) a.0 m.1 rest a.2 fits) refl

mark_law : SpellsBeside read.mark spell.mark mark_fits Anything
mark_law = record { takes = mark_takes; again = mark_again }

mark_apart : (m : Mark) (l : List Token) (ts rest : Tokens) → Begins ts (spell.mark m ++ l) rest → sees s.Greater ts ≡ false
unfolding same
mark_apart (Covariant, r) l ts rest b = sees_none s.Greater ts (Fixed s.Plus) (spell.region_name r ++ l) rest b refl
mark_apart (Invariant, r) l ts rest b = sees_none s.Greater ts (Fixed s.Equals) (spell.region_name r ++ l) rest b refl

marks_close : Closes spell.mark Anything s.Greater
unfolding same
marks_close = record {
  follows = record { comma_ends = λ ts x rest b. tt };
  close_ends = λ ts x rest b. tt;
  close_apart = refl;
  item_apart = mark_apart;
}

one_more_region : (before : Marks) (m : Mark) → regions_of (before ++ m ∷ []) ≡ regions_of before ++ m.1 ∷ []
one_more_region [] m = refl
one_more_region (x ∷ before) m = ap (λ (rs : List RegionName). x.1 ∷ rs) (one_more_region before m)

fitting_is : (before marks : Marks) → are_fitting mark_fits before marks ≡ are_new (regions_of before) (regions_of marks)
fitting_is before [] = refl
fitting_is before (m ∷ marks) =
    ap (λ b. mark_fits before m && b) (fitting_is (before ++ m ∷ []) marks ∙ ap (λ (rs : List RegionName). are_new rs (regions_of marks)) (one_more_region before m))

-- one more element in each list zips to one more pair
pub zip_push : (vs : List Variance) (rs : List RegionName) (v : Variance) (r : RegionName) → length vs ≡ length rs → zip (vs ++ v ∷ []) (rs ++ r ∷ []) ≡ zip vs rs ++ (v, r) ∷ []
zip_push [] [] v r e = refl
zip_push [] (y ∷ rs) v r e = absurd (omega arith)
zip_push (x ∷ vs) [] v r e = absurd (omega arith)
zip_push (x ∷ vs) (y ∷ rs) v r e = ap (λ (l : Marks). (x, y) ∷ l) (zip_push vs rs v r (omega arith))

-- marks are their variances, zipped with their regions
pub zipped : (marks : Marks) → zip (variances_of marks) (regions_of marks) ≡ marks
zipped [] = refl
zipped (m ∷ marks) = ap (λ (l : Marks). m ∷ l) (zipped marks)

-- tokens that begin with several begin with the first
begins_one : (ts : Tokens) (token : Token) (x : List Token) (rest : Tokens) → Begins ts (token ∷ x) rest → Begins ts (token ∷ []) (after ts)
begins_one [] token x rest b = absurd b
begins_one (t ∷ ts) token x rest b = (b.0, refl)

-- ---- fields

first_of_ty : (regions : List RegionName) (variables : Bool) (count : ℕ) (rs : List Reference) (x : Base) (l : List Token) (ts rest : Tokens) → base_fits variables count x ≡ true → Begins ts ((flat_map (spell.behind regions) rs ++ spell.base regions x) ++ l) rest → read.begins_ty ts ≡ true
unfolding same
first_of_ty regions variables count [] bases.Int l ts rest fits b =
    rw (sees_none s.Ampersand ts (Fixed s.Int) l rest b refl, (sees_again s.Int ts (after ts) (begins_one ts (Fixed s.Int) l rest b)).0) refl
first_of_ty regions variables count [] (bases.Closure c) l ts rest fits b = absurd cc
first_of_ty regions variables count [] (bases.Struct i) l ts rest fits b =
    let tail = spell.angled (spell.region regions) i.regions ++ l in
    rw (sees_none s.Ampersand ts (Word i.name.bytes) tail rest b refl, sees_none s.Int ts (Word i.name.bytes) tail rest b refl, sees_word_same ts i.name.bytes tail rest b) refl
first_of_ty regions variables count (r ∷ rs) x l ts rest fits b =
    rw (sees_again s.Ampersand ts (after ts) (begins_one ts (Fixed s.Ampersand) (((spell.reference regions r ++ flat_map (spell.behind regions) rs) ++ spell.base regions x) ++ l) rest b)).0 refl

-- a word, `int` or `&` begins a type
ty_begins : (regions : List RegionName) (variables : Bool) (count : ℕ) (t : Ty) (l : List Token) (ts rest : Tokens) → ty_fits variables count t ≡ true → Begins ts (spell.ty regions t ++ l) rest → read.begins_ty ts ≡ true
ty_begins regions variables count t l ts rest fits b =
    first_of_ty regions variables count t.references t.base l ts rest (and_parts (list_all (reference_fits variables count) t.references && nat_le (length t.references) 7) (base_fits variables count t.base) fits).1 b

no_ty : (ts rest : Tokens) (x : List Token) → Begins ts (Fixed s.CloseBrace ∷ x) rest → read.begins_ty ts ≡ false
unfolding same
no_ty ts rest x b = rw (sees_none s.Ampersand ts (Fixed s.CloseBrace) x rest b refl, sees_none s.Int ts (Fixed s.CloseBrace) x rest b refl, sees_word_none ts (Fixed s.CloseBrace) x rest b refl) refl

module _ (regions : List RegionName) (declares : Declares regions) where
  abbrev all_fit : List Ty → Type 0
  all_fit ts = list_all (ty_fits false (length regions + 1)) ts ≡ true

  abbrev GoesOn : ℕ → List Ty → Tokens → List Ty × Tokens → Type 0
  GoesOn room found ts y = (more : List Ty) × (y.0 ≡ found ++ more) × Begins ts (flat_map (spell.field regions) more) y.1 × all_fit more × (length more ≤ room)

  none_taken : (room : ℕ) (found : List Ty) (ts : Tokens) (y : List Ty × Tokens) → pure found ts ≡ Ok y → GoesOn room found ts y
  none_taken room found ts y e = subst (GoesOn room found ts) (ok_is (found, ts) y e) ([], sym (append-nil found), refl, refl, omega arith)

  fields_take : (room : ℕ) (found : List Ty) (ts : Tokens) (y : List Ty × Tokens) → read.fields_from regions room found ts ≡ Ok y → GoesOn room found ts y
  unfolding read.fields_from read.fields_turn
  fields_take zero found ts y e =
      elim (chosen (read.begins_ty ts) _ (pure found ts) (Ok y) e) [
        | inl p ↦ let bad = p.1 in absurd cc
        | inr p ↦ none_taken 0 found ts y p.1
      ]
  fields_take (suc room) found ts y e =
      elim (chosen (read.begins_ty ts) (read.fields_turn regions (read.fields_from regions room) found ts) (pure found ts) (Ok y) e) [
        | inl p ↦
            let b = bind_ok (read.ty false regions ts) (λ t rest. and_then (expect s.Semicolon rest) (λ _ last. read.fields_from regions room (found ++ t ∷ []) last)) y p.1 in
            let c = bind_ok (expect s.Semicolon b.0.1) (λ _ last. read.fields_from regions room (found ++ b.0.0 ∷ []) last) y b.2 in
            let t = ty_takes false regions declares ts b.0 b.1 in
            let more = fields_take room (found ++ b.0.0 ∷ []) c.0.1 y c.2 in
            let head = join ts (spell.ty regions b.0.0) b.0.1 (spell.symbol s.Semicolon) c.0.1 t.0 (expect_takes s.Semicolon b.0.1 c.0 c.1) in (
              b.0.0 ∷ more.0,
              more.1 ∙ append_assoc found (b.0.0 ∷ []) more.0,
              join ts (spell.field regions b.0.0) c.0.1 (flat_map (spell.field regions) more.0) y.1 head more.2,
              and_from (ty_fits false (length regions + 1) b.0.0) _ t.1 more.3,
              omega (arith, more.4),
            )
        | inr p ↦ none_taken (suc room) found ts y p.1
      ]

  fields_again : (room : ℕ) (found more : List Ty) (ts rest : Tokens) → Begins ts (flat_map (spell.field regions) more) rest → all_fit more → length more ≤ room → read.begins_ty rest ≡ false → read.fields_from regions room found ts ≡ Ok (found ++ more, rest)
  unfolding read.fields_from read.fields_turn same
  fields_again zero found [] ts rest b fits le other = rw (b, other, append-nil found) refl
  fields_again zero found (t ∷ more) ts rest b fits le other = absurd (omega arith)
  fields_again (suc room) found [] ts rest b fits le other = rw (b, other, append-nil found) refl
  fields_again (suc room) found (t ∷ more) ts rest b fits le other =
      let a = split ts (spell.field regions t) (flat_map (spell.field regions) more) rest b in
      let c = split ts (spell.ty regions t) (spell.symbol s.Semicolon) a.0 a.1 in
      let parts = and_parts (ty_fits false (length regions + 1) t) _ fits in
      let le2 : length more ≤ room = omega arith in
      rw (ty_begins regions false (length regions + 1) t (spell.symbol s.Semicolon) ts a.0 parts.0 a.1, ty_again false regions declares ts t c.0 c.1 parts.0 (sees_none s.Less c.0 (Fixed s.Semicolon) [] a.0 c.2 refl), expect_again s.Semicolon c.0 a.0 c.2)
      (fields_again room (found ++ t ∷ []) more a.0 rest a.2 parts.1 le2 other ∙ rw (append_assoc found (t ∷ []) more) refl)

  abbrev pub braced : List Ty → List Token
  braced ts = spell.symbol s.OpenBrace ++ (flat_map (spell.field regions) ts ++ spell.symbol s.CloseBrace)

  pub all_fields_take : (ts : Tokens) (y : List Ty × Tokens) → read.fields regions ts ≡ Ok y → Begins ts (braced y.0) y.1 × all_fit y.0 × (length y.0 ≤ 16)
  unfolding read.fields
  all_fields_take ts y e =
      let b = bind_ok (expect s.OpenBrace ts) (λ _ rest. and_then (read.fields_from regions 16 [] rest) (λ fs mid. and_then (expect s.CloseBrace mid) (λ _ last. Ok (fs, last)))) y e in
      let c = bind_ok (read.fields_from regions 16 [] b.0.1) (λ fs mid. and_then (expect s.CloseBrace mid) (λ _ last. Ok (fs, last))) y b.2 in
      let d = bind_ok (expect s.CloseBrace c.0.1) (λ _ last. Ok (c.0.0, last)) y c.2 in
      let g = fields_take 16 [] b.0.1 c.0 c.1 in
      let text : Begins b.0.1 (flat_map (spell.field regions) c.0.0) c.0.1 = subst (λ (l : List Ty). Begins b.0.1 (flat_map (spell.field regions) l) c.0.1) (sym g.1) g.2 in
      let inner = join b.0.1 (flat_map (spell.field regions) c.0.0) c.0.1 (spell.symbol s.CloseBrace) d.0.1 text (expect_takes s.CloseBrace c.0.1 d.0 d.1) in
      subst (λ (q : List Ty × Tokens). Begins ts (braced q.0) q.1 × all_fit q.0 × (length q.0 ≤ 16)) (ok_is (c.0.0, d.0.1) y d.2)
      (join ts (spell.symbol s.OpenBrace) b.0.1 (flat_map (spell.field regions) c.0.0 ++ spell.symbol s.CloseBrace) d.0.1 (expect_takes s.OpenBrace ts b.0 b.1) inner, subst all_fit (sym g.1) g.3, subst (λ (l : List Ty). length l ≤ 16) (sym g.1) g.4)

  pub all_fields_again : (ts : Tokens) (fs : List Ty) (rest : Tokens) → Begins ts (braced fs) rest → all_fit fs → length fs ≤ 16 → read.fields regions ts ≡ Ok (fs, rest)
  unfolding read.fields
  all_fields_again ts fs rest b fits few =
      let a = split ts (spell.symbol s.OpenBrace) (flat_map (spell.field regions) fs ++ spell.symbol s.CloseBrace) rest b in
      let c = split a.0 (flat_map (spell.field regions) fs) (spell.symbol s.CloseBrace) rest a.2 in
      rw (expect_again s.OpenBrace ts a.0 a.1, fields_again 16 [] fs a.0 c.0 c.1 fits few (no_ty c.0 rest [] c.2), expect_again s.CloseBrace c.0 rest c.2) refl

-- ---- structs

-- each part of a struct fits
pub record StructIs (d : StructDeclaration) : Type 0 where
  pub name : item_fits d.name ≡ true
  pub regions : Declares d.regions
  pub few : length d.regions ≤ 8
  pub variances : length d.variances ≡ length d.regions
  pub fields : list_all (ty_fits false (length d.regions + 1)) d.fields ≡ true
  pub few_fields : length d.fields ≤ 16

struct_fit : (d : StructDeclaration) → StructIs d → struct_fits d ≡ true
struct_fit d is =
    and_from _ _ (and_from _ _ (and_from _ _ (and_from _ _ (and_from (item_fits d.name) (are_new [] d.regions) is.name is.regions) (le-leb (length d.regions) 8 is.few)) (eq-eqb (length d.variances) (length d.regions) is.variances)) is.fields) (le-leb (length d.fields) 16 is.few_fields)

struct_is : (d : StructDeclaration) → struct_fits d ≡ true → StructIs d
struct_is d fits =
    let a = and_parts _ _ fits in
    let b = and_parts _ _ a.0 in
    let c = and_parts _ _ b.0 in
    let f = and_parts _ _ c.0 in
    let g = and_parts (item_fits d.name) (are_new [] d.regions) f.0 in
    record {
      name = g.0;
      regions = g.1;
      few = leb-true (length d.regions) 8 f.1;
      variances = eqb-true (length d.variances) (length d.regions) c.1;
      fields = b.1;
      few_fields = leb-true (length d.fields) 16 a.1;
    }

abbrev made : ItemName → Marks → Bool → List Ty → StructDeclaration
made name marks has_drop fs = record { name = name; regions = regions_of marks; variances = variances_of marks; has_drop = has_drop; fields = fs }

-- the word `drop`, or none
drop_takes : (b : Bool) (ts rest : Tokens) → sees s.Drop ts ≡ b → cond b (after ts) ts ≡ rest → Begins ts (spell.drop_word b) rest
drop_takes true ts rest seen e = subst (λ (l : Tokens). Begins ts (Fixed s.Drop ∷ []) l) e (sees_takes s.Drop ts seen)
drop_takes false ts rest seen e = e

struct_takes : (ts : Tokens) (y : StructDeclaration × Tokens) → read.struct_declaration ts ≡ Ok y → Begins ts (spell.struct_rest y.0) y.1 × (struct_fits y.0 ≡ true)
unfolding read.struct_declaration read.struct_of Rattle.bc_tokens.specs.Parser.after_symbol
struct_takes ts y e =
    let b = bind_ok (read.item_name ts) (λ name rest. and_then (declared_list read.begins_mark read.mark 8 rest) (λ marks mid. read.struct_of name marks mid)) y e in
    let c = bind_ok (declared_list read.begins_mark read.mark 8 b.0.1) (λ marks mid. read.struct_of b.0.0 marks mid) y b.2 in
    let marks = c.0.0 in
    let has_drop = sees s.Drop c.0.1 in
    let late = cond has_drop (after c.0.1) c.0.1 in
    let f = bind_ok (read.fields (regions_of marks) late) (λ fs last. Ok (made b.0.0 marks has_drop fs, last)) y c.2 in
    let name = item_name_takes ts b.0 b.1 in
    let list = declared_list_takes mark_law read.begins_mark 8 b.0.1 c.0 c.1 in
    let declares : Declares (regions_of marks) = sym (fitting_is [] marks) ∙ list.1.0 in
    let fs = all_fields_take (regions_of marks) declares late f.0 f.1 in
    let marks_text : Begins b.0.1 (spell.angled spell.mark (zip (variances_of marks) (regions_of marks))) c.0.1 = subst (λ (l : Marks). Begins b.0.1 (spell.angled spell.mark l) c.0.1) (sym (zipped marks)) list.0 in
    let d = made b.0.0 marks has_drop f.0.0 in
    let t2 = join c.0.1 (spell.drop_word has_drop) late (spell.fields d) f.0.1 (drop_takes has_drop c.0.1 late refl refl) fs.0 in
    let t1 = join b.0.1 (spell.angled spell.mark (zip (variances_of marks) (regions_of marks))) c.0.1 (spell.drop_word has_drop ++ spell.fields d) f.0.1 marks_text t2 in
    let whole = join ts (spell.item_name b.0.0) b.0.1 (spell.angled spell.mark (zip (variances_of marks) (regions_of marks)) ++ (spell.drop_word has_drop ++ spell.fields d)) f.0.1 name.0 t1 in
    subst (λ (q : StructDeclaration × Tokens). Begins ts (spell.struct_rest q.0) q.1 × (struct_fits q.0 ≡ true)) (ok_is (d, f.0.1) y f.2) (
      whole,
      struct_fit d (record {
        name = name.1;
        regions = declares;
        few = subst (λ n. n ≤ 8) (sym (length-map marks (λ (m : Mark). m.1))) list.1.1;
        variances = length-map marks (λ (m : Mark). m.0) ∙ sym (length-map marks (λ (m : Mark). m.1));
        fields = fs.1;
        few_fields = fs.2;
      }),
    )

-- no `<` follows the marks of a struct
no_less : (b : Bool) (d : StructDeclaration) (ts rest : Tokens) → Begins ts (spell.drop_word b ++ spell.fields d) rest → NoLess ts
unfolding same
no_less false d ts rest p = sees_none s.Less ts (Fixed s.OpenBrace) (flat_map (spell.field d.regions) d.fields ++ spell.symbol s.CloseBrace) rest p refl
no_less true d ts rest p = sees_none s.Less ts (Fixed s.Drop) (spell.fields d) rest p refl

-- a struct is read from its spelling after its marks, with or without the word `drop`
fields_behind : (b : Bool) (d : StructDeclaration) (marks : Marks) → regions_of marks ≡ d.regions → variances_of marks ≡ d.variances → StructIs d → d.has_drop ≡ b → (ts rest : Tokens) → Begins ts (spell.drop_word b ++ spell.fields d) rest
    → read.struct_of d.name marks ts ≡ Ok (d, rest)
unfolding read.struct_of Rattle.bc_tokens.specs.Parser.after_symbol same
fields_behind true d marks seconds firsts is e ts rest p =
    let a = split ts (spell.symbol s.Drop) (spell.fields d) rest p in
    let seen = sees_again s.Drop ts a.0 a.1 in
    rw (seen.0, seen.1, seconds, firsts, all_fields_again d.regions is.regions a.0 d.fields rest a.2 is.fields is.few_fields) (ap (λ (h : Bool). Ok (record { name = d.name; regions = d.regions; variances = d.variances; has_drop = h; fields = d.fields }, rest)) (sym e))
fields_behind false d marks seconds firsts is e ts rest p =
    let unseen = sees_none s.Drop ts (Fixed s.OpenBrace) (flat_map (spell.field d.regions) d.fields ++ spell.symbol s.CloseBrace) rest p refl in
    rw (unseen, seconds, firsts, all_fields_again d.regions is.regions ts d.fields rest p is.fields is.few_fields) (ap (λ (h : Bool). Ok (record { name = d.name; regions = d.regions; variances = d.variances; has_drop = h; fields = d.fields }, rest)) (sym e))

struct_of_again : (d : StructDeclaration) (marks : Marks) → regions_of marks ≡ d.regions → variances_of marks ≡ d.variances → StructIs d → (ts rest : Tokens) → Begins ts (spell.drop_word d.has_drop ++ spell.fields d) rest
    → read.struct_of d.name marks ts ≡ Ok (d, rest)
unfolding read.struct_of
struct_of_again d marks seconds firsts is ts rest p = fields_behind d.has_drop d marks seconds firsts is refl ts rest p

struct_again : (ts : Tokens) (d : StructDeclaration) (rest : Tokens) → Begins ts (spell.struct_rest d) rest → struct_fits d ≡ true → read.struct_declaration ts ≡ Ok (d, rest)
unfolding read.struct_declaration
struct_again ts d rest b fits =
    let is = struct_is d fits in
    let marks = zip d.variances d.regions in
    let a = split ts (spell.item_name d.name) (spell.angled spell.mark marks ++ (spell.drop_word d.has_drop ++ spell.fields d)) rest b in
    let c = split a.0 (spell.angled spell.mark marks) (spell.drop_word d.has_drop ++ spell.fields d) rest a.2 in
    let seconds : regions_of marks ≡ d.regions = seconds-zip d.variances d.regions (sym is.variances) in
    let firsts : variances_of marks ≡ d.variances = firsts-zip d.variances d.regions (sym is.variances) in
    let new_names : are_fitting mark_fits [] marks ≡ true = fitting_is [] marks ∙ ap (are_new []) seconds ∙ is.regions in
    let few : length marks ≤ 8 = subst (λ n. n ≤ 8) (length-map marks (λ (m : Mark). m.1)) (subst (λ (l : List RegionName). length l ≤ 8) (sym seconds) is.few) in
    rw (
      item_name_again ts d.name a.0 a.1 is.name,
      declared_list_again mark_law read.begins_mark 8 marks_close a.0 marks c.0 c.1 (new_names, few) (no_less d.has_drop d c.0 rest c.2),
    ) (struct_of_again d marks seconds firsts is c.0 rest c.2)

-- ---- extern functions

extern_takes : (ts : Tokens) (y : ExternDeclaration × Tokens) → read.extern_declaration ts ≡ Ok y → Begins ts (spell.extern_rest y.0) y.1 × (extern_fits y.0 ≡ true)
unfolding read.extern_declaration
extern_takes ts y e =
    let b = bind_ok (read.item_name ts) (λ name rest. and_then (read.signature 8 rest) (λ h mid. and_then (expect s.Semicolon mid) (λ _ last. Ok (record { name = name; signature = h }, last)))) y e in
    let c = bind_ok (read.signature 8 b.0.1) (λ h mid. and_then (expect s.Semicolon mid) (λ _ last. Ok (record { name = b.0.0; signature = h }, last))) y b.2 in
    let d = bind_ok (expect s.Semicolon c.0.1) (λ _ last. Ok (record { name = b.0.0; signature = c.0.0 }, last)) y c.2 in
    let name = item_name_takes ts b.0 b.1 in
    let h = signature_takes 8 b.0.1 c.0 c.1 in
    let tail = join b.0.1 (spell.signature c.0.0) c.0.1 (spell.symbol s.Semicolon) d.0.1 h.0 (expect_takes s.Semicolon c.0.1 d.0 d.1) in
    subst (λ (q : ExternDeclaration × Tokens). Begins ts (spell.extern_rest q.0) q.1 × (extern_fits q.0 ≡ true)) (ok_is (record { name = b.0.0; signature = c.0.0 }, d.0.1) y d.2)
    (join ts (spell.item_name b.0.0) b.0.1 (spell.signature c.0.0 ++ spell.symbol s.Semicolon) d.0.1 name.0 tail, and_from (item_fits b.0.0) (signature_fits 8 c.0.0) name.1 (signature_fit 8 c.0.0 h.1))

extern_again : (ts : Tokens) (d : ExternDeclaration) (rest : Tokens) → Begins ts (spell.extern_rest d) rest → extern_fits d ≡ true → read.extern_declaration ts ≡ Ok (d, rest)
unfolding read.extern_declaration same
extern_again ts d rest b fits =
    let parts = and_parts (item_fits d.name) (signature_fits 8 d.signature) fits in
    let a = split ts (spell.item_name d.name) (spell.signature d.signature ++ spell.symbol s.Semicolon) rest b in
    let c = split a.0 (spell.signature d.signature) (spell.symbol s.Semicolon) rest a.2 in
    rw (
      item_name_again ts d.name a.0 a.1 parts.0,
      signature_again 8 a.0 d.signature c.0 c.1 (signature_is 8 d.signature parts.1) (sees_none s.Less c.0 (Fixed s.Semicolon) [] rest c.2 refl),
      expect_again s.Semicolon c.0 rest c.2,
    ) refl

-- ---- declarations

-- there is room for one more of its kind
abbrev HasRoom : List Declaration → Declaration → Type 0
HasRoom found (declarations.Struct d) = structs_in found < 64
HasRoom found (declarations.Extern d) = length found - structs_in found < 64

begins_after : (ts : Tokens) (token : Token) (rest : Tokens) → Begins ts (token ∷ []) rest → after ts ≡ rest
begins_after [] token rest b = absurd b
begins_after (t ∷ ts) token rest b = b.1

counted_takes : {A : Type 0} (before : ℕ) (word : Symbol) (p : Parser A) (ts : Tokens) (y : A × Tokens) → read.counted before word p ts ≡ Ok y → (before < 64) × Begins ts (Fixed word ∷ []) (after ts) × (p (after ts) ≡ Ok y)
counted_takes before word p ts y e =
    elim (chosen (ltb before 64) (and_then (expect word ts) (λ _ late. p late)) _ (Ok y) e) [
      | inl q ↦
          let b = bind_ok (expect word ts) (λ _ late. p late) y q.1 in
          let t = expect_takes word ts b.0 b.1 in
          (ltb-true before 64 q.0, begins_one ts (Fixed word) [] b.0.1 t, ap p (begins_after ts (Fixed word) b.0.1 t) ∙ b.2)
      | inr q ↦ let bad = q.1 in absurd cc
    ]

counted_again : {A : Type 0} (before : ℕ) (word : Symbol) (p : Parser A) (ts rest : Tokens) → before < 64 → Begins ts (Fixed word ∷ []) rest → read.counted before word p ts ≡ p rest
counted_again before word p ts rest room b = rw (lt-ltb before 64 room, expect_again word ts rest b) refl

declaration_takes : (found : List Declaration) (ts : Tokens) (y : Declaration × Tokens) → read.declaration found ts ≡ Ok y → Begins ts (spell.declaration y.0) y.1 × (declaration_fits y.0 ≡ true) × HasRoom found y.0
unfolding read.declaration
declaration_takes found ts y e =
    let P : Declaration × Tokens → Type 0 = λ q. Begins ts (spell.declaration q.0) q.1 × (declaration_fits q.0 ≡ true) × HasRoom found q.0 in
    elim (chosen (sees s.Struct ts) (read.counted (structs_in found) s.Struct (λ rest. and_then (read.struct_declaration rest) (λ d last. Ok (declarations.Struct d, last))) ts) (read.counted (length found - structs_in found) s.Extern (λ rest. and_then (read.extern_declaration rest) (λ d last. Ok (declarations.Extern d, last))) ts) (Ok y) e) [
      | inl p ↦
          let c = counted_takes (structs_in found) s.Struct (λ rest. and_then (read.struct_declaration rest) (λ d last. Ok (declarations.Struct d, last))) ts y p.1 in
          let b = bind_ok (read.struct_declaration (after ts)) (λ d last. Ok (declarations.Struct d, last)) y c.2 in
          let d = struct_takes (after ts) b.0 b.1 in
          subst P (ok_is (declarations.Struct b.0.0, b.0.1) y b.2) (join ts (spell.symbol s.Struct) (after ts) (spell.struct_rest b.0.0) b.0.1 c.1 d.0, d.1, c.0)
      | inr p ↦
          let c = counted_takes (length found - structs_in found) s.Extern (λ rest. and_then (read.extern_declaration rest) (λ d last. Ok (declarations.Extern d, last))) ts y p.1 in
          let b = bind_ok (read.extern_declaration (after ts)) (λ d last. Ok (declarations.Extern d, last)) y c.2 in
          let d = extern_takes (after ts) b.0 b.1 in
          subst P (ok_is (declarations.Extern b.0.0, b.0.1) y b.2) (join ts (spell.symbol s.Extern) (after ts) (spell.extern_rest b.0.0) b.0.1 c.1 d.0, d.1, c.0)
    ]

declaration_again : (found : List Declaration) (ts : Tokens) (d : Declaration) (rest : Tokens) → Begins ts (spell.declaration d) rest → declaration_fits d ≡ true → HasRoom found d → read.declaration found ts ≡ Ok (d, rest)
unfolding read.declaration same
declaration_again found ts (declarations.Struct d) rest b fits room =
    let a = split ts (spell.symbol s.Struct) (spell.struct_rest d) rest b in
    let seen = (sees_again s.Struct ts a.0 a.1).0 in
    rw (seen, counted_again (structs_in found) s.Struct (λ late. and_then (read.struct_declaration late) (λ x last. Ok (declarations.Struct x, last))) ts a.0 room a.1, struct_again a.0 d rest a.2 fits) refl
declaration_again found ts (declarations.Extern d) rest b fits room =
    let a = split ts (spell.symbol s.Extern) (spell.extern_rest d) rest b in
    let unseen = sees_none s.Struct ts (Fixed s.Extern) (spell.extern_rest d) rest b refl in
    rw (unseen, counted_again (length found - structs_in found) s.Extern (λ late. and_then (read.extern_declaration late) (λ x last. Ok (declarations.Extern x, last))) ts a.0 room a.1, extern_again a.0 d rest a.2 fits) refl

-- ---- room for more

pub structs_more : (found : List Declaration) (d : Declaration) → structs_in (found ++ d ∷ []) ≡ structs_in found + cond (is_struct d) 1 0
structs_more [] (declarations.Struct d) = refl
structs_more [] (declarations.Extern d) = refl
structs_more (declarations.Struct x ∷ found) d = omega (arith, structs_more found d)
structs_more (declarations.Extern x ∷ found) d = structs_more found d

pub structs_few : (found : List Declaration) → structs_in found ≤ length found
structs_few [] = omega arith
structs_few (declarations.Struct x ∷ found) = omega (arith, structs_few found)
structs_few (declarations.Extern x ∷ found) = omega (arith, structs_few found)

abbrev AreFew : List Declaration → Type 0
AreFew ds = (structs_in ds ≤ 64) × (length ds ≤ structs_in ds + 64)

-- there is room for each after those before it
abbrev AllRoom : List Declaration → List Declaration → Type 0
AllRoom found [] = Unit {0}
AllRoom found (d ∷ ds) = HasRoom found d × AllRoom (found ++ d ∷ []) ds

one_more_few : (found : List Declaration) (d : Declaration) → AreFew found → HasRoom found d → AreFew (found ++ d ∷ [])
one_more_few found (declarations.Struct d) few room = (omega (arith, structs_more found (declarations.Struct d), few.0, room), omega (arith, structs_more found (declarations.Struct d), few.1, length-append found (declarations.Struct d ∷ [])))
one_more_few found (declarations.Extern d) few room = (omega (arith, structs_more found (declarations.Extern d), few.0), omega (arith, structs_more found (declarations.Extern d), few.1, room, length-append found (declarations.Extern d ∷ [])))

are_few : (found more : List Declaration) → AreFew found → AllRoom found more → AreFew (found ++ more)
are_few found [] few room = subst AreFew (sym (append-nil found)) few
are_few found (d ∷ more) few room = subst AreFew (append_assoc found (d ∷ []) more) (are_few (found ++ d ∷ []) more (one_more_few found d few room.0) room.1)

one_less : (found : List Declaration) (d : Declaration) → AreFew (found ++ d ∷ []) → AreFew found
one_less found (declarations.Struct d) few = (omega (arith, structs_more found (declarations.Struct d), few.0), omega (arith, structs_more found (declarations.Struct d), few.1, length-append found (declarations.Struct d ∷ [])))
one_less found (declarations.Extern d) few = (omega (arith, structs_more found (declarations.Extern d), few.0), omega (arith, structs_more found (declarations.Extern d), few.1, length-append found (declarations.Extern d ∷ [])))

last_has_room : (found : List Declaration) (d : Declaration) → AreFew (found ++ d ∷ []) → HasRoom found d
last_has_room found (declarations.Struct d) few = omega (arith, structs_more found (declarations.Struct d), few.0)
last_has_room found (declarations.Extern d) few = omega (arith, structs_more found (declarations.Extern d), few.1, length-append found (declarations.Extern d ∷ []), structs_few found)

fewer : (found more : List Declaration) → AreFew (found ++ more) → AreFew found
fewer found [] few = subst AreFew (append-nil found) few
fewer found (d ∷ more) few = one_less found d (fewer (found ++ d ∷ []) more (subst AreFew (sym (append_assoc found (d ∷ []) more)) few))

room_is : (found more : List Declaration) → AreFew (found ++ more) → AllRoom found more
room_is found [] few = tt
room_is found (d ∷ more) few =
    let all : AreFew ((found ++ d ∷ []) ++ more) = subst AreFew (sym (append_assoc found (d ∷ []) more)) few in
    (last_has_room found d (fewer (found ++ d ∷ []) more all), room_is (found ++ d ∷ []) more all)

-- ---- lists of declarations

abbrev MoreDeclarations : ℕ → List Declaration → Tokens → List Declaration × Tokens → Type 0
MoreDeclarations room found ts y = (more : List Declaration) × (y.0 ≡ found ++ more) × Begins ts (spell.types more) y.1 × (list_all declaration_fits more ≡ true) × AllRoom found more

declarations_take : (room : ℕ) (found : List Declaration) (ts : Tokens) (y : List Declaration × Tokens) → read.declarations_from room found ts ≡ Ok y → MoreDeclarations room found ts y
unfolding read.declarations_from read.declarations_turn
declarations_take zero found ts y e = absurd cc
declarations_take (suc room) found ts y e =
    elim (chosen (read.begins_declaration ts) (read.declarations_turn (read.declarations_from room) found ts) (pure found ts) (Ok y) e) [
      | inl p ↦
          let b = bind_ok (read.declaration found ts) (λ d rest. read.declarations_from room (found ++ d ∷ []) rest) y p.1 in
          let d = declaration_takes found ts b.0 b.1 in
          let more = declarations_take room (found ++ b.0.0 ∷ []) b.0.1 y b.2 in
          (b.0.0 ∷ more.0, more.1 ∙ append_assoc found (b.0.0 ∷ []) more.0, join ts (spell.declaration b.0.0) b.0.1 (spell.types more.0) y.1 d.0 more.2, and_from (declaration_fits b.0.0) _ d.1 more.3, (d.2, more.4))
      | inr p ↦ subst (MoreDeclarations (suc room) found ts) (ok_is (found, ts) y p.1) ([], sym (append-nil found), refl, refl, tt)
    ]

declaration_begins : (d : Declaration) (l : List Token) (ts rest : Tokens) → Begins ts (spell.declaration d ++ l) rest → read.begins_declaration ts ≡ true
unfolding same
declaration_begins (declarations.Struct d) l ts rest b = rw (sees_again s.Struct ts (after ts) (begins_one ts (Fixed s.Struct) (spell.struct_rest d ++ l) rest b)).0 refl
declaration_begins (declarations.Extern d) l ts rest b =
    rw (sees_none s.Struct ts (Fixed s.Extern) (spell.extern_rest d ++ l) rest b refl, (sees_again s.Extern ts (after ts) (begins_one ts (Fixed s.Extern) (spell.extern_rest d ++ l) rest b)).0) refl

declarations_again : (room : ℕ) (found more : List Declaration) (ts rest : Tokens) → Begins ts (spell.types more) rest → list_all declaration_fits more ≡ true → AllRoom found more → length more + 1 ≤ room → read.begins_declaration rest ≡ false
    → read.declarations_from room found ts ≡ Ok (found ++ more, rest)
unfolding read.declarations_from read.declarations_turn
declarations_again zero found more ts rest b fits rooms le other = absurd (omega arith)
declarations_again (suc room) found [] ts rest b fits rooms le other = rw (b, other, append-nil found) refl
declarations_again (suc room) found (d ∷ more) ts rest b fits rooms le other =
    let a = split ts (spell.declaration d) (spell.types more) rest b in
    let parts = and_parts (declaration_fits d) _ fits in
    let le2 : length more + 1 ≤ room = omega arith in
    rw (declaration_begins d (spell.types more) ts rest b, declaration_again found ts d a.0 a.1 parts.0 rooms.0)
    (declarations_again room (found ++ d ∷ []) more a.0 rest a.2 parts.1 rooms.1 le2 other ∙ rw (append_assoc found (d ∷ []) more) refl)

-- ---- texts

types_take : (ts : Tokens) (y : List Declaration × Tokens) → read.types ts ≡ Ok y → Begins ts (spell.types y.0 ++ End ∷ []) (after y.1) × TypesFit y.0
unfolding read.types
types_take ts y e =
    let b = bind_ok (read.declarations_from 129 [] ts) (λ ds rest. and_then (at_end rest) (λ _ last. Ok (ds, last))) y e in
    let c = bind_ok (at_end b.0.1) (λ _ last. Ok (b.0.0, last)) y b.2 in
    let g = declarations_take 129 [] ts b.0 b.1 in
    let text : Begins ts (spell.types b.0.0) b.0.1 = subst (λ (l : List Declaration). Begins ts (spell.types l) b.0.1) (sym g.1) g.2 in
    let few : AreFew b.0.0 = subst AreFew (sym g.1) (are_few [] g.0 (omega arith, omega arith) g.4) in
    subst (λ (q : List Declaration × Tokens). Begins ts (spell.types q.0 ++ End ∷ []) (after q.1) × TypesFit q.0) (ok_is (b.0.0, c.0.1) y c.2) (
      join ts (spell.types b.0.0) b.0.1 (End ∷ []) (after c.0.1) text (end_takes b.0.1 c.0 c.1),
      record { declarations = subst (λ (l : List Declaration). list_all declaration_fits l ≡ true) (sym g.1) g.3; structs = few.0; externs = few.1 },
    )

no_declaration : (ts rest : Tokens) → Begins ts (End ∷ []) rest → read.begins_declaration ts ≡ false
no_declaration ts rest b = rw (sees_none s.Struct ts End [] rest b refl, sees_none s.Extern ts End [] rest b refl) refl

pub types_again : (ts : Tokens) (ds : List Declaration) (rest : Tokens) → Begins ts (spell.types ds ++ End ∷ []) rest → TypesFit ds → (last : Tokens) × (read.types ts ≡ Ok (ds, last))
unfolding read.types
types_again ts ds rest b fits =
    let a = split ts (spell.types ds) (End ∷ []) rest b in
    let room : length ds + 1 ≤ 129 = omega (arith, fits.structs, fits.externs) in
    (a.0, rw (declarations_again 129 [] ds ts a.0 a.1 fits.declarations (room_is [] ds (fits.structs, fits.externs)) room (no_declaration a.0 rest a.2), end_again a.0 rest a.2) refl)

-- declarations that are read fit
pub types_fit : (ts later : Tokens) (r : Result (List Declaration) Refusal) (ds : List Declaration) → Reads (read.types ts) r later → r ≡ Ok ds → TypesFit ds
types_fit ts later (Ok x) ds reads e =
    let same_list : x ≡ ds = cc in
    subst TypesFit same_list (types_take ts (x, later) reads).1
types_fit ts later (Err f) ds reads e = absurd cc

-- a text spells the declarations that are read from it
pub types_found : (bytes : List ℕ) (ds : List Declaration) → read.read_types bytes ≡ Ok ds → texts.SpellsTypes bytes ds × TypesFit ds
unfolding read.read_types read.read_whole
types_found bytes ds e =
    elim (chosen (ltb 1048576 (length bytes)) (Err TooLong) (answer_of (read.types (tokens 0 0 bytes))) (Ok ds) e) [
      | inl p ↦ let bad = p.1 in absurd cc
      | inr p ↦
          let r = answer_Ok (read.types (tokens 0 0 bytes)) ds p.1 in
          let t = types_take (tokens 0 0 bytes) (ds, r.0) r.1 in
          let c = within (tokens 0 0 bytes) (spell.types ds) End [] (after r.0) (tokens_are_text 0 0 bytes) t.0 in
          let none = ends_there c.0 (after r.0) c.1 c.2 in
          ((ltb-false 1048576 (length bytes) p.0, all_of_it (tokens 0 0 bytes) (spell.types ds ++ End ∷ []) (subst (λ (l : Tokens). Begins (tokens 0 0 bytes) (spell.types ds ++ End ∷ []) l) none t.0)), t.1)
    ]

-- a text that spells declarations is read as them
pub types_only : (bytes : List ℕ) (ds : List Declaration) → texts.SpellsTypes bytes ds → TypesFit ds → read.read_types bytes ≡ Ok ds
unfolding read.read_types read.read_whole
types_only bytes ds spells fits =
    let r = types_again (tokens 0 0 bytes) ds [] (begins_whole (tokens 0 0 bytes) (spell.types ds ++ End ∷ []) spells.1) fits in
    rw (le-ltb 1048576 (length bytes) spells.0, r.1) refl
