-- Tokens are read as regions, names and instances exactly if they spell them.
use Rattle.std.proofs.Common.{◌≡◌, ℕ, Bool, true, false, cond, ◌&&◌, ◌+◌, ltb, List, [], ◌∷◌, ◌++◌, length, Option, Some, None, Ok, refl, sym, ap, subst, inl, inr}
use Rattle.std.specs.Prelude.{get_or}
use Rattle.std.proofs.lemmas.Bool.{and_from, and_parts, and_right, leb-true, le-leb}
use Rattle.bc_syntax.specs.declared.symbol.Symbol.TheVariants as s
use Rattle.bc_syntax.specs.declared.numbering.Numbering.TheVariants as n
use Rattle.bc_syntax.specs.declared.syntax.Region.{Region}
use Rattle.bc_syntax.specs.declared.syntax.Region.TheVariants.{Universal, Variable}
use Rattle.bc_syntax.specs.declared.syntax.RegionName.{RegionName}
use Rattle.bc_syntax.specs.declared.syntax.ItemName.{ItemName}
use Rattle.bc_syntax.specs.declared.syntax.Instance.{Instance}
use Rattle.bc_syntax.specs.declared.syntax.ClosureInstance.{ClosureInstance}
use Rattle.bc_syntax.specs.Symbol.{same}
use Rattle.bc_syntax.specs.Words.{is_word}
use Rattle.bc_syntax.specs.Fits.{is_new, are_new, region_fits, regions_fit, item_fits, instance_fits, closure_fits}
use Rattle.std.specs.List.{list_all}
use Rattle.bc_syntax.specs.Token.{Token, Numbered}
use Rattle.bc_tokens.specs.Token.{Tokens}
use Rattle.bc_syntax.specs.Token.{Region as Named}
use Rattle.bc_syntax.specs.Universals.{universal_names}
use Rattle.bc_text.specs.Universals.{number_of}
use Rattle.bc_tokens.specs.Parser.{and_then, sees, sees_numbered, numbered, region_name, word, position, pure, fail, angled_list}
use Rattle.bc_text.specs.Reading as read
use Rattle.bc_syntax.specs.Spelling as spell
use Rattle.bc_text.proofs.Begins.{Begins, join, split, bind_ok, ok_is, chosen, chosen_parser, numbered_takes, numbered_again, region_name_takes, region_name_again, word_takes, word_again, sees_none, sees_numbered_same, sees_numbered_none}
use Rattle.bc_text.proofs.NumberLaws.{number_found, number_again, new_is}
use Rattle.bc_text.proofs.Lists.{Spells, Closes, angled_takes, angled_again}

-- the names of the declared regions are new
abbrev pub Declares : List RegionName → Type 0
Declares regions = are_new [] regions ≡ true

abbrev pub Anything : Tokens → Type 0
Anything ts = Unit {0}

-- no `<` comes next
abbrev pub NoLess : Tokens → Type 0
NoLess ts = sees s.Less ts ≡ false

-- ---- universal regions

declared_as-Ok : (at : ℕ) (found : Option ℕ) (ts : Tokens) (y : ℕ × Tokens) → read.declared_as at found ts ≡ Ok y → (found ≡ Some y.0) × (ts ≡ y.1)
declared_as-Ok at None ts y e = absurd cc
declared_as-Ok at (Some number) ts y e = let pair = ok_is (number, ts) y e in (ap (λ (q : ℕ × Tokens). Some q.0) pair, ap (λ (q : ℕ × Tokens). q.1) pair)

pub universal_takes : (regions : List RegionName) (ts : Tokens) (y : ℕ × Tokens) → read.universal regions ts ≡ Ok y → Begins ts (spell.universal regions y.0) y.1 × (ltb y.0 (length regions + 1) ≡ true)
unfolding read.universal
universal_takes regions ts y e =
    let b = bind_ok (region_name ts) (λ name. read.declared_as (position ts) (number_of regions name)) y e in
    let taken = region_name_takes ts b.0 b.1 in
    let d = declared_as-Ok (position ts) (number_of regions b.0.0) b.0.1 y b.2 in
    let found = number_found regions b.0.0 y.0 d.0 in
    let named : Begins ts (Named b.0.0 ∷ []) y.1 = subst (λ (l : Tokens). Begins ts (Named b.0.0 ∷ []) l) d.1 taken in
    (subst (λ (l : List ℕ). Begins ts (Named l ∷ []) y.1) (sym found.0) named, found.1)

pub universal_again : (regions : List RegionName) (ts : Tokens) (k : ℕ) (rest : Tokens) → Declares regions → Begins ts (spell.universal regions k) rest → ltb k (length regions + 1) ≡ true → read.universal regions ts ≡ Ok (k, rest)
unfolding read.universal
universal_again regions ts k rest declares p fits =
    let found = number_again regions k declares fits in
    rw (region_name_again ts (get_or (universal_names regions) k []) rest p found.1, found.0) refl

-- ---- regions

pub region_takes : (variables : Bool) (regions : List RegionName) (ts : Tokens) (y : Region × Tokens) → read.region variables regions ts ≡ Ok y → Begins ts (spell.region regions y.0) y.1 × (region_fits variables (length regions + 1) y.0 ≡ true)
unfolding read.region
region_takes variables regions ts y e =
    elim (chosen (variables && sees_numbered n.Variable ts) (and_then (numbered n.Variable 1023 ts) (λ v rest. Ok (Variable v, rest))) (and_then (read.universal regions ts) (λ k rest. Ok (Universal k, rest))) (Ok y) e) [
      | inl p ↦
          let b = bind_ok (numbered n.Variable 1023 ts) (λ v rest. Ok (Variable v, rest)) y p.1 in
          let taken = numbered_takes n.Variable 1023 ts b.0 b.1 in
          subst (λ (q : Region × Tokens). Begins ts (spell.region regions q.0) q.1 × (region_fits variables (length regions + 1) q.0 ≡ true)) (ok_is (Variable b.0.0, b.0.1) y b.2)
          (taken.0, and_from variables _ (and_parts variables (sees_numbered n.Variable ts) p.0).0 (le-leb b.0.0 1023 taken.1))
      | inr p ↦
          let b = bind_ok (read.universal regions ts) (λ k rest. Ok (Universal k, rest)) y p.1 in
          subst (λ (q : Region × Tokens). Begins ts (spell.region regions q.0) q.1 × (region_fits variables (length regions + 1) q.0 ≡ true)) (ok_is (Universal b.0.0, b.0.1) y b.2) (universal_takes regions ts b.0 b.1)
    ]

pub region_again : (variables : Bool) (regions : List RegionName) (ts : Tokens) (r : Region) (rest : Tokens) → Declares regions → Begins ts (spell.region regions r) rest → region_fits variables (length regions + 1) r ≡ true → read.region variables regions ts ≡ Ok (r, rest)
unfolding read.region
region_again variables regions ts (Universal k) rest declares p fits =
    rw (and_right variables (sees_numbered n.Variable ts) (sees_numbered_none n.Variable ts (Named (get_or (universal_names regions) k [])) [] rest p refl), universal_again regions ts k rest declares p fits) refl
region_again variables regions ts (Variable v) rest declares p fits =
    let parts = and_parts variables _ fits in
    rw (parts.0, sees_numbered_same n.Variable ts v [] rest p, numbered_again n.Variable 1023 ts v rest p (leb-true v 1023 parts.1)) refl

-- ---- names

pub new_region_takes : (before : List RegionName) (ts : Tokens) (y : RegionName × Tokens) → read.new_region before ts ≡ Ok y → Begins ts (spell.region_name y.0) y.1 × (is_new before y.0 ≡ true)
unfolding read.new_region
new_region_takes before ts y e =
    let b = bind_ok (region_name ts) (λ name. cond (is_new before (record { bytes = name })) (pure (record { bytes = name })) (fail (position ts))) y e in
    elim (chosen_parser (is_new before (record { bytes = b.0.0 })) (pure (record { bytes = b.0.0 })) (fail (position ts)) b.0.1 y b.2) [
      | inl p ↦ subst (λ (q : RegionName × Tokens). Begins ts (spell.region_name q.0) q.1 × (is_new before q.0 ≡ true)) (ok_is (record { bytes = b.0.0 }, b.0.1) y p.1) (region_name_takes ts b.0 b.1, p.0)
      | inr p ↦ let bad = p.1 in absurd cc
    ]

pub new_region_again : (before : List RegionName) (ts : Tokens) (r : RegionName) (rest : Tokens) → Begins ts (spell.region_name r) rest → is_new before r ≡ true → read.new_region before ts ≡ Ok (r, rest)
unfolding read.new_region
new_region_again before ts r rest p fits =
    let new = new_is before r fits in
    rw (region_name_again ts r.bytes rest p new.short, fits) refl

pub item_name_takes : (ts : Tokens) (y : ItemName × Tokens) → read.item_name ts ≡ Ok y → Begins ts (spell.item_name y.0) y.1 × (item_fits y.0 ≡ true)
unfolding read.item_name
item_name_takes ts y e =
    let b = bind_ok (word ts) (λ name. cond (is_word name) (pure (record { bytes = name })) (fail (position ts))) y e in
    let taken = word_takes ts b.0 b.1 in
    elim (chosen_parser (is_word b.0.0) (pure (record { bytes = b.0.0 })) (fail (position ts)) b.0.1 y b.2) [
      | inl p ↦ subst (λ (q : ItemName × Tokens). Begins ts (spell.item_name q.0) q.1 × (item_fits q.0 ≡ true)) (ok_is (record { bytes = b.0.0 }, b.0.1) y p.1) (taken.0, and_from (is_word b.0.0) _ p.0 (le-leb (length b.0.0) 32 taken.1))
      | inr p ↦ let bad = p.1 in absurd cc
    ]

pub item_name_again : (ts : Tokens) (name : ItemName) (rest : Tokens) → Begins ts (spell.item_name name) rest → item_fits name ≡ true → read.item_name ts ≡ Ok (name, rest)
unfolding read.item_name
item_name_again ts name rest p fits =
    let parts = and_parts (is_word name.bytes) _ fits in
    rw (word_again ts name.bytes rest p (leb-true (length name.bytes) 32 parts.1), parts.0) refl

-- ---- instances

region_law : (variables : Bool) (regions : List RegionName) → Declares regions → Spells (read.region variables regions) (spell.region regions) (region_fits variables (length regions + 1)) Anything
region_law variables regions declares = record { takes = region_takes variables regions; again = λ ts r rest b fits ends. region_again variables regions ts r rest declares b fits }

region_apart : (regions : List RegionName) (r : Region) (l : List Token) (ts rest : Tokens) → Begins ts (spell.region regions r ++ l) rest → sees s.Greater ts ≡ false
region_apart regions (Universal k) l ts rest b = sees_none s.Greater ts (Named (get_or (universal_names regions) k [])) l rest b refl
region_apart regions (Variable v) l ts rest b = sees_none s.Greater ts (Numbered n.Variable v) l rest b refl

regions_close : (regions : List RegionName) → Closes (spell.region regions) Anything s.Greater
unfolding same
regions_close regions = record {
  follows = record { comma_ends = λ ts x rest b. tt };
  close_ends = λ ts x rest b. tt;
  close_apart = refl;
  item_apart = region_apart regions;
}

-- regions in `<` and `>`
pub arguments_take : (variables : Bool) (regions : List RegionName) (ts : Tokens) (y : List Region × Tokens) → Declares regions → angled_list (read.begins_region variables) (read.region variables regions) 15 ts ≡ Ok y
    → Begins ts (spell.angled (spell.region regions) y.0) y.1 × (regions_fit variables (length regions + 1) y.0 ≡ true)
arguments_take variables regions ts y declares e =
    let list = angled_takes (region_law variables regions declares) (read.begins_region variables) 15 ts y e in
    (list.0, and_from (list_all (region_fits variables (length regions + 1)) y.0) _ list.1.0 (le-leb (length y.0) 15 list.1.1))

pub arguments_again : (variables : Bool) (regions : List RegionName) (ts : Tokens) (rs : List Region) (rest : Tokens) → Declares regions → Begins ts (spell.angled (spell.region regions) rs) rest → regions_fit variables (length regions + 1) rs ≡ true → NoLess rest
    → angled_list (read.begins_region variables) (read.region variables regions) 15 ts ≡ Ok (rs, rest)
arguments_again variables regions ts rs rest declares p fits other =
    let list = and_parts (list_all (region_fits variables (length regions + 1)) rs) _ fits in
    angled_again (region_law variables regions declares) (read.begins_region variables) 15 (regions_close regions) ts rs rest p (list.0, leb-true (length rs) 15 list.1) other

pub instance_takes : (variables : Bool) (regions : List RegionName) (ts : Tokens) (y : Instance × Tokens) → Declares regions → read.instance variables regions ts ≡ Ok y → Begins ts (spell.instance regions y.0) y.1 × (instance_fits variables (length regions + 1) y.0 ≡ true)
unfolding read.instance
instance_takes variables regions ts y declares e =
    let b = bind_ok (read.item_name ts) (λ name rest. and_then (angled_list (read.begins_region variables) (read.region variables regions) 15 rest) (λ rs last. Ok (record { name = name; regions = rs }, last))) y e in
    let c = bind_ok (angled_list (read.begins_region variables) (read.region variables regions) 15 b.0.1) (λ rs last. Ok (record { name = b.0.0; regions = rs }, last)) y b.2 in
    let name = item_name_takes ts b.0 b.1 in
    let list = arguments_take variables regions b.0.1 c.0 declares c.1 in
    subst (λ (q : Instance × Tokens). Begins ts (spell.instance regions q.0) q.1 × (instance_fits variables (length regions + 1) q.0 ≡ true)) (ok_is (record { name = b.0.0; regions = c.0.0 }, c.0.1) y c.2)
    (join ts (spell.item_name b.0.0) b.0.1 (spell.angled (spell.region regions) c.0.0) c.0.1 name.0 list.0, and_from (item_fits b.0.0) (regions_fit variables (length regions + 1) c.0.0) name.1 list.1)

pub instance_again : (variables : Bool) (regions : List RegionName) (ts : Tokens) (i : Instance) (rest : Tokens) → Declares regions → Begins ts (spell.instance regions i) rest → instance_fits variables (length regions + 1) i ≡ true → NoLess rest → read.instance variables regions ts ≡ Ok (i, rest)
unfolding read.instance
instance_again variables regions ts i rest declares p fits other =
    let parts = and_parts (item_fits i.name) (regions_fit variables (length regions + 1) i.regions) fits in
    let a = split ts (spell.item_name i.name) (spell.angled (spell.region regions) i.regions) rest p in
    rw (item_name_again ts i.name a.0 a.1 parts.0, arguments_again variables regions a.0 i.regions rest declares a.2 parts.1 other) refl

-- ---- closures

pub closure_takes : (regions : List RegionName) (ts : Tokens) (y : ClosureInstance × Tokens) → Declares regions → read.closure_instance regions ts ≡ Ok y → Begins ts (spell.closure_number regions y.0) y.1 × (closure_fits true (length regions + 1) y.0 ≡ true)
unfolding read.closure_instance
closure_takes regions ts y declares e =
    let b = bind_ok (numbered n.Number 63 ts) (λ k rest. and_then (angled_list (read.begins_region true) (read.region true regions) 15 rest) (λ rs last. Ok (record { number = k; regions = rs }, last))) y e in
    let c = bind_ok (angled_list (read.begins_region true) (read.region true regions) 15 b.0.1) (λ rs last. Ok (record { number = b.0.0; regions = rs }, last)) y b.2 in
    let k = numbered_takes n.Number 63 ts b.0 b.1 in
    let list = arguments_take true regions b.0.1 c.0 declares c.1 in
    subst (λ (q : ClosureInstance × Tokens). Begins ts (spell.closure_number regions q.0) q.1 × (closure_fits true (length regions + 1) q.0 ≡ true)) (ok_is (record { number = b.0.0; regions = c.0.0 }, c.0.1) y c.2)
    (join ts (Numbered n.Number b.0.0 ∷ []) b.0.1 (spell.angled (spell.region regions) c.0.0) c.0.1 k.0 list.0, and_from _ (regions_fit true (length regions + 1) c.0.0) (le-leb b.0.0 63 k.1) list.1)

pub closure_again : (regions : List RegionName) (ts : Tokens) (c : ClosureInstance) (rest : Tokens) → Declares regions → Begins ts (spell.closure_number regions c) rest → closure_fits true (length regions + 1) c ≡ true → NoLess rest → read.closure_instance regions ts ≡ Ok (c, rest)
unfolding read.closure_instance
closure_again regions ts c rest declares p fits other =
    let parts = and_parts _ (regions_fit true (length regions + 1) c.regions) fits in
    let a = split ts (Numbered n.Number c.number ∷ []) (spell.angled (spell.region regions) c.regions) rest p in
    rw (numbered_again n.Number 63 ts c.number a.0 a.1 (leb-true c.number 63 parts.0), arguments_again true regions a.0 c.regions rest declares a.2 parts.1 other) refl
