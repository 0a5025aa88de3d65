-- The roots that a history leaves.
use Rattle.std.proofs.Common.{◌≡◌, ℕ, zero, suc, ◌<◌, Bool, true, false, List, [], ◌∷◌, length, get_or, cond, eq-eqb, refl, ap, sym, subst, ◌∙◌, arith, Option, Some, None}
use Rattle.std.specs.Prelude.{IsSome, filter}
use Rattle.std.specs.List.{Contains}
use Rattle.std.specs.Map.{keys_of}
use Rattle.std.specs.Cmp.{eq_by_cmp_equiv}
use Rattle.std.proofs.lemmas.Bool.{eqb-true}
use Rattle.std.proofs.lemmas.List.Elements.{All-contains, All-contains_itself, All-filter, filter_passes}
use Rattle.std.proofs.lemmas.List.Kept.{IsStrictlySortedBy-filter}
use Rattle.std.proofs.lemmas.Map.Views.{Contains-keys_from_lookup, IsSome-lookup_from_Contains}
use Rattle.bc_names.specs.Names.{NameParts, name_order}
use Rattle.bc_names.proofs.Equality.{names_total}
use Rattle.bc_syntax.specs.declared.syntax.Body.{Body}
use Rattle.bc_prov.specs.State.{at_name, is_root}
use Rattle.bc_memo.specs.declared.place.Place.{Place}
use Rattle.bc_memo.specs.Places.{ShelfView, roots_in, unit_of}
use Rattle.bc_memo.proofs.Places.{same_name}
use Rattle.bc_calls.specs.declared.call.Entry.{Entry}
use Rattle.bc_calls.specs.Calls.{after}
use Rattle.bc_calls.specs.Answers.{IsShelfOf}
use Rattle.bc_calls.specs.Beginnings.{AreRoots}

no_items : (ns : List ℕ) → length ns ≡ 0 → ns ≡ []
no_items [] none = refl
no_items (n ∷ ns) none = absurd (omega arith)

-- a root has no segments
pub root_bare : (n : NameParts) → is_root n ≡ true → n.segments ≡ []
root_bare n is = no_items n.segments (eqb-true (length n.segments) 0 is)

-- and a name without segments is one
pub bare_root : (n : NameParts) → n.segments ≡ [] → is_root n ≡ true
bare_root n none = eq-eqb (length n.segments) 0 (ap length none)

-- an element that passes a test stays in the filtered list
stays_at : {X : Type 0} (test : X → Bool) (xs : List X) (x : X) (k : ℕ) → test x ≡ true → k < length xs → get_or xs k x ≡ x → Contains (filter test xs) x
stays_at test [] x k passes less is = absurd (omega arith)
stays_at test (y ∷ ys) x zero passes less is = subst (λ (b : Bool). Contains (cond b (y ∷ filter test ys) (filter test ys)) x) (sym (ap test is ∙ passes)) (0, omega arith, is)
stays_at {X} test (y ∷ ys) x (suc k) passes less is = more (test y) (stays_at test ys x k passes (omega arith) is)
  where
    more : (b : Bool) → Contains (filter test ys) x → Contains (cond b (y ∷ filter test ys) (filter test ys)) x
    more true c = (suc c.0, (let low = c.1 in omega (arith, low)), c.2)
    more false c = c

held_place : (o : Option Place) (b : Option Body) → unit_of o ≡ b → IsSome b → IsSome o
held_place None b is held = subst (λ (u : Option Body). IsSome u) (sym is) held
held_place (Some p) b is held = refl

place_held : (o : Option Place) (b : Option Body) → unit_of o ≡ b → IsSome o → IsSome b
place_held None b is held = absurd (cc)
place_held (Some p) b is held = subst (λ (u : Option Body). IsSome u) is refl

-- the roots of places are the roots that a history leaves
pub roots_held : (s : ShelfView) (h : List Entry) → IsShelfOf s h → AreRoots (after h) (roots_in s.places)
roots_held s h of = record {
  ascending = IsStrictlySortedBy-filter name_order is_root (keys_of s.places) of.ordered;
  just = λ n. (
    λ held. let c = Contains-keys_from_lookup (λ x y is. (same_name x y).0 is) n s.places (held_place (at_name s.places n) ((after h).bodies n) (of.bodies n) held.1) in
        stays_at is_root (keys_of s.places) n c.0 (bare_root n held.0) c.1 c.2,
    λ among. (
      root_bare n (All-contains (λ (m : NameParts). is_root m ≡ true) (roots_in s.places) n (filter_passes is_root (keys_of s.places)) among),
      place_held (at_name s.places n) ((after h).bodies n) (of.bodies n)
          (IsSome-lookup_from_Contains (eq_by_cmp_equiv names_total) n s.places
          (All-contains (Contains (keys_of s.places)) (roots_in s.places) n (All-filter is_root (Contains (keys_of s.places)) (keys_of s.places) (All-contains_itself (keys_of s.places))) among)),
    ),
  );
}
