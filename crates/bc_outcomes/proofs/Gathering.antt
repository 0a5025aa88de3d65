-- Finding closures, number by number.
use Rattle.std.proofs.Common.{◌≡◌, ℕ, suc, ◌+◌, ◌<◌, ◌≤◌, List, [], ◌∷◌, ◌++◌, length, drop, get_or, refl, sym, ap, ◌∙◌, subst, append_assoc, append-nil, arith, length-append, Some}
use Rattle.std.specs.List.{AllZip}
use Rattle.std.proofs.Math.Seq.{drop-cons}
use Rattle.std.proofs.lemmas.List.{drop_all}
use Rattle.bc_names.specs.Names.{NameParts}
use Rattle.std.specs.Prelude.{Bool, true, false, None, ◌&&◌, nat_le, nat_lt, if◌then◌else◌}
use Rattle.std.proofs.lemmas.Bool.{leb-true}
use Rattle.bc_syntax.specs.declared.syntax.UnitKind.{UnitKind}
use Rattle.bc_syntax.specs.declared.syntax.UnitKind.TheVariants.{Function, Closure}
use Rattle.bc_prov.specs.State.{State, AreSuited, SuitsKind, child}
use Rattle.bc_prov.specs.Outcome.{absent_among}
use Rattle.bc_outcomes.specs.Visits.{IsKid}
use Rattle.bc_outcomes.specs.declared.walk.Kid.{Kid}

-- the closures before index i are these, and all are stored
pub record Gathers (state : State) (name : NameParts) (numbers : List ℕ) (i : ℕ) (kids : List Kid) : Type 0 where
  pub held : (rest : List Kid) → AllZip (IsKid state name) (drop i numbers) rest → AllZip (IsKid state name) numbers (kids ++ rest)
  pub absent : absent_among state name (drop i numbers) ≡ absent_among state name numbers

pub drop-at : {A : Type 0} (xs : List A) (i : ℕ) (d : A) → i < length xs → drop i xs ≡ get_or xs i d ∷ drop (i + 1) xs
drop-at xs i d within = drop-cons xs i d within ∙ ap (λ n. get_or xs i d ∷ drop n xs) (let next : suc i ≡ i + 1 = omega arith in next)

pub gathers_more : (state : State) (name : NameParts) (numbers : List ℕ) (i : ℕ) (kids : List Kid) (kid : Kid) → i < length numbers → IsKid state name (get_or numbers i 0) kid
    → Gathers state name numbers i kids → Gathers state name numbers (i + 1) (kids ++ kid ∷ [])
gathers_more state name numbers i kids kid within is before = record {
  held = λ rest h.
      subst (AllZip (IsKid state name) numbers) (sym (append_assoc kids (kid ∷ []) rest))
      (before.held (kid ∷ rest) (subst (λ (ns : List ℕ). AllZip (IsKid state name) ns (kid ∷ rest)) (sym (drop-at numbers i 0 within)) (is, h)));
  absent =
      sym (ap (absent_among state name) (drop-at numbers i 0 within) ∙ present state name (get_or numbers i 0) (drop (i + 1) numbers) _ is.held) ∙ before.absent;
}
  where
    present : (state : State) (name : NameParts) (number : ℕ) (numbers : List ℕ) (body : _) → state.bodies (child name number) ≡ Some body → absent_among state name (number ∷ numbers) ≡ absent_among state name numbers
    present state name number numbers body held = rw held refl

pub gathers_all : (state : State) (name : NameParts) (numbers : List ℕ) (i : ℕ) (kids : List Kid) → length numbers ≤ i → Gathers state name numbers i kids → AllZip (IsKid state name) numbers kids
gathers_all state name numbers i kids past all =
    subst (AllZip (IsKid state name) numbers) (append-nil kids)
    (all.held [] (subst (λ (ns : List ℕ). AllZip (IsKid state name) ns []) (sym (drop_all i numbers past)) tt))

-- if a child has a name, it is the wanted one: the child's number is at most 63, and there is room for it
pub child_found : (low few : Bool) (found wanted : NameParts) → Some found ≡ (if low && few then Some wanted else None) → (low ≡ true) × (few ≡ true) × (found ≡ wanted)
child_found true true found wanted e = (refl, refl, cc)
child_found true false found wanted e = absurd (cc)
child_found false few found wanted e = absurd (cc)

-- a body that suits the name of a child is a closure
is_closure : (kind : UnitKind) (segments : List ℕ) (number : ℕ) (name : NameParts) → name.segments ≡ segments ++ number ∷ [] → SuitsKind kind name → kind ≡ Closure
is_closure Closure segments number name is suits = refl
is_closure Function segments number name is suits = let none = sym is ∙ suits in let size = ap length none in absurd (omega (arith, size, length-append segments (number ∷ [])))

-- the body at a child's name is that child
pub kid_found : (state : State) (name : NameParts) (number : ℕ) (found : NameParts) (kid : Kid) → AreSuited state.bodies → Some found ≡ (if nat_le number 63 && nat_lt (length name.segments) 7 then Some (child name number) else None)
    → kid.number ≡ number → state.bodies found ≡ Some kid.unit.now → IsKid state name number kid
kid_found state name number found kid suited is numbered held =
    let both = child_found (nat_le number 63) (nat_lt (length name.segments) 7) found (child name number) is in
    let low : number ≤ 63 = leb-true number 63 both.0 in
    let few : length name.segments < 7 = leb-true (suc (length name.segments)) 7 both.1 in
    let here : state.bodies (child name number) ≡ Some kid.unit.now = ap state.bodies (sym both.2) ∙ held in
    record {
      numbered = numbered;
      is_child = record { number = omega (arith, numbered, low); kind = is_closure kid.unit.now.header.kind name.segments number (child name number) refl (suited (child name number) kid.unit.now here).kind };
      short = omega (arith, few, length-append name.segments (number ∷ []));
      held = here;
    }
