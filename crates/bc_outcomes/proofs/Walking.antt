-- Visiting bodies, closure by closure.
use Rattle.std.proofs.Common.{◌≡◌, ℕ, zero, suc, ◌+◌, ◌<◌, ◌≤◌, List, [], ◌∷◌, ◌++◌, length, drop, get_or, refl, sym, ap, ◌∙◌, subst, append_assoc, append-nil, arith, length-append, Some, None, Vec, Global}
use Rattle.std.specs.Prelude.{map, Option, is_some, Bool, true, false, if◌then◌else◌}
use Rattle.std.specs.List.{AllZip, flat_map}
use Rattle.std.specs.Option.{option_or}
use Rattle.std.proofs.lemmas.List.{drop_all}
use Rattle.bc_names.specs.Names.{NameParts}
use Rattle.bc_syntax.specs.Children.{children_of}
use Rattle.bc_syntax.specs.declared.syntax.Body.{Body}
use Rattle.bc_prov.specs.declared.outcome.Outcome.{Outcome}
use Rattle.bc_prov.specs.State.{State, child}
use Rattle.bc_prov.specs.Outcome.{fault_at, units_at, first_among, own_fault}
use Rattle.bc_outcomes.specs.Visits.{IsKid, IsLooked, visit_of}
use Rattle.bc_outcomes.specs.declared.walk.Kid.{Kid}
use Rattle.bc_outcomes.specs.declared.walk.BodyVisit.{BodyVisit}
use Rattle.bc_outcomes.specs.declared.walk.BodyVisit.TheVariants.{Fitting, Faulty}
use Rattle.bc_outcomes.specs.Visited.{VisitView}
use Rattle.std.specs.Option.{IsSome}
use Rattle.std.specs.Prelude.{◌&&◌, nat_le, nat_lt}
use Rattle.std.proofs.lemmas.Bool.{le-leb}
use Rattle.bc_outcomes.proofs.Gathering.{drop-at}
use Rattle.bc_outcomes.proofs.Steps.{fault-step, units-step}

-- the numbers of closures
abbrev pub numbers_of : List Kid → List ℕ
numbers_of kids = map (λ (k : Kid). k.number) kids

-- the first fault from these closures on
abbrev pub fault_among : State → NameParts → List ℕ → Option Outcome
fault_among state name numbers = first_among (λ number. fault_at state (child name number)) numbers

-- the visits from these closures on
abbrev pub visits_among : State → NameParts → List ℕ → List VisitView
visits_among state name numbers = map (visit_of state) (flat_map (λ number. units_at state (child name number)) numbers)

-- the closures before index i have no fault, and the visits from them on are made
pub record Walks (state : State) (name : NameParts) (kids : List Kid) (i : ℕ) (first visits : List VisitView) : Type 0 where
  pub faults : fault_among state name (numbers_of (drop i kids)) ≡ fault_among state name (numbers_of kids)
  pub visited : visits ++ visits_among state name (numbers_of (drop i kids)) ≡ first ++ visits_among state name (numbers_of kids)

-- the closure is stored, and its name has at most seven segments, whose last is its number
pub record IsHeld (state : State) (name : NameParts) (kid : Kid) : Type 0 where
  pub low : kid.number ≤ 63
  pub short : length (child name kid.number).segments ≤ 7
  pub held : state.bodies (child name kid.number) ≡ Some kid.unit.now

kid_held : (state : State) (name : NameParts) (number : ℕ) (kid : Kid) → IsKid state name number kid → IsHeld state name kid
kid_held state name number kid is = record {
  low = is.is_child.number;
  short = subst (λ n. length (child name n).segments ≤ 7) (sym is.numbered) is.short;
  held = ap (λ n. state.bodies (child name n)) is.numbered ∙ is.held;
}

pub kid_at : (state : State) (name : NameParts) (numbers : List ℕ) (kids : List Kid) (i : ℕ) (d : Kid) → AllZip (IsKid state name) numbers kids → i < length kids → IsHeld state name (get_or kids i d)
kid_at state name [] [] i d h within = absurd (omega (arith, within))
kid_at state name [] (k ∷ ks) i d h within = absurd h
kid_at state name (n ∷ ns) [] i d h within = absurd h
kid_at state name (n ∷ ns) (k ∷ ks) zero d h within = kid_held state name n k h.0
kid_at state name (n ∷ ns) (k ∷ ks) (suc i) d h within = kid_at state name ns ks i d h.1 (omega (arith, within))

pub numbers-same : (state : State) (name : NameParts) (numbers : List ℕ) (kids : List Kid) → AllZip (IsKid state name) numbers kids → numbers_of kids ≡ numbers
numbers-same state name [] [] h = refl
numbers-same state name [] (k ∷ ks) h = absurd h
numbers-same state name (n ∷ ns) [] h = absurd h
numbers-same state name (n ∷ ns) (k ∷ ks) h = λ i. h.0.numbered i ∷ numbers-same state name ns ks h.1 i

-- what a look at a body returns
pub looked_fitting : (state : State) (name : NameParts) (body : Body) (found : BodyVisit) (visit : VisitView) (kids : Vec Kid Global) → found ≡ Fitting visit kids → IsLooked state name body found
    → (own_fault state name body ≡ None) × (visit ≡ visit_of state (name, body)) × AllZip (IsKid state name) (children_of body) kids.items
looked_fitting state name body found visit kids is h = subst (IsLooked state name body) is h

pub looked_faulty : (state : State) (name : NameParts) (body : Body) (found : BodyVisit) (fault : Outcome) → found ≡ Faulty fault → IsLooked state name body found → length name.segments ≤ 7 → state.bodies name ≡ Some body
    → fault_at state name ≡ Some fault
looked_faulty state name body found fault is h short held =
    let own : own_fault state name body ≡ Some fault = subst (IsLooked state name body) is h in
    fault-step state name body short held
    ∙ ap (λ (o : Option Outcome). option_or o (first_among (λ number. fault_at state (child name number)) (children_of body))) own

-- if the body alone has no fault, the first fault from it on is the first from its closures on
pub fault_below : (state : State) (name : NameParts) (body : Body) (kids : List Kid) → length name.segments ≤ 7 → state.bodies name ≡ Some body → own_fault state name body ≡ None → AllZip (IsKid state name) (children_of body) kids
    → fault_at state name ≡ fault_among state name (numbers_of kids)
fault_below state name body kids short held none are =
    fault-step state name body short held
    ∙ ap (λ (o : Option Outcome). option_or o (fault_among state name (children_of body))) none
    ∙ ap (fault_among state name) (sym (numbers-same state name (children_of body) kids are))

or_some : (a b : Option Outcome) → is_some a ≡ true → option_or a b ≡ a
or_some None b e = absurd (cc)
or_some (Some x) b e = refl

-- if the closure at index i has a fault and none before it does, that is the first fault among the closures
pub fault_here : (state : State) (name : NameParts) (kids : List Kid) (i : ℕ) (kid : Kid) (first visits : List VisitView) (below : Option Outcome) → i < length kids → kid ≡ get_or kids i kid → Walks state name kids i first visits
    → below ≡ fault_at state (child name kid.number) → is_some below ≡ true → fault_among state name (numbers_of kids) ≡ below
fault_here state name kids i kid first visits below within is walks found some =
    sym walks.faults
    ∙ ap (λ (ks : List Kid). fault_among state name (numbers_of ks)) (drop-at kids i kid within ∙ ap (λ (k : Kid). k ∷ drop (i + 1) kids) (sym is))
    ∙ ap (λ (o : Option Outcome). option_or o (fault_among state name (numbers_of (drop (i + 1) kids)))) (sym found)
    ∙ or_some below (fault_among state name (numbers_of (drop (i + 1) kids))) some

pub fault_past : (state : State) (name : NameParts) (kids : List Kid) (i : ℕ) (first visits : List VisitView) → length kids ≤ i → Walks state name kids i first visits → fault_among state name (numbers_of kids) ≡ None
fault_past state name kids i first visits past walks = sym walks.faults ∙ ap (λ (ks : List Kid). fault_among state name (numbers_of ks)) (drop_all i kids past)

-- after the last closure all bodies from the name on are visited
pub visits_past : (state : State) (name : NameParts) (body : Body) (visit : VisitView) (kids : List Kid) (i : ℕ) (old first visits : List VisitView) → length kids ≤ i → Walks state name kids i first visits
    → first ≡ old ++ visit ∷ [] → visit ≡ visit_of state (name, body) → AllZip (IsKid state name) (children_of body) kids → length name.segments ≤ 7 → state.bodies name ≡ Some body
    → visits ≡ old ++ map (visit_of state) (units_at state name)
visits_past state name body visit kids i old first visits past walks pushed is are short held =
    sym (append-nil visits)
    ∙ ap (λ (ks : List Kid). visits ++ visits_among state name (numbers_of ks)) (sym (drop_all i kids past))
    ∙ walks.visited
    ∙ ap (λ (f : List VisitView). f ++ visits_among state name (numbers_of kids)) pushed
    ∙ append_assoc old (visit ∷ []) (visits_among state name (numbers_of kids))
    ∙ (λ j. old ++ is j ∷ visits_among state name (numbers-same state name (children_of body) kids are j))
    ∙ ap (λ (us : List (NameParts × Body)). old ++ map (visit_of state) us) (sym (units-step state name body short held))

-- if a child has a name, it is the wanted one
pub child_is : (few : Bool) (found wanted : NameParts) → Some found ≡ (if few then Some wanted else None) → found ≡ wanted
child_is true found wanted e = cc
child_is false found wanted e = absurd (cc)

map-append-of : {A B : Type 0} (f : A → B) (xs ys : List A) → map f (xs ++ ys) ≡ map f xs ++ map f ys
map-append-of f [] ys = refl
map-append-of f (x ∷ xs) ys = ap (λ zs. f x ∷ zs) (map-append-of f xs ys)

or_none : (a b : Option Outcome) → is_some a ≡ false → option_or a b ≡ b
or_none None b e = refl
or_none (Some x) b e = absurd (cc)

-- one closure more is visited
pub walks_more : (state : State) (name : NameParts) (kids : List Kid) (i : ℕ) (kid : Kid) (first visits new : List VisitView) (below : Option Outcome) → i < length kids → kid ≡ get_or kids i kid → below ≡ fault_at state (child name kid.number) → is_some below ≡ false
    → new ≡ visits ++ map (visit_of state) (units_at state (child name kid.number)) → Walks state name kids i first visits → Walks state name kids (i + 1) first new
walks_more state name kids i kid first visits new below within is found none added walks =
    let rest = numbers_of (drop (i + 1) kids) in
    let here : numbers_of (drop i kids) ≡ kid.number ∷ rest = ap numbers_of (drop-at kids i kid within ∙ ap (λ (k : Kid). k ∷ drop (i + 1) kids) (sym is)) in
    record {
      faults =
          sym (ap (fault_among state name) here ∙ ap (λ (o : Option Outcome). option_or o (fault_among state name rest)) (sym found) ∙ or_none below (fault_among state name rest) none)
          ∙ walks.faults;
      visited =
          ap (λ vs. vs ++ visits_among state name rest) added
          ∙ append_assoc visits (map (visit_of state) (units_at state (child name kid.number))) (visits_among state name rest)
          ∙ ap (λ vs. visits ++ vs) (sym (map-append-of (visit_of state) (units_at state (child name kid.number)) (flat_map (λ number. units_at state (child name number)) rest)))
          ∙ ap (λ ns. visits ++ visits_among state name ns) (sym here)
          ∙ walks.visited;
    }

-- a stored closure has a name
pub child_there : (name : NameParts) (number : ℕ) (found : Option NameParts) → found ≡ (if nat_le number 63 && nat_lt (length name.segments) 7 then Some (child name number) else None) → number ≤ 63 → length (child name number).segments ≤ 7 → IsSome found
child_there name number found is low short =
    let one = le-leb number 63 low in
    let few : length name.segments < 7 = omega (arith, short, length-append name.segments (number ∷ [])) in
    let two = le-leb (suc (length name.segments)) 7 few in
    subst IsSome (sym is) (both (nat_le number 63) (nat_lt (length name.segments) 7) one two)
  where
    both : (low few : Bool) → low ≡ true → few ≡ true → IsSome (if low && few then Some (child name number) else None)
    both true true one two = refl
    both true false one two = absurd cc
    both false few one two = absurd cc
