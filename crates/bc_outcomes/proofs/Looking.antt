-- What the closures that were found say of a body alone.
use Rattle.std.proofs.Common.{◌≡◌, ℕ, ◌<◌, ⊎_elim, subst, List, [], ◌∷◌, length, refl, sym, ap, ◌∙◌, Vec, Global}
use Rattle.std.specs.Prelude.{map, Option, Some, None}
use Rattle.std.specs.List.{AllZip, AllByRecursion}
use Rattle.std.specs.Option.{option_map, option_or}
use Rattle.bc_names.specs.Names.{NameParts}
use Rattle.bc_syntax.specs.Children.{children_of}
use Rattle.bc_syntax.specs.declared.syntax.Declaration.{Declaration}
use Rattle.bc_syntax.specs.declared.syntax.Body.{Body}
use Rattle.bc_bodies.specs.Mir.{mir_of}
use Rattle.bc_mir.specs.Typing.{misfit}
use Rattle.bc_bodies.specs.declared.children.Child.{Child}
use Rattle.bc_mir.specs.declared.typed.Where.{Where}
use Rattle.bc_prov.specs.declared.outcome.Outcome.TheVariants.{Missing, Ill}
use Rattle.bc_prov.specs.State.{State, AreSuited, children_at, mir_at, number_of_child}
use Rattle.bc_prov.specs.Outcome.{absent_among, own_fault}
use Rattle.bc_outcomes.specs.Visits.{IsKid, AreKids, ChildKid, child_of_kid}
use Rattle.bc_outcomes.specs.declared.walk.Kids.{Kids}
use Rattle.bc_outcomes.specs.declared.walk.Kids.TheVariants.{Stored}
use Rattle.bc_outcomes.specs.declared.walk.Kid.{Kid}

pub kid_headers : (state : State) (name : NameParts) (numbers : List ℕ) (kids : List Kid) → AllZip (IsKid state name) numbers kids → children_at state name numbers ≡ map child_of_kid kids
kid_headers state name [] [] h = refl
kid_headers state name [] (k ∷ ks) h = absurd h
kid_headers state name (n ∷ ns) [] h = absurd h
kid_headers state name (n ∷ ns) (k ∷ ks) h =
    rw h.0.held (λ i. record { number = sym h.0.numbered i; header = k.unit.now.header } ∷ kid_headers state name ns ks h.1 i)

pub kid_numbers : (state : State) (name : NameParts) (numbers : List ℕ) (kids : List Kid) → AllZip (IsKid state name) numbers kids → map number_of_child (map child_of_kid kids) ≡ numbers
kid_numbers state name [] [] h = refl
kid_numbers state name [] (k ∷ ks) h = absurd h
kid_numbers state name (n ∷ ns) [] h = absurd h
kid_numbers state name (n ∷ ns) (k ∷ ks) h = λ i. h.0.numbered i ∷ kid_numbers state name ns ks h.1 i

-- each closure that was found is a child
pub kids_are : (state : State) (name : NameParts) (numbers : List ℕ) (kids : List Kid) → AllZip (IsKid state name) numbers kids → AllByRecursion ChildKid kids
kids_are state name [] [] h = tt
kids_are state name [] (k ∷ ks) h = absurd h
kids_are state name (n ∷ ns) [] h = absurd h
kids_are state name (n ∷ ns) (k ∷ ks) h = (h.0.is_child, kids_are state name ns ks h.1)

pub none_absent : (state : State) (name : NameParts) (numbers : List ℕ) (kids : List Kid) → AllZip (IsKid state name) numbers kids → absent_among state name numbers ≡ None
none_absent state name [] [] h = refl
none_absent state name [] (k ∷ ks) h = absurd h
none_absent state name (n ∷ ns) [] h = absurd h
none_absent state name (n ∷ ns) (k ∷ ks) h = rw h.0.held (none_absent state name ns ks h.1)

-- a unit over the headers of the found closures is the MIR at its name
pub typed_there : (state : State) (name : NameParts) (body : Body) (types : List Declaration) (children : List Child) (kids : List Kid) → types ≡ state.types → children ≡ map child_of_kid kids
    → AllZip (IsKid state name) (children_of body) kids → mir_of types children body ≡ mir_at state name body
typed_there state name body types children kids same are held =
    let all : children ≡ children_at state name (children_of body) = are ∙ sym (kid_headers state name (children_of body) kids held) in
    λ i. mir_of (same i) (all i) body

-- if all children of a body are stored, its fault is its misfit
pub fault_of_held : (state : State) (name : NameParts) (body : Body) (kids : List Kid) (place : Option Where) → AllZip (IsKid state name) (children_of body) kids
    → misfit (mir_at state name body) ≡ place → own_fault state name body ≡ option_map (Ill name) place
fault_of_held state name body kids place held is =
    ap (λ (o : Option NameParts). option_or (option_map Missing o) (option_map (Ill name) (misfit (mir_at state name body)))) (none_absent state name (children_of body) kids held)
    ∙ ap (option_map (Ill name)) is

pub kids_here : (state : State) (name : NameParts) (body : Body) (numbers : List ℕ) (found : Kids) (kids : Vec Kid Global) → numbers ≡ children_of body → found ≡ Stored kids
    → AreKids state name numbers found → AllZip (IsKid state name) (children_of body) kids.items
kids_here state name body numbers found kids are is h = subst (λ (p : List ℕ × Kids). AreKids state name p.0 p.1) (λ i. (are i, is i)) h

-- a name whose body has closures has fewer than seven segments
pub room : (state : State) (name : NameParts) (body : Body) (numbers : List ℕ) → AreSuited state.bodies → state.bodies name ≡ Some body → numbers ≡ children_of body
    → (numbers ≡ [] → ⊥) → length name.segments < 7
room state name body numbers suited held are some =
    ⊎_elim (λ (none : children_of body ≡ []). absurd (some (are ∙ none))) (λ (few : length name.segments < 7). few) (suited name body held).room
