-- Judging bodies from the last to the first.
use Rattle.std.proofs.Common.{◌≡◌, ℕ, Bool, true, false, suc, ◌<◌, ◌≤◌, ⊎_elim, List, [], ◌∷◌, ◌++◌, length, refl, sym, ap, ◌∙◌, subst, append_assoc, append-nil, arith, Some, None, Option, length-append}
use Rattle.std.specs.Prelude.{map, fold, is_none, if◌then◌else◌}
use Rattle.std.specs.List.{AllZip, AllByRecursion, flat_map, zip}
use Rattle.std.specs.Option.{option_or, option_map}
use Rattle.std.proofs.lemmas.List.Sums.{fold-append}
use Rattle.bc_names.specs.Names.{NameParts}
use Rattle.bc_syntax.specs.Children.{children_of}
use Rattle.bc_syntax.specs.declared.syntax.Declaration.{Declaration}
use Rattle.bc_syntax.specs.declared.syntax.Body.{Body}
use Rattle.bc_bodies.specs.Externals.{external_regions}
use Rattle.bc_bodies.specs.Mir.{Mir}
use Rattle.bc_mir.specs.Typing.{misfit}
use Rattle.bc_cons.specs.declared.requirements.Requirements.{Requirements}
use Rattle.bc_cons.specs.Requirements.{MayGoUp, AreOfChildren}
use Rattle.bc_judge.specs.declared.verdict.Verdict.{Verdict}
use Rattle.bc_prov.specs.declared.outcome.Outcome.TheVariants.{Missing, Ill, Report}
use Rattle.bc_prov.specs.Pieces.{PieceView, AreSomeOf, IsFoundFrom}
use Rattle.bc_outcomes.specs.Reported.{IsPieceAt, errors_in}
use Rattle.bc_outcomes.specs.Visited.{VisitView}
use Rattle.bc_prov.specs.State.{State, AreSuited, child, children_at, mir_at, number_of_child}
use Rattle.bc_prov.specs.Verdicts.{IsVerdictAt, IsVerdictOf, requirements_by}
use Rattle.bc_prov.specs.declared.outcome.BodyErrors.{BodyErrors}
use Rattle.bc_prov.specs.declared.outcome.Outcome.{Outcome}
use Rattle.bc_prov.specs.Outcome.{IsOutcomeAfter, IsReported, absent_among, own_fault, first_among, fault_at, units_at}
use Rattle.bc_outcomes.specs.Visits.{IsSound, visit_of}
use Rattle.bc_outcomes.proofs.Steps.{fault-step, units-step, verdict-step}

-- ---- lists

flat_map-append : {A B : Type 0} (f : A → List B) (xs ys : List A) → flat_map f (xs ++ ys) ≡ flat_map f xs ++ flat_map f ys
flat_map-append f [] ys = refl
flat_map-append f (x ∷ xs) ys = ap (λ zs. f x ++ zs) (flat_map-append f xs ys) ∙ sym (append_assoc (f x) (flat_map f xs) (flat_map f ys))

flat_map-map : {A B C : Type 0} (f : B → List C) (g : A → B) (xs : List A) → flat_map f (map g xs) ≡ flat_map (λ x. f (g x)) xs
flat_map-map f g [] = refl
flat_map-map f g (x ∷ xs) = ap (λ zs. f (g x) ++ zs) (flat_map-map f g xs)

-- the last element of a mapped list
map-snoc : {A B : Type 0} (f : A → B) (xs : List A) (ys : List B) (y : B) → ys ++ y ∷ [] ≡ map f xs → (front : List A) × (x : A) × (xs ≡ front ++ x ∷ []) × (ys ≡ map f front) × (y ≡ f x)
map-snoc f [] [] y e = absurd (cc)
map-snoc f [] (z ∷ ys) y e = absurd (cc)
map-snoc f (x ∷ []) [] y e = ([], x, refl, refl, cc)
map-snoc f (x ∷ x' ∷ xs) [] y e = absurd (cc)
map-snoc f (x ∷ xs) (z ∷ ys) y e =
    let tails : ys ++ y ∷ [] ≡ map f xs = cc in
    let heads : z ≡ f x = cc in
    let t = map-snoc f xs ys y tails in
    (x ∷ t.0, t.1, ap (λ zs. x ∷ zs) t.2, (λ i. heads i ∷ t.3 i), t.4)

pub length-zip-all : {A B : Type 0} (R : A → B → Type 0) (xs : List A) (ys : List B) → AllZip R xs ys → length xs ≡ length ys
length-zip-all R [] [] h = refl
length-zip-all R [] (y ∷ ys) h = absurd h
length-zip-all R (x ∷ xs) [] h = absurd h
length-zip-all R (x ∷ xs) (y ∷ ys) h = ap suc (length-zip-all R xs ys h.1)

-- a relation between two lists that are cut at the same index
AllZip-cut : {A B : Type 0} (R : A → B → Type 0) (xs xs' : List A) (ys ys' : List B) → length xs ≡ length ys → AllZip R (xs ++ xs') (ys ++ ys') → AllZip R xs ys × AllZip R xs' ys'
AllZip-cut R [] xs' [] ys' e h = (tt, h)
AllZip-cut R [] xs' (y ∷ ys) ys' e h = absurd (omega (arith, e))
AllZip-cut R (x ∷ xs) xs' [] ys' e h = absurd (omega (arith, e))
AllZip-cut R (x ∷ xs) xs' (y ∷ ys) ys' e h =
    let t = AllZip-cut R xs xs' ys ys' (omega (arith, e)) h.1 in ((h.0, t.0), t.1)

-- ---- what holds below a sound name

none_left : {A : Type 0} (a b : Option A) → option_or a b ≡ None → a ≡ None
none_left None b e = refl
none_left (Some x) b e = absurd (cc)

none_right : {A : Type 0} (a b : Option A) → option_or a b ≡ None → b ≡ None
none_right None b e = e
none_right (Some x) b e = absurd (cc)

none_mapped : {A B : Type 0} (f : A → B) (a : Option A) → option_map f a ≡ None → a ≡ None
none_mapped f None e = refl
none_mapped f (Some x) e = absurd (cc)

-- the closures of these numbers are sound
sound_all : (state : State) (name : NameParts) (numbers : List ℕ) → absent_among state name numbers ≡ None → first_among (λ number. fault_at state (child name number)) numbers ≡ None → length name.segments < 7 → AreSuited state.bodies
    → AllByRecursion (IsSound state) (map (child name) numbers)
sound_all state name [] held none few rooms = tt
sound_all state name (n ∷ ns) held none few rooms = by_body (state.bodies (child name n)) refl
    (λ present. sound_all state name ns present (none_right (fault_at state (child name n)) _ none) few rooms)
  where
    by_body : (o : Option Body) → state.bodies (child name n) ≡ o → (absent_among state name ns ≡ None → AllByRecursion (IsSound state) (map (child name) ns))
        → AllByRecursion (IsSound state) (map (child name) (n ∷ ns))
    by_body None e rest = absurd (absurd_from (state.bodies (child name n)) e held)
      where
        absurd_from : (o : Option Body) → o ≡ None → (if is_none o then Some (child name n) else absent_among state name ns) ≡ None → ⊥
        absurd_from None e h = cc
        absurd_from (Some b) e h = cc
    by_body (Some body) e rest = (
      record { body = body; held = e; short = omega (arith, few, length-append name.segments (n ∷ [])); faultless = none_left (fault_at state (child name n)) _ none; suited = rooms },
      rest (present_from (state.bodies (child name n)) e held),
    )
      where
        present_from : (o : Option Body) → o ≡ Some body → (if is_none o then Some (child name n) else absent_among state name ns) ≡ None → absent_among state name ns ≡ None
        present_from None e h = absurd (cc)
        present_from (Some b) e h = h

pub all-append : {A : Type 0} (P : A → Type 0) (xs ys : List A) → AllByRecursion P xs → AllByRecursion P ys → AllByRecursion P (xs ++ ys)
all-append P [] ys h k = k
all-append P (x ∷ xs) ys h k = (h.0, all-append P xs ys h.1 k)

-- the closures of a sound name are sound
sound_kids : (state : State) (name : NameParts) (s : IsSound state name) → AllByRecursion (IsSound state) (map (child name) (children_of s.body))
sound_kids state name s = over (children_of s.body) refl
  where
    none : option_or (own_fault state name s.body) (first_among (λ number. fault_at state (child name number)) (children_of s.body)) ≡ None
    none = sym (fault-step state name s.body s.short s.held) ∙ s.faultless

    present : absent_among state name (children_of s.body) ≡ None
    present = none_mapped Missing _ (none_left _ (option_map (Ill name) (misfit (mir_at state name s.body))) (none_left (own_fault state name s.body) _ none))

    over : (numbers : List ℕ) → children_of s.body ≡ numbers → AllByRecursion (IsSound state) (map (child name) (children_of s.body))
    over [] e = subst (λ (ns : List ℕ). AllByRecursion (IsSound state) (map (child name) ns)) (sym e) tt
    over (n ∷ ns) e =
        sound_all state name (children_of s.body) present (none_right (own_fault state name s.body) _ none)
        (⊎_elim (λ (empty : children_of s.body ≡ []). absurd (some n ns (sym e ∙ empty))) (λ (few : length name.segments < 7). few) (s.suited name s.body s.held).room) s.suited
      where
        some : (n : ℕ) (ns : List ℕ) → n ∷ ns ≡ [] → ⊥
        some n ns h = cc

-- ---- the names whose bodies come next, after each body of a visit

-- what comes next after a body is visited: its closures, then what came next before
abbrev pub next : List NameParts → NameParts × Body → List NameParts
next [] unit = []
next (name ∷ names) unit = map (child unit.0) (children_of unit.1) ++ names

-- what comes next after these bodies
abbrev pub open_after : NameParts → List (NameParts × Body) → List NameParts
open_after root before = fold next (root ∷ []) before

split : (state : State) (before rest : List (NameParts × Body)) (roots : List NameParts) → AllByRecursion (IsSound state) roots → before ++ rest ≡ flat_map (units_at state) roots
    → AllByRecursion (IsSound state) (fold next roots before) × (rest ≡ flat_map (units_at state) (fold next roots before))
split state [] rest roots sound e = (sound, e)
split state (u ∷ before) rest [] sound e = absurd (cc)
split state (u ∷ before) rest (r ∷ rs) sound e =
    let s = sound.0 in
    let whole : u ∷ (before ++ rest) ≡ (r, s.body) ∷ (flat_map (λ k. units_at state (child r k)) (children_of s.body) ++ flat_map (units_at state) rs) =
    e ∙ ap (λ us. us ++ flat_map (units_at state) rs) (units-step state r s.body s.short s.held) in
    let head : u ≡ (r, s.body) = cc in
    let tail : before ++ rest ≡ flat_map (λ k. units_at state (child r k)) (children_of s.body) ++ flat_map (units_at state) rs = cc in
    let goes_on : next (r ∷ rs) u ≡ map (child r) (children_of s.body) ++ rs = ap (next (r ∷ rs)) head in
    split state before rest (next (r ∷ rs) u)
    (subst (AllByRecursion (IsSound state)) (sym goes_on) (all-append (IsSound state) (map (child r) (children_of s.body)) rs (sound_kids state r s) sound.1))
    (tail
    ∙ ap (λ us. us ++ flat_map (units_at state) rs) (sym (flat_map-map (units_at state) (child r) (children_of s.body)))
    ∙ sym (flat_map-append (units_at state) (map (child r) (children_of s.body)) rs)
    ∙ ap (flat_map (units_at state)) (sym goes_on))

-- ---- the fold

-- a piece under its name
abbrev pub Entry : Type 0
Entry = NameParts × PieceView

-- a verdict at the name requires this, and its creator can be asked to meet it
pub record HasRequired (state : State) (name : NameParts) (required : Requirements) : Type 0 where
  pub verdict : Verdict
  pub is_verdict : IsVerdictAt state name verdict
  pub requires : verdict.requirements ≡ required
  pub goes_up : (body : Body) → state.bodies name ≡ Some body → MayGoUp (external_regions body.header) required

-- These visits are left. The bodies after them are judged: their pieces are found, and what the bodies that come next require is there.
pub record Folds (state : State) (root : NameParts) (left : List VisitView) (required : List Requirements) (found : List Entry) : Type 0 where
  pub before : List (NameParts × Body)
  pub is_left : left ≡ map (visit_of state) before
  pub whole : before ++ flat_map (units_at state) (open_after root before) ≡ units_at state root
  pub judged : AllZip (HasRequired state) (open_after root before) required
  pub reported : AllZip (IsPieceAt state) (flat_map (units_at state) (open_after root before)) found

-- this visit is the last of those that are left
pub record Turn (state : State) (root : NameParts) (left : List VisitView) (visit : VisitView) (required : List Requirements) (found : List Entry) : Type 0 where
  pub before : List (NameParts × Body)
  pub name : NameParts
  pub sound : IsSound state name
  pub rest : List NameParts
  pub is_left : left ≡ map (visit_of state) before
  pub is_visit : visit ≡ visit_of state (name, sound.body)
  pub opened : open_after root before ≡ name ∷ rest
  pub whole : before ++ flat_map (units_at state) (name ∷ rest) ≡ units_at state root
  pub judged : AllZip (HasRequired state) (map (child name) (children_of sound.body) ++ rest) required
  pub reported : AllZip (IsPieceAt state) (flat_map (units_at state) (map (child name) (children_of sound.body) ++ rest)) found

pub turn : (state : State) (root : NameParts) (left : List VisitView) (visit : VisitView) (required : List Requirements) (found : List Entry) → IsSound state root → Folds state root (left ++ visit ∷ []) required found
    → Turn state root left visit required found
turn state root left visit required found sound folds =
    let m = map-snoc (visit_of state) folds.before left visit folds.is_left in
    let front = m.0 in
    let unit = m.1 in
    let behind : open_after root folds.before ≡ next (open_after root front) unit = ap (open_after root) m.2 ∙ fold-append next (root ∷ []) front (unit ∷ []) in
    let all : front ++ (unit ∷ flat_map (units_at state) (open_after root folds.before)) ≡ flat_map (units_at state) (root ∷ []) =
    sym (append_assoc front (unit ∷ []) (flat_map (units_at state) (open_after root folds.before)))
    ∙ ap (λ us. us ++ flat_map (units_at state) (open_after root folds.before)) (sym m.2)
    ∙ folds.whole ∙ sym (append-nil (units_at state root)) in
    let parts = split state front (unit ∷ flat_map (units_at state) (open_after root folds.before)) (root ∷ []) (sound, tt) all in
    over front unit m.2 m.3 m.4 behind (open_after root front) refl parts.0 parts.1
  where
    over : (front : List (NameParts × Body)) (unit : NameParts × Body) → folds.before ≡ front ++ unit ∷ [] → left ≡ map (visit_of state) front → visit ≡ visit_of state unit
        → open_after root folds.before ≡ next (open_after root front) unit
        → (roots : List NameParts) → open_after root front ≡ roots → AllByRecursion (IsSound state) roots → unit ∷ flat_map (units_at state) (open_after root folds.before) ≡ flat_map (units_at state) roots
        → Turn state root left visit required found
    over front unit cut is_left is_visit behind [] opened sounds e = absurd (cc)
    over front unit cut is_left is_visit behind (r ∷ rs) opened sounds e =
        let s = sounds.0 in
        let here : unit ∷ flat_map (units_at state) (open_after root folds.before) ≡ (r, s.body) ∷ (flat_map (λ k. units_at state (child r k)) (children_of s.body) ++ flat_map (units_at state) rs) =
        e ∙ ap (λ us. us ++ flat_map (units_at state) rs) (units-step state r s.body s.short s.held) in
        let head : unit ≡ (r, s.body) = cc in
        let opens : open_after root folds.before ≡ map (child r) (children_of s.body) ++ rs = behind ∙ (λ i. next (opened i) (head i)) in
        record {
          before = front;
          name = r;
          sound = s;
          rest = rs;
          is_left = is_left;
          is_visit = is_visit ∙ ap (visit_of state) head;
          opened = opened;
          whole =
              ap (λ us. front ++ us) (sym e) ∙ sym (append_assoc front (unit ∷ []) (flat_map (units_at state) (open_after root folds.before)))
              ∙ ap (λ us. us ++ flat_map (units_at state) (open_after root folds.before)) (sym cut) ∙ folds.whole;
          judged = subst (λ (ns : List NameParts). AllZip (HasRequired state) ns required) opens folds.judged;
          reported = subst (λ (ns : List NameParts). AllZip (IsPieceAt state) (flat_map (units_at state) ns) found) opens folds.reported;
        }

zip_back : {A B : Type 0} (xs : List (A × B)) → xs ≡ zip (map (λ (x : A × B). x.0) xs) (map (λ (x : A × B). x.1) xs)
zip_back [] = refl
zip_back (x ∷ xs) = ap (λ ys. x ∷ ys) (zip_back xs)

length-map-of : {A B : Type 0} (f : A → B) (xs : List A) → length (map f xs) ≡ length xs
length-map-of f [] = refl
length-map-of f (x ∷ xs) = ap suc (length-map-of f xs)

-- if all closures are stored, each has its header
header-numbers : (state : State) (name : NameParts) (numbers : List ℕ) → AllByRecursion (IsSound state) (map (child name) numbers) → map number_of_child (children_at state name numbers) ≡ numbers
header-numbers state name [] sound = refl
header-numbers state name (n ∷ ns) sound = rw sound.0.held (ap (λ ms. n ∷ ms) (header-numbers state name ns sound.1))

-- what these closures require, each with its number
of_children : (state : State) (name : NameParts) (numbers : List ℕ) (taken : List (ℕ × Requirements)) → AllByRecursion (IsSound state) (map (child name) numbers) → map (λ (k : ℕ × Requirements). k.0) taken ≡ numbers
    → AllZip (HasRequired state) (map (child name) numbers) (map (λ (k : ℕ × Requirements). k.1) taken) → AreOfChildren (children_at state name numbers) taken
of_children state name [] [] sound is h = tt
of_children state name [] (k ∷ ks) sound is h = absurd h
of_children state name (n ∷ ns) [] sound is h = absurd h
of_children state name (n ∷ ns) (k ∷ ks) sound is h =
    let heads : k.0 ≡ n = cc in
    let tails : map (λ (k : ℕ × Requirements). k.0) ks ≡ ns = cc in
    rw sound.0.held (record { number = heads; may_go_up = h.0.goes_up sound.0.body sound.0.held }, of_children state name ns ks sound.1 tails h.1)

-- the verdicts with these requirements
verdicts_of : (state : State) (name : NameParts) (numbers : List ℕ) (required : List Requirements) → AllZip (HasRequired state) (map (child name) numbers) required
    → (verdicts : List Verdict) × AllZip (λ number. IsVerdictAt state (child name number)) numbers verdicts × (map (λ (v : Verdict). v.requirements) verdicts ≡ required)
verdicts_of state name [] [] h = ([], tt, refl)
verdicts_of state name [] (r ∷ rs) h = absurd h
verdicts_of state name (n ∷ ns) [] h = absurd h
verdicts_of state name (n ∷ ns) (r ∷ rs) h =
    let t = verdicts_of state name ns rs h.1 in
    (h.0.verdict ∷ t.0, (h.0.is_verdict, t.1), (λ i. h.0.requires i ∷ t.2 i))

-- the children of a visit are the closures of its body
pub turn-numbers : (state : State) (root : NameParts) (left : List VisitView) (visit : VisitView) (required : List Requirements) (found : List Entry) (t : Turn state root left visit required found)
    → map number_of_child visit.typed.children ≡ children_of t.sound.body
turn-numbers state root left visit required found t =
    ap (λ (v : VisitView). map number_of_child v.typed.children) t.is_visit
    ∙ header-numbers state t.name (children_of t.sound.body) (sound_kids state t.name t.sound)

-- what the closures require is there
pub turn-enough : (state : State) (root : NameParts) (left : List VisitView) (visit : VisitView) (required : List Requirements) (found : List Entry) → Turn state root left visit required found → length visit.typed.children ≤ length required
turn-enough state root left visit required found t =
    let numbers = ap length (turn-numbers state root left visit required found t) in
    let kids = length-map-of number_of_child visit.typed.children in
    let names = length-map-of (child t.name) (children_of t.sound.body) in
    let all = length-append (map (child t.name) (children_of t.sound.body)) t.rest in
    let zipped = length-zip-all (HasRequired state) (map (child t.name) (children_of t.sound.body) ++ t.rest) required t.judged in
    omega (arith, numbers, kids, names, all, zipped)

-- what was taken is what the children require
pub turn-taken : (state : State) (root : NameParts) (left : List VisitView) (visit : VisitView) (required after : List Requirements) (found : List Entry) (taken : List (ℕ × Requirements)) (t : Turn state root left visit required found)
    → map (λ (k : ℕ × Requirements). k.0) taken ≡ map number_of_child visit.typed.children → required ≡ map (λ (k : ℕ × Requirements). k.1) taken ++ after
    → AllZip (HasRequired state) (map (child t.name) (children_of t.sound.body)) (map (λ (k : ℕ × Requirements). k.1) taken) × AllZip (HasRequired state) t.rest after
turn-taken state root left visit required after found taken t numbered is =
    let kids = children_of t.sound.body in
    let numbers : map (λ (k : ℕ × Requirements). k.0) taken ≡ kids = numbered ∙ turn-numbers state root left visit required found t in
    let sizes : length (map (child t.name) kids) ≡ length (map (λ (k : ℕ × Requirements). k.1) taken) =
    length-map-of (child t.name) kids ∙ sym (ap length numbers) ∙ length-map-of (λ (k : ℕ × Requirements). k.0) taken ∙ sym (length-map-of (λ (k : ℕ × Requirements). k.1) taken) in
    AllZip-cut (HasRequired state) (map (child t.name) kids) t.rest (map (λ (k : ℕ × Requirements). k.1) taken) after sizes
    (subst (AllZip (HasRequired state) (map (child t.name) kids ++ t.rest)) is t.judged)

pub turn-children : (state : State) (root : NameParts) (left : List VisitView) (visit : VisitView) (required after : List Requirements) (found : List Entry) (taken : List (ℕ × Requirements)) (t : Turn state root left visit required found)
    → map (λ (k : ℕ × Requirements). k.0) taken ≡ map number_of_child visit.typed.children → required ≡ map (λ (k : ℕ × Requirements). k.1) taken ++ after
    → AreOfChildren visit.typed.children taken
turn-children state root left visit required after found taken t numbered is =
    subst (λ (v : VisitView). AreOfChildren v.typed.children taken) (sym t.is_visit)
    (of_children state t.name (children_of t.sound.body) taken (sound_kids state t.name t.sound) (numbered ∙ turn-numbers state root left visit required found t)
    (turn-taken state root left visit required after found taken t numbered is).0)

-- the external regions of a visit are those of the body at its name
turn-externals : (state : State) (root : NameParts) (left : List VisitView) (visit : VisitView) (required : List Requirements) (found : List Entry) (t : Turn state root left visit required found) (requirements : Requirements)
    → MayGoUp visit.typed.externals requirements → (body : Body) → state.bodies t.name ≡ Some body → MayGoUp (external_regions body.header) requirements
turn-externals state root left visit required found t requirements goes body held =
    let same : t.sound.body ≡ body = some_same t.sound.body body (sym t.sound.held ∙ held) in
    subst (λ (b : Body). MayGoUp (external_regions b.header) requirements) same (subst (λ (v : VisitView). MayGoUp v.typed.externals requirements) t.is_visit goes)
  where
    some_same : (a b : Body) → Some a ≡ Some b → a ≡ b
    some_same a b e = cc

-- one body more is judged
pub folded : (state : State) (root : NameParts) (left : List VisitView) (visit : VisitView) (required after : List Requirements) (found : List Entry) (taken : List (ℕ × Requirements)) (entry : Entry) (types : List Declaration)
    → types ≡ state.types → Turn state root left visit required found → map (λ (k : ℕ × Requirements). k.0) taken ≡ map number_of_child visit.typed.children → required ≡ map (λ (k : ℕ × Requirements). k.1) taken ++ after
    → entry.0 ≡ visit.name → IsFoundFrom types visit.unit visit.typed taken entry.1
    → Folds state root left (entry.1.verdict.requirements ∷ after) (entry ∷ found)
folded state root left visit required after found taken entry types same t numbered is named from =
    let body = t.sound.body in
    let kids = children_of body in
    let verdict = entry.1.verdict in
    let numbers : map (λ (k : ℕ × Requirements). k.0) taken ≡ kids = numbered ∙ turn-numbers state root left visit required found t in
    let parts = turn-taken state root left visit required after found taken t numbered is in
    let below = verdicts_of state t.name kids (map (λ (k : ℕ × Requirements). k.1) taken) parts.0 in
    let whole : taken ≡ requirements_by kids below.0 = zip_back taken ∙ (λ i. zip (numbers i) (sym below.2 i)) in
    let typed : entry.1.mir ≡ mir_at state t.name body = from.mir ∙ ap (λ (v : VisitView). v.typed) t.is_visit in
    let judged : IsVerdictOf (mir_at state t.name body) (requirements_by kids below.0) verdict =
    subst (λ (p : Mir × List (ℕ × Requirements)). IsVerdictOf p.0 p.1 verdict) (λ i. (typed i, (from.kids ∙ whole) i)) from.right.judged in
    let at : IsVerdictAt state t.name verdict = verdict-step state t.name body verdict t.sound.short t.sound.held (below.0, below.1, judged) in
    let goes : MayGoUp visit.typed.externals verdict.requirements = subst (λ (m : Mir). MayGoUp m.externals verdict.requirements) from.mir from.right.goes_up in
    let units : (t.name, body) ∷ flat_map (units_at state) (map (child t.name) kids ++ t.rest) ≡ flat_map (units_at state) (t.name ∷ t.rest) =
    ap (λ us. (t.name, body) ∷ us) (flat_map-append (units_at state) (map (child t.name) kids) t.rest ∙ ap (λ us. us ++ flat_map (units_at state) t.rest) (flat_map-map (units_at state) (child t.name) kids))
    ∙ ap (λ us. us ++ flat_map (units_at state) t.rest) (sym (units-step state t.name body t.sound.short t.sound.held)) in
    record {
      before = t.before;
      is_left = t.is_left;
      whole = ap (λ ns. t.before ++ flat_map (units_at state) ns) t.opened ∙ t.whole;
      judged =
          subst (λ (ns : List NameParts). AllZip (HasRequired state) ns (verdict.requirements ∷ after)) (sym t.opened)
          (record { verdict = verdict; is_verdict = at; requires = refl; goes_up = turn-externals state root left visit required found t verdict.requirements goes }, parts.1);
      reported =
          subst (λ (ns : List NameParts). AllZip (IsPieceAt state) (flat_map (units_at state) ns) (entry ∷ found)) (sym t.opened)
          (subst (λ (us : List (NameParts × Body)). AllZip (IsPieceAt state) us (entry ∷ found)) units (
            record {
              named = named ∙ ap (λ (v : VisitView). v.name) t.is_visit;
              held = record { types = from.types ∙ same; unit = ap Some (sym (from.unit ∙ ap (λ (v : VisitView). v.unit) t.is_visit)) };
              typed = typed;
              kids = record { verdicts = below.0; judged = below.1; required = from.kids ∙ whole };
              is_verdict = at;
            },
            t.reported,
          ));
    }

-- one piece more, kept or not
pub some_more : (all unkept : List Entry) (entry : Entry) (is_kept : Bool) → AreSomeOf all unkept → AreSomeOf (entry ∷ all) (if is_kept then unkept else entry ∷ unkept)
some_more all unkept entry true some = (false ∷ some.0, some.1)
some_more all unkept entry false some = (true ∷ some.0, ap (λ (ps : List Entry). entry ∷ ps) some.1)

-- at the start no body is judged
pub folds_none : (state : State) (root : NameParts) (visits : List VisitView) → IsSound state root → visits ≡ map (visit_of state) (units_at state root) → Folds state root visits [] []
folds_none state root visits sound are =
    let parts = split state (units_at state root) [] (root ∷ []) (sound, tt) refl in
    let closed = none_open (open_after root (units_at state root)) parts.0 parts.1 in
    record {
      before = units_at state root;
      is_left = are;
      whole = ap (λ ns. units_at state root ++ flat_map (units_at state) ns) closed ∙ append-nil (units_at state root);
      judged = subst (λ (ns : List NameParts). AllZip (HasRequired state) ns []) (sym closed) tt;
      reported = subst (λ (ns : List NameParts). AllZip (IsPieceAt state) (flat_map (units_at state) ns) []) (sym closed) tt;
    }
  where
    none_open : (roots : List NameParts) → AllByRecursion (IsSound state) roots → [] ≡ flat_map (units_at state) roots → roots ≡ []
    none_open [] sounds e = refl
    none_open (r ∷ rs) sounds e =
        let s = sounds.0 in
        let here : [] ≡ (r, s.body) ∷ (flat_map (λ k. units_at state (child r k)) (children_of s.body) ++ flat_map (units_at state) rs) =
        e ∙ ap (λ us. us ++ flat_map (units_at state) rs) (units-step state r s.body s.short s.held) in
        absurd (cc)

-- when no visit is left, all bodies are judged
pub folds_all : (state : State) (root : NameParts) (required : List Requirements) (found : List Entry) → Folds state root [] required found → AllZip (IsPieceAt state) (units_at state root) found
folds_all state root required found folds = all folds.before folds.is_left folds.whole folds.reported
  where
    all : (before : List (NameParts × Body)) → [] ≡ map (visit_of state) before → before ++ flat_map (units_at state) (open_after root before) ≡ units_at state root
        → AllZip (IsPieceAt state) (flat_map (units_at state) (open_after root before)) found → AllZip (IsPieceAt state) (units_at state root) found
    all [] none whole reported = subst (λ (us : List (NameParts × Body)). AllZip (IsPieceAt state) us found) whole reported
    all (u ∷ us) none whole reported = absurd (cc)

-- the errors in pieces are those of their bodies
pub reported_by : (state : State) (units : List (NameParts × Body)) (pieces : List Entry) → AllZip (IsPieceAt state) units pieces → AllZip (IsReported state) units (map errors_in pieces)
reported_by state [] [] h = tt
reported_by state [] (p ∷ ps) h = absurd h
reported_by state (u ∷ us) [] h = absurd h
reported_by state (u ∷ us) (p ∷ ps) h = (record { named = h.0.named; verdict = p.1.verdict; is_verdict = h.0.is_verdict; errors = refl }, reported_by state us ps h.1)

-- if there is no fault, the outcome is the report of all bodies
pub report_of : (state : State) (root : NameParts) (fault : Option Outcome) (pieces : List Entry) (found : List BodyErrors) → fault ≡ None → AllZip (IsPieceAt state) (units_at state root) pieces → found ≡ map errors_in pieces
    → IsOutcomeAfter state root fault (Report found)
report_of state root fault pieces found none are is =
    subst (λ (f : Option Outcome). IsOutcomeAfter state root f (Report found)) (sym none)
    (map errors_in pieces, reported_by state (units_at state root) pieces are, ap Report is)
