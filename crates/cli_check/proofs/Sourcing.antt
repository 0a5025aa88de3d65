-- The texts of the sections of a file, under the names of the units that they put.
use Rattle.std.proofs.Common.{◌≡◌, ℕ, Bool, true, false, List, [], ◌∷◌, ◌++◌, length, map, drop, refl, sym, ap, ◌∙◌, append_assoc, append-nil, inl, inr, arith}
use Rattle.std.specs.Prelude.{◌≢◌, ◌⊎◌, ◌==◌, ◌&&◌, ◌||◌, ◌<◌, not, nat_lt}
use Rattle.std.proofs.lemmas.Bool.{cases_Bool}
use Rattle.std.proofs.lemmas.Bool.Decides.{nat_tests}
use Rattle.bc_syntax.specs.declared.syntax.Body.{Body}
use Rattle.bc_syntax.specs.declared.syntax.UnitKind.{UnitKind}
use Rattle.bc_syntax.specs.declared.syntax.UnitKind.TheVariants.{Function, Closure}
use Rattle.bc_syntax.specs.Children.{children_of}
use Rattle.bc_names.specs.Names.{NameParts}
use Rattle.bc_prov.specs.State.{Suits, SuitsKind, HasRoom}
use Rattle.bc_calls.specs.declared.call.Call.{Call}
use Rattle.bc_source.specs.Sources.{SourceParts}
use Rattle.cli_file.specs.Parts.{Part}
use Rattle.cli_check.specs.Forms.{suits_kind, does_suit, source_put, sources_of}

-- units that suit their names

none_true : (xs : List ℕ) → xs ≡ [] → (length xs == 0) ≡ true
none_true [] h = refl
none_true (x ∷ xs) h = absurd cc

none_of : (xs : List ℕ) → (length xs == 0) ≡ true → xs ≡ []
none_of [] h = refl
none_of (x ∷ xs) h = absurd (grind (arith, nat_tests))

some_true : (xs : List ℕ) → xs ≢ [] → not (length xs == 0) ≡ true
some_true [] h = absurd (h refl)
some_true (x ∷ xs) h = grind (arith, nat_tests)

some_of : (xs : List ℕ) → not (length xs == 0) ≡ true → xs ≢ []
some_of [] h = absurd cc
some_of (x ∷ xs) h = λ e. absurd cc

kind_true : (kind : UnitKind) (name : NameParts) → SuitsKind kind name → suits_kind kind name ≡ true
kind_true Function name h = none_true name.segments h
kind_true Closure name h = some_true name.segments h

kind_of : (kind : UnitKind) (name : NameParts) → suits_kind kind name ≡ true → SuitsKind kind name
kind_of Function name h = none_of name.segments h
kind_of Closure name h = some_of name.segments h

or_left : (a b : Bool) → a ≡ true → (a || b) ≡ true
or_left true b h = refl
or_left false b h = absurd cc

or_right : (a b : Bool) → b ≡ true → (a || b) ≡ true
or_right true b h = refl
or_right false b h = h

or_of : (a b : Bool) → (a || b) ≡ true → (a ≡ true) ⊎ (b ≡ true)
or_of true b h = inl refl
or_of false b h = inr h

and_true : (a b : Bool) → a ≡ true → b ≡ true → (a && b) ≡ true
and_true true b h k = k
and_true false b h k = absurd cc

and_of : (a b : Bool) → (a && b) ≡ true → (a ≡ true) × (b ≡ true)
and_of true b h = (refl, h)
and_of false b h = absurd cc

less_true : (m n : ℕ) → m < n → nat_lt m n ≡ true
less_true m n h = grind (arith, nat_tests)

less_of : (m n : ℕ) → nat_lt m n ≡ true → m < n
less_of m n h = grind (arith, nat_tests)

room_true : (name : NameParts) (body : Body) → HasRoom name body → (length (children_of body) == 0 || nat_lt (length name.segments) 7) ≡ true
room_true name body h = elim h [
  | inl none ↦ or_left _ _ (none_true (children_of body) none)
  | inr less ↦ or_right (length (children_of body) == 0) _ (less_true (length name.segments) 7 less)
]

room_of : (name : NameParts) (body : Body) → (length (children_of body) == 0 || nat_lt (length name.segments) 7) ≡ true → HasRoom name body
room_of name body h = elim (or_of (length (children_of body) == 0) (nat_lt (length name.segments) 7) h) [
  | inl none ↦ inl (none_of (children_of body) none)
  | inr less ↦ inr (less_of (length name.segments) 7 less)
]

pub suit_true : (body : Body) (name : NameParts) → Suits body name → does_suit body name ≡ true
suit_true body name h = and_true _ _ (kind_true body.header.kind name h.kind) (room_true name body h.room)

pub suit_of : (body : Body) (name : NameParts) → does_suit body name ≡ true → Suits body name
suit_of body name h =
    let both = and_of (suits_kind body.header.kind name) (length (children_of body) == 0 || nat_lt (length name.segments) 7) h in
    record { kind = kind_of body.header.kind name both.0; room = room_of name body both.1 }

-- the texts that are left

pub none_made : (sections : List Part) → sources_of sections [] ≡ []
none_made [] = refl
none_made (section ∷ sections) = refl

-- one more section
pub one_made : (sources : List SourceParts) (section : Part) (sections : List Part) (call : Call) (made : List Call)
    → sources ++ sources_of (section ∷ sections) (call ∷ made) ≡ (sources ++ source_put section call) ++ sources_of sections made
one_made sources section sections call made = sym (append_assoc sources (source_put section call) (sources_of sections made))
