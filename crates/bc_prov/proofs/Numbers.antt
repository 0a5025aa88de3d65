-- The numbers of children are at most 63, so that children have names.
use Rattle.std.proofs.Common.{◌≡◌, ◌≢◌, ℕ, ◌<◌, Bool, true, ◌&&◌, List, [], length, get_or, refl, ap, ◌∙◌, arith, inl, inr, Option, Some, None}
use Rattle.std.specs.Prelude.{nat_le, nat_lt, if◌then◌else◌}
use Rattle.std.specs.List.{list_all, range_with_len}
use Rattle.std.proofs.lemmas.List.Sums.{AllPass-from_list_all, list_all-from_AllPass}
use Rattle.std.proofs.lemmas.List.Elements.{All-filter}
use Rattle.std.proofs.lemmas.Bool.Decides.{nat_tests}
use Rattle.bc_names.specs.Names.{NameParts}
use Rattle.bc_prov.specs.State.{HasRoom, child}
use Rattle.bc_syntax.specs.Children.{children_of, closures_of, is_among}
use Rattle.bc_syntax.specs.declared.syntax.Body.{Body}

pub children_low : (body : Body) → list_all (λ number. nat_le number 63) (children_of body) ≡ true
unfolding children_of
children_low body =
    list_all-from_AllPass (λ number. nat_le number 63) _
    (All-filter (is_among (closures_of body)) (λ number. nat_le number 63 ≡ true) (range_with_len 0 64) (AllPass-from_list_all (λ number. nat_le number 63) (range_with_len 0 64) refl))

-- a child with one of these numbers has a name, if its creator's name has room for one
pub child_made : (name : NameParts) (numbers : List ℕ) (i : ℕ) (made : Option NameParts) → i < length numbers → (numbers ≢ [] → length name.segments < 7) → list_all (λ number. nat_le number 63) numbers ≡ true
    → made ≡ (if nat_le (get_or numbers i 0) 63 && nat_lt (length name.segments) 7 then Some (child name (get_or numbers i 0)) else None) → made ≡ Some (child name (get_or numbers i 0))
child_made name numbers i made within few low is =
    let small : nat_le (get_or numbers i 0) 63 ≡ true = AllPass-from_list_all (λ number. nat_le number 63) numbers low i 0 within in
    let some : numbers ≢ [] = λ none. omega (arith, within, ap length none) in
    let less : length name.segments < 7 = few some in
    let room : nat_lt (length name.segments) 7 ≡ true = grind (arith, nat_tests) in
    is ∙ rw (small, room) refl

-- a name whose body has children has room for them
pub room_of : (name : NameParts) (body : Body) (numbers : List ℕ) → numbers ≡ children_of body → HasRoom name body → numbers ≢ [] → length name.segments < 7
room_of name body numbers is (inl none) some = absurd (some (is ∙ none))
room_of name body numbers is (inr room) some = room
