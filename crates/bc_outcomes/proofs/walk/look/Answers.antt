use Rattle.std.proofs.Common.{refl, sym, ap, ◌∙◌, subst}
use Rattle.std.specs.Prelude.{map, None, Some, Err}
use Rattle.std.specs.List.{AllByRecursion}
use Rattle.bc_syntax.specs.Children.{children_of}
use Rattle.bc_mir.specs.Typing.{misfit}
use Rattle.bc_prov.specs.State.{number_of_child}
use Rattle.bc_outcomes.specs.Visits.{ChildKid, child_of_kid, mir_in, state_in}
use Rattle.bc_outcomes.proofs.Looking.{kids_here, kids_are, room, kid_numbers, typed_there, fault_of_held}
use Rattle.bc_outcomes.proofs.walk.look.Goals as goal

pub find_kids-requires-clause-few : goal.find_kids-requires-clause-few
find_kids-requires-clause-few c =
    room (state_in c.args.checked.now) c.args.name c.args.unit.now _ c.requires.suited c.requires.held (c.deref.ensures.value ∙ c.in_ok-numbers.ensures.value)

pub visited-requires-clause-kids : goal.visited-requires-clause-kids
visited-requires-clause-kids c =
    let kids = kids_here (state_in c.args.checked.now) c.args.name c.args.unit.now _ _ c.in-Stored.kids (c.deref.ensures.value ∙ c.in_ok-numbers.ensures.value) c.in-Stored.is c.in_ok-child.ensures in
    subst (AllByRecursion ChildKid) (sym c.deref-in-Stored.ensures.value) (kids_are (state_in c.args.checked.now) c.args.name (children_of c.args.unit.now) c.in-Stored.kids.items kids)

pub visited-requires-clause-numbers : goal.visited-requires-clause-numbers
visited-requires-clause-numbers c =
    let state = state_in c.args.checked.now in
    let kids = kids_here state c.args.name c.args.unit.now _ _ c.in-Stored.kids (c.deref.ensures.value ∙ c.in_ok-numbers.ensures.value) c.in-Stored.is c.in_ok-child.ensures in
    ap (λ ks. map number_of_child (map child_of_kid ks)) c.deref-in-Stored.ensures.value ∙ kid_numbers state c.args.name (children_of c.args.unit.now) c.in-Stored.kids.items kids

pub returns-in-Ok : goal.returns-in-Ok
returns-in-Ok c =
    let state = state_in c.args.checked.now in
    let body = c.args.unit.now in
    let kids = kids_here state c.args.name body _ _ c.in-Stored.kids (c.deref.ensures.value ∙ c.in_ok-numbers.ensures.value) c.in-Stored.is c.in_ok-child.ensures in
    let same = ap (λ ks. mir_in c.args.checked.now ks body) c.deref-in-Stored.ensures.value in
    let typed = typed_there state c.args.name body _ _ c.in-Stored.kids.items refl refl kids in (
      fault_of_held state c.args.name body c.in-Stored.kids.items None kids (ap misfit (sym (same ∙ typed)) ∙ c.in-Ok.ensures.fits),
      c.in-Ok.ensures.ok ∙ (λ i. record { name = c.args.name; unit = body; typed = (same ∙ typed) i }),
      kids,
    )

pub returns-in-Err-Ill : goal.returns-in-Err-Ill
returns-in-Err-Ill c =
    let state = state_in c.args.checked.now in
    let body = c.args.unit.now in
    let kids = kids_here state c.args.name body _ _ c.in-Stored.kids (c.deref.ensures.value ∙ c.in_ok-numbers.ensures.value) c.in-Stored.is c.in_ok-child.ensures in
    let same = ap (λ ks. mir_in c.args.checked.now ks body) c.deref-in-Stored.ensures.value in
    let typed = typed_there state c.args.name body _ _ c.in-Stored.kids.items refl refl kids in
    fault_of_held state c.args.name body c.in-Stored.kids.items (Some c.in-Err-Ill.place) kids
    (ap misfit (sym (same ∙ typed)) ∙ c.visited.ensures.ill c.in-Err-Ill.place (c.in-Err-Ill.is ∙ ap Err c.in-Err-Ill.field-0-is))
