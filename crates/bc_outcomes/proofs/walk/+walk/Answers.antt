use Rattle.std.proofs.Common.{◌≡◌, ◌≤◌, length, sym, ap, ◌∙◌, subst, refl, arith, length-append, []}
use Rattle.std.specs.Prelude.{◌∷◌, ◌++◌, ◌&&◌, nat_le, nat_lt, map, Ok, Option, Some, None, is_some, false}
use Rattle.std.specs.List.{AllZip}
use Rattle.bc_names.specs.Names.{NameParts}
use Rattle.bc_prov.specs.State.{child}
use Rattle.bc_syntax.specs.Children.{children_of}
use Rattle.bc_prov.specs.declared.outcome.Outcome.{Outcome}
use Rattle.bc_prov.specs.Outcome.{fault_at, units_at}
use Rattle.bc_outcomes.specs.Visits.{IsKid, visit_of}
use Rattle.bc_outcomes.proofs.Walking.{looked_fitting, looked_faulty, kid_at, fault_below, fault_here, fault_past, visits_past, child_is, child_there, walks_more, IsHeld}
use Rattle.bc_outcomes.specs.Visits.{state_in}
use Rattle.bc_outcomes.proofs.walk.+walk.Goals as goal

pub returns-in-Faulty-clause-fault : goal.returns-in-Faulty-clause-fault
returns-in-Faulty-clause-fault t c =
    sym (looked_faulty (state_in c.args.checked.now) c.args.name c.args.unit.now _ c.in-Faulty.fault c.in-Faulty.is c.in_ok-fault.ensures c.requires.short c.requires.held)

pub returns-after-loop-kid-clause-fault : goal.returns-after-loop-kid-clause-fault
returns-after-loop-kid-clause-fault t c =
    let state = (state_in c.args.checked.now) in
    let looked = looked_fitting state c.args.name c.args.unit.now _ c.in-Fitting.visit c.in-Fitting.kids c.in-Fitting.is c.in_ok-fault.ensures in
    let kids = subst (AllZip (IsKid state c.args.name) (children_of c.args.unit.now)) (sym c.deref-kid-items.ensures.value) looked.2 in
    sym (fault_below state c.args.name c.args.unit.now c.deref-kid-items.result.now c.requires.short c.requires.held looked.0 kids
    ∙ fault_past state c.args.name c.deref-kid-items.result.now c.loop-kid.kid-index _ _ c.loop-kid-test.false c.loop-kid.invariant)

pub returns-after-loop-kid-clause-visits : goal.returns-after-loop-kid-clause-visits
returns-after-loop-kid-clause-visits t c = λ _.
    let state = (state_in c.args.checked.now) in
    let looked = looked_fitting state c.args.name c.args.unit.now _ c.in-Fitting.visit c.in-Fitting.kids c.in-Fitting.is c.in_ok-fault.ensures in
    let kids = subst (AllZip (IsKid state c.args.name) (children_of c.args.unit.now)) (sym c.deref-kid-items.ensures.value) looked.2 in
    visits_past state c.args.name c.args.unit.now c.in-Fitting.visit c.deref-kid-items.result.now c.loop-kid.kid-index c.args.visits.now.items _ _ c.loop-kid-test.false c.loop-kid.invariant
    c.in_ok-push-in-Fitting.ensures.items looked.1 kids c.requires.short c.requires.held

pub returns-then-is_some-clause-fault : goal.returns-then-is_some-clause-fault
returns-then-is_some-clause-fault t c =
    let state = (state_in c.args.checked.now) in
    let looked = looked_fitting state c.args.name c.args.unit.now _ c.in-Fitting.visit c.in-Fitting.kids c.in-Fitting.is c.in_ok-fault.ensures in
    let kids = subst (AllZip (IsKid state c.args.name) (children_of c.args.unit.now)) (sym c.deref-kid-items.ensures.value) looked.2 in
    let named = child_is (nat_le c.kid-item.result.number 63 && nat_lt (length c.args.name.segments) 7) c.unwrap-child.result (child c.args.name c.kid-item.result.number) (sym c.unwrap-child.ensures ∙ c.child.ensures) in
    sym (fault_below state c.args.name c.args.unit.now c.deref-kid-items.result.now c.requires.short c.requires.held looked.0 kids
    ∙ fault_here state c.args.name c.deref-kid-items.result.now c.loop-kid.kid-index c.kid-item.result _ _ c.in_ok-below-in-Fitting.below c.loop-kid-test.true c.kid-item.is c.loop-kid.invariant
    (c.in_ok-below-in-Fitting.ensures.fault ∙ ap (fault_at state) named) (sym c.is_some.ensures ∙ c.if-is_some.true))

pub walk-requires : goal.walk-requires
walk-requires t c =
    let state = (state_in c.args.checked.now) in
    let looked = looked_fitting state c.args.name c.args.unit.now _ c.in-Fitting.visit c.in-Fitting.kids c.in-Fitting.is c.in_ok-fault.ensures in
    let kids = subst (AllZip (IsKid state c.args.name) (children_of c.args.unit.now)) (sym c.deref-kid-items.ensures.value) looked.2 in
    let named = child_is (nat_le c.kid-item.result.number 63 && nat_lt (length c.args.name.segments) 7) c.unwrap-child.result (child c.args.name c.kid-item.result.number) (sym c.unwrap-child.ensures ∙ c.child.ensures) in
    let kid = subst (IsHeld state c.args.name) (sym c.kid-item.is) (kid_at state c.args.name (children_of c.args.unit.now) c.deref-kid-items.result.now c.loop-kid.kid-index c.kid-item.result kids c.loop-kid-test.true) in
    let short = subst (λ (n : NameParts). length n.segments ≤ 7) (sym named) kid.short in
    let longer = ap (λ (n : NameParts). length n.segments) named in
    let one = length-append c.args.name.segments (c.kid-item.result.number ∷ []) in
    let before = c.decreases in (
      omega (arith, short, longer, one, before),
      (short, (c.requires.suited, ap state.bodies named ∙ kid.held)),
    )

pub unwrap-child-requires : goal.unwrap-child-requires
unwrap-child-requires t c =
    let state = state_in c.args.checked.now in
    let looked = looked_fitting state c.args.name c.args.unit.now _ c.in-Fitting.visit c.in-Fitting.kids c.in-Fitting.is c.in_ok-fault.ensures in
    let kids = subst (AllZip (IsKid state c.args.name) (children_of c.args.unit.now)) (sym c.deref-kid-items.ensures.value) looked.2 in
    let kid = subst (IsHeld state c.args.name) (sym c.kid-item.is) (kid_at state c.args.name (children_of c.args.unit.now) c.deref-kid-items.result.now c.loop-kid.kid-index c.kid-item.result kids c.loop-kid-test.true) in
    child_there c.args.name c.kid-item.result.number c.child.result c.child.ensures kid.low kid.short

pub loop-kid-preserved : goal.loop-kid-preserved
loop-kid-preserved t c =
    let state = state_in c.args.checked.now in
    let named = child_is (nat_le c.kid-item.result.number 63 && nat_lt (length c.args.name.segments) 7) c.unwrap-child.result (child c.args.name c.kid-item.result.number) (sym c.unwrap-child.ensures ∙ c.child.ensures) in
    let none = sym c.is_some.ensures ∙ c.if-is_some.false in
    walks_more state c.args.name c.deref-kid-items.result.now c.loop-kid.kid-index c.kid-item.result _ _ _ c.in_ok-below-in-Fitting.below c.loop-kid-test.true c.kid-item.is
    (c.in_ok-below-in-Fitting.ensures.fault ∙ ap (fault_at state) named) none
    (c.in_ok-below-in-Fitting.ensures.visits (ap Ok (is_none c.in_ok-below-in-Fitting.below none)) ∙ ap (λ (n : NameParts). c.loop-kid.visits.items ++ map (visit_of state) (units_at state n)) named) c.loop-kid.invariant
  where
    is_none : (o : Option Outcome) → is_some o ≡ false → o ≡ None
    is_none None e = refl
    is_none (Some x) e = absurd cc
