use Rattle.std.proofs.Common.{◌≡◌, ◌<◌, List, length, get_or, sym, ap, ◌∙◌, subst, rules, Equal}
use Rattle.std.specs.Prelude.{Some}
use Rattle.std.proofs.lemmas.Fn.{always_returns_same}
use Rattle.bc_names.specs.Names.{name_order}
use Rattle.bc_prov.proofs.Lookup.{all_suited, found, none_at}
use Rattle.bc_prov.proofs.snapshot.Snapshot.unit.Goals as goal

pub returns-in-Ok-clause-unit : goal.returns-in-Ok-clause-unit
returns-in-Ok-clause-unit c =
    let is = c.in-Ok.ensures.position (λ u. name_order u.0 c.args.name.now) (always_returns_same _ _ _ (λ a r f' k. search rules)) c.index.result.now in
    rw (← c.self.view_is)
    (ap (λ u. Some u.1) c.index.ensures
    ∙ sym (found c.self.inside.units.items c.args.name.now c.in-Ok.at c.index.result.now c.self.invariant.snapshot.ascending
    (subst (λ (us : List _). c.in-Ok.at < length us) c.deref.ensures.value c.in-Ok.ensures.bound)
    (subst (λ (us : List _). name_order (get_or us c.in-Ok.at c.index.result.now).0 c.args.name.now ≡ Equal) c.deref.ensures.value is)))

pub returns-in-Err-clause-unit : goal.returns-in-Err-clause-unit
returns-in-Err-clause-unit c =
    let parts = c.in-Err.ensures.position (λ u. name_order u.0 c.args.name.now) (always_returns_same _ _ _ (λ a r f' k. search rules)) in
    rw (← c.self.view_is, ← c.deref.ensures.value) (sym (none_at c.deref.result.now c.args.name.now c.in-Err.field-0 (rw c.deref.ensures.value c.self.invariant.snapshot.ascending) parts))

pub returns-in-Ok-clause-suited : goal.returns-in-Ok-clause-suited
returns-in-Ok-clause-suited c = rw (← c.self.view_is) (all_suited c.self.inside.units.items c.self.invariant.snapshot.suited)

pub returns-in-Err-clause-suited : goal.returns-in-Err-clause-suited
returns-in-Err-clause-suited c = rw (← c.self.view_is) (all_suited c.self.inside.units.items c.self.invariant.snapshot.suited)
