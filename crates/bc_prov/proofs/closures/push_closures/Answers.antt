use Rattle.std.proofs.Common.{◌≡◌, ◌++◌, ◌∙◌, List, ap, subst}
use Rattle.std.specs.Prelude.{OnOk, map}
use Rattle.bc_prov.specs.State.{child}
use Rattle.std.proofs.Common.{ℕ}
use Rattle.bc_prov.proofs.Numbers.{room_of}
use Rattle.bc_prov.proofs.closures.push_closures.Goals as goal

pub push_children-requires-clause-few : goal.push_children-requires-clause-few
push_children-requires-clause-few c = room_of c.args.name c.args.unit.now c.deref.result.now (c.deref.ensures.value ∙ c.in_ok-numbers.ensures.value) c.requires.room

pub returns : goal.returns
returns c =
    let are = c.deref.ensures.value ∙ c.in_ok-numbers.ensures.value in
    subst (λ (numbers : List ℕ). OnOk c.push_children.result (c.push_children.new.names.items ≡ c.args.names.now.items ++ map (child c.args.name) numbers)) are c.push_children.ensures
