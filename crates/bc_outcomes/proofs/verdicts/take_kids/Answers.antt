use Rattle.std.proofs.Common.{◌≡◌, ℕ, ◌∷◌, length, map, refl, ap, arith}
use Rattle.bc_cons.specs.declared.requirements.Requirements.{Requirements}
use Rattle.bc_prov.specs.State.{number_of_child}
use Rattle.bc_types.proofs.Appending.{appended-all}
use Rattle.bc_outcomes.proofs.Taking.{numbers_more, rest_more}
use Rattle.bc_outcomes.proofs.verdicts.take_kids.Goals as goal

pub loop-child-preserved : goal.loop-child-preserved
loop-child-preserved c =
    let before = c.loop-child.invariant in
    let child = c.child-item.result in
    let required = c.unwrap-requirements.result in
    let first : c.loop-child.required ≡ required ∷ c.pop.new.self = rw c.unwrap-requirements.ensures at c.pop.ensures in
    let size = ap length first in
    rw c.in_ok-push.ensures.items (
    record {
      enough = omega (arith, before.enough, size);
      numbers =
          numbers_more (λ (k : ℕ × Requirements). k.0) number_of_child c.loop-child.taken.items (child.number, required) c.args.children.now c.loop-child.child-index child _ c.loop-child-test.true
          (ap number_of_child c.child-item.is) before.numbers;
      rest = rest_more (λ (k : ℕ × Requirements). k.1) c.loop-child.taken.items (child.number, required) _ _ _ first before.rest;
    }
    )

pub returns-clause-numbers : goal.returns-clause-numbers
returns-clause-numbers c =
    appended-all (map number_of_child) _ (map (λ (k : ℕ × Requirements). k.0) c.loop-child.taken.items) c.args.children.now c.loop-child.child-index c.loop-child-test.false refl c.loop-child.invariant.numbers
