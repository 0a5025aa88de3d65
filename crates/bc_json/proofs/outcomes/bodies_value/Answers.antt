use Rattle.std.proofs.Common.{map, List, ◌+◌, take, subst, sym, ◌≡◌}
use Rattle.std.specs.List.{AllZip}
use Rattle.std.proofs.lemmas.List.{take_all}
use Rattle.serde_json.specs.declared.value.Value.{Value}
use Rattle.bc_prov.specs.declared.outcome.BodyErrors.{BodyErrors}
use Rattle.bc_json.specs.Texts.{HasText}
use Rattle.bc_json.specs.Json.{body_json}
use Rattle.bc_json.proofs.Lists.{one_more, array_has_text}
use Rattle.bc_json.proofs.outcomes.bodies_value.Goals as goal

pub loop-body-preserved : goal.loop-body-preserved
loop-body-preserved c =
    subst (λ (values : List Value). AllZip HasText values (map body_json (take (c.loop-body.body-index + 1) c.args.bodies.now))) (sym c.in_ok-push.ensures.items)
    (one_more body_json c.args.bodies.now c.loop-body.body-index c.body-item.result c.loop-body.values.items c.in_ok-body_value.field-0 c.loop-body-test.true c.loop-body.invariant (subst (λ (body : BodyErrors). HasText c.in_ok-body_value.field-0 (body_json body)) c.body-item.is c.in_ok-body_value.ensures))

pub returns : goal.returns
returns c =
    let whole : take c.loop-body.body-index c.args.bodies.now ≡ c.args.bodies.now = take_all c.loop-body.body-index c.args.bodies.now c.loop-body-test.false in
    array_has_text c.loop-body.values (map body_json c.args.bodies.now) (subst (λ xs. AllZip HasText c.loop-body.values.items (map body_json xs)) whole c.loop-body.invariant)
