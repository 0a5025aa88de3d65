use Rattle.std.proofs.Common.{map, List, ◌+◌, take, subst, sym, ◌≡◌}
use Rattle.std.specs.List.{AllZip}
use Rattle.std.proofs.lemmas.List.{take_all}
use Rattle.serde_json.specs.declared.value.Value.{Value}
use Rattle.bc_judge.specs.declared.error.BorrowError.{BorrowError}
use Rattle.bc_json.specs.Texts.{HasText}
use Rattle.bc_json.specs.Json.{error_json}
use Rattle.bc_json.proofs.Lists.{one_more, array_has_text}
use Rattle.bc_json.proofs.errors.errors_value.Goals as goal

pub loop-error-preserved : goal.loop-error-preserved
loop-error-preserved c =
    subst (λ (values : List Value). AllZip HasText values (map error_json (take (c.loop-error.error-index + 1) c.args.errors.now))) (sym c.in_ok-push.ensures.items)
    (one_more error_json c.args.errors.now c.loop-error.error-index c.error-item.result c.loop-error.values.items c.in_ok-error_value.field-0 c.loop-error-test.true c.loop-error.invariant (subst (λ (error : BorrowError). HasText c.in_ok-error_value.field-0 (error_json error)) c.error-item.is c.in_ok-error_value.ensures))

pub returns : goal.returns
returns c =
    let whole : take c.loop-error.error-index c.args.errors.now ≡ c.args.errors.now = take_all c.loop-error.error-index c.args.errors.now c.loop-error-test.false in
    array_has_text c.loop-error.values (map error_json c.args.errors.now) (subst (λ xs. AllZip HasText c.loop-error.values.items (map error_json xs)) whole c.loop-error.invariant)
