use Rattle.std.proofs.Common.{map, List, ◌+◌, take, subst, sym, ◌≡◌}
use Rattle.std.specs.List.{AllZip}
use Rattle.std.proofs.lemmas.List.{take_all}
use Rattle.serde_json.specs.declared.value.Value.{Value}
use Rattle.bc_json.specs.Texts.{HasText}
use Rattle.bc_json.specs.Json.{region_json}
use Rattle.bc_json.proofs.Lists.{one_more, array_has_text}
use Rattle.bc_json.proofs.errors.chain_value.Goals as goal

pub loop-region-preserved : goal.loop-region-preserved
loop-region-preserved c =
    subst (λ (words : List Value). AllZip HasText words (map region_json (take (c.loop-region.region-index + 1) c.args.chain.now))) (sym c.in_ok-push.ensures.items)
    (one_more region_json c.args.chain.now c.loop-region.region-index _ c.loop-region.words.items c.in_ok-region_value.field-0 c.loop-region-test.true c.loop-region.invariant c.in_ok-region_value.ensures)

pub returns : goal.returns
returns c =
    let whole : take c.loop-region.region-index c.args.chain.now ≡ c.args.chain.now = take_all c.loop-region.region-index c.args.chain.now c.loop-region-test.false in
    array_has_text c.loop-region.words (map region_json c.args.chain.now) (subst (λ xs. AllZip HasText c.loop-region.words.items (map region_json xs)) whole c.loop-region.invariant)
