use Rattle.std.proofs.Common.{◌≡◌, ◌+◌, List, map, take, subst, sym}
use Rattle.std.specs.List.{AllZip}
use Rattle.std.proofs.lemmas.List.{take_all}
use Rattle.serde_json.specs.View.{view as data_of}
use Rattle.serde_json.specs.declared.value.Value.{Value}
use Rattle.serde_json.proofs.Views.{view-Array}
use Rattle.bc_names.specs.Names.{NameParts}
use Rattle.bc_prov.specs.declared.outcome.Outcome.{Outcome}
use Rattle.cli_entries.specs.Replies.{IsRoot}
use Rattle.cli_entries.proofs.Roots.{one_more_root}
use Rattle.cli_entries.proofs.replies.roots_value.Goals as goal

pub loop-name-preserved : goal.loop-name-preserved
loop-name-preserved c =
    let row = c.loop-name-item.result in
    let value = c.in_ok-root_value.field-0 in
    let root : IsRoot row (data_of value) = subst (λ (outcome : Outcome). IsRoot (row.0, outcome) (data_of value)) c.get.ensures c.in_ok-root_value.ensures in
    let next = subst (λ (row : NameParts × Outcome). IsRoot row (data_of value)) c.loop-name-item.is root in
    subst (λ (values : List Value). AllZip IsRoot (take (c.loop-name.name-index + 1) c.args.rows.now) (map data_of values)) (sym c.in_ok-push.ensures.items)
    (one_more_root c.args.rows.now c.loop-name.name-index row c.loop-name.values.items value c.loop-name-test.true c.loop-name.invariant next)

pub returns : goal.returns
returns c =
    let whole : take c.loop-name.name-index c.args.rows.now ≡ c.args.rows.now = take_all c.loop-name.name-index c.args.rows.now c.loop-name-test.false in
    (map data_of c.loop-name.values.items, subst (λ rows. AllZip IsRoot rows (map data_of c.loop-name.values.items)) whole c.loop-name.invariant, view-Array c.loop-name.values)
