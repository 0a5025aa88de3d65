use Rattle.std.proofs.Common.{map, sym, ap, ◌∙◌, arith, length, ◌<◌}
use Rattle.std.proofs.lemmas.List.{get_or-map, length-map}
use Rattle.bc_calls.specs.declared.call.Call.{Call}
use Rattle.cli_file.specs.Changes.{seen}
use Rattle.cli_check.proofs.Asking.{asked_more, asked_same, asked_all}
use Rattle.cli_check.proofs.asked.find_asked.Goals as goal
use Rattle.cli_check.proofs.asked.find_asked.Goals.{in-Some+in_ok-insert, in_default}

pub loop-change-preserved : goal.loop-change-preserved
loop-change-preserved c =
    let changes = c.args.changes.now in
    let i = c.loop-change.change-index in
    let change = c.change-item.result in
    let below : i < length (map seen changes) = omega (arith, length-map changes seen, c.loop-change-test.true) in
    let at = λ (d : Call). get_or-map seen changes i change d c.loop-change-test.true ∙ ap seen (sym c.change-item.is) in
    elim c.match-root_put.branch [
      | in-Some+in_ok-insert w ↦ rw w.names-is (asked_more c.names_are_told_apart.ensures _ _ (seen change) _ _ _ c.loop-change.invariant below at (sym c.root_put.ensures ∙ w.in-Some.is) w.in_ok-insert.ensures.keys w.in_ok-insert.ensures.ordered)
      | in_default w ↦ rw w.names-is (asked_same _ _ (seen change) _ c.loop-change.invariant below at (sym c.root_put.ensures ∙ w.in_default.is))
    ]

pub returns-clause-asked : goal.returns-clause-asked
returns-clause-asked c =
    asked_all (map seen c.args.changes.now) c.loop-change.change-index c.loop-change.names.keys c.loop-change.invariant (omega (arith, length-map c.args.changes.now seen, c.loop-change-test.false))
