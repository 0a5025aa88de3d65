use Rattle.std.proofs.Common.{◌<◌, length, None, get_or, arith}
use Rattle.std.proofs.lemmas.List.{get_or_default}
use Rattle.std.proofs.lemmas.List.Edits.{map_over_more}
use Rattle.bc_names.specs.Names.{NameParts}
use Rattle.bc_memo.specs.declared.place.Place.{Place}
use Rattle.bc_memo.specs.Places.{with_answer}
use Rattle.bc_memo.proofs.shelf.clear_rows.Goals as goal

pub loop-row-preserved : goal.loop-row-preserved
loop-row-preserved c =
    let within = c.loop-row-test.true in
    let same = c.loop-row.auto.rows in
    let x : NameParts × Place = get_or c.loop-row.rows c.loop-row.row-index c.row-item.result in
    let long : c.loop-row.row-index < length c.loop-row.rows = omega (arith, within, same) in
    map_over_more (λ (p : NameParts × Place). (p.0, with_answer p.1 None)) c.args.rows.now c.loop-row.rows c.loop-row.row-index x within c.loop-row.invariant
    (get_or_default c.loop-row.rows c.loop-row.row-index c.row-item.result x long)
