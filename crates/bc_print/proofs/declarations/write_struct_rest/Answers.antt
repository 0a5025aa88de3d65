use Rattle.std.proofs.Common.{◌++◌}
use Rattle.std.specs.List.{zip}
use Rattle.std.proofs.lemmas.Result.{on_ok_weaker}
use Rattle.bc_syntax.specs.Spelling as spell
use Rattle.bc_print.proofs.Printings.{writes_both}
use Rattle.bc_print.proofs.declarations.write_struct_rest.Goals as goal

pub returns : goal.returns
returns g c =
    let d = c.args.declaration.now in
    let name = spell.item_name d.name in
    let marks = spell.angled spell.mark (zip d.variances d.regions) in
    let word = spell.drop_word d.has_drop in
    let fields = spell.fields d in
    on_ok_weaker c.write_braced_fields.result
    (λ done. writes_both _ _ _ name (marks ++ (word ++ fields)) c.in_ok-write_item_name.ensures
    (writes_both _ _ _ marks (word ++ fields) (rw (c.as_slice.ensures, c.as_slice-2.ensures) at c.in_ok-write_angled_marks.ensures) (writes_both _ _ _ word fields c.in_ok-write_drop_word.ensures done))) c.write_braced_fields.ensures
