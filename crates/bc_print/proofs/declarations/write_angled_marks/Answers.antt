use Rattle.std.proofs.Common.{sym, ap, ◌∙◌}
use Rattle.std.specs.Prelude.{◌==◌}
use Rattle.std.specs.List.{zip}
use Rattle.std.proofs.lemmas.Result.{on_ok_weaker}
use Rattle.bc_syntax.specs.Spelling as spell
use Rattle.bc_print.proofs.Printings.{writes_angled, writes_no_angled, zipped_length}
use Rattle.bc_print.proofs.declarations.write_angled_marks.Goals as goal

pub returns-then-is_empty : goal.returns-then-is_empty
returns-then-is_empty g c =
    let as_many = zipped_length c.args.variances.now c.args.names.now c.requires in
    writes_no_angled spell.mark _ (zip c.args.variances.now c.args.names.now) (c.if-is_empty.ensures ∙ ap (λ k. k == 0) (sym as_many))

pub returns : goal.returns
returns g c =
    let as_many = zipped_length c.args.variances.now c.args.names.now c.requires in
    on_ok_weaker c.write_symbol-2.result
    (writes_angled spell.mark _ _ _ _ (zip c.args.variances.now c.args.names.now) (c.if-is_empty.ensures ∙ ap (λ k. k == 0) (sym as_many)) c.in_ok-write_symbol.ensures c.in_ok-write_marks.ensures) c.write_symbol-2.ensures
