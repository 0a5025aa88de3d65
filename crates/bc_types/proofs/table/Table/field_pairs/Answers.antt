use Rattle.std.proofs.Common.{◌≡◌, ◌+◌, IfOk, length, ap, subst, ◌∙◌}
use Rattle.std.specs.List.{flat_map}
use Rattle.bc_types.specs.WellFormed.{is_demanded, pairs_where, well_formed_pairs}
use Rattle.bc_types.proofs.table.Table.field_pairs.Goals as goal

pub returns : goal.returns
returns c =
    let demanded = flat_map (well_formed_pairs c.args.self.now) in
    let given = c.deref.ensures.value ∙ c.in_ok-pairs.ensures ∙ ap demanded c.as_slice.ensures in
    let count = ap (λ regions. length regions + 1) c.as_slice-regions.ensures in
    subst (λ n. IfOk c.among.result (λ pairs. pairs ≡ pairs_where (is_demanded (demanded c.args.declaration.now.fields)) n)) count
    (subst (λ demands. IfOk c.among.result (λ pairs. pairs ≡ pairs_where (is_demanded demands) (length c.as_slice-regions.result.now + 1))) given c.among.ensures)
