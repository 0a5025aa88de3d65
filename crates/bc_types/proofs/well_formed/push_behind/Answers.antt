use Rattle.std.proofs.Common.{◌≡◌, ◌++◌, OnOk, map, subst, sym, ap, ◌∙◌, append_assoc}
use Rattle.bc_types.specs.Mentions.{regions_of_references, regions_of_base}
use Rattle.bc_types.specs.Subtype.{outlives}
use Rattle.bc_types.specs.WellFormed.{each_outlives}
use Rattle.bc_types.proofs.Demanding.{behind_pairs}
use Rattle.bc_types.proofs.well_formed.push_behind.Goals as goal

pub returns : goal.returns
returns c =
    let references = c.args.references.now in
    let behind = regions_of_base c.args.base.now in
    let appended = each_outlives behind c.args.shorter in
    let whole : c.push_references_outlive.new.constraints.items ++ appended ≡ c.args.constraints.now.items ++ each_outlives (regions_of_references references ++ behind) c.args.shorter =
    ap (λ ps. ps ++ appended) c.in_ok-push_references_outlive.ensures
    ∙ append_assoc c.args.constraints.now.items (map (λ reference. outlives reference.region c.args.shorter) references) appended
    ∙ ap (λ ps. c.args.constraints.now.items ++ ps) (sym (behind_pairs references behind c.args.shorter)) in
    subst (λ ps. OnOk c.push_base_outlives.result (c.push_base_outlives.new.constraints.items ≡ ps)) whole c.push_base_outlives.ensures
