use Rattle.std.proofs.Common.{◌&&◌, ◌==◌, length, ap, sym, ◌∙◌}
use Rattle.std.specs.List.{list_any}
use Rattle.bc_syntax.specs.declared.syntax.Region.{Region}
use Rattle.bc_syntax.specs.declared.syntax.Reference.{Reference}
use Rattle.bc_points.specs.Regions.{region_number}
use Rattle.bc_types.specs.Mentions.{regions_of_base}
use Rattle.bc_cons.specs.Starts.{mentions, goes_to_variable}
use Rattle.bc_cons.proofs.Mentioning.{mentioned, all_below}
use Rattle.bc_cons.proofs.Growing.{AreGrown-then, both_go}
use Rattle.bc_cons.proofs.starts.add_to_type.Goals as goal

pub add_to_references-requires-clause-regions : goal.add_to_references-requires-clause-regions
add_to_references-requires-clause-regions c = rw c.as_slice.ensures (all_below c.args.universals (length c.args.rows.now) c.args.ty.now.references (regions_of_base c.args.ty.now.base) c.requires.regions).0

pub add_to_regions-requires-clause-regions : goal.add_to_regions-requires-clause-regions
add_to_regions-requires-clause-regions c =
    rw (c.base_regions-arguments.ensures, c.add_to_references.ensures.rows) ((all_below c.args.universals (length c.args.rows.now) c.args.ty.now.references (regions_of_base c.args.ty.now.base) c.requires.regions).1)

pub returns : goal.returns
returns c =
    let u = c.args.universals in
    let ty = c.args.ty.now in
    AreGrown-then
    (λ r e. list_any (λ (reference : Reference). region_number u reference.region == r) ty.references && goes_to_variable u c.args.points c.args.live_points.now r e)
    (λ r e. list_any (λ (region : Region). region_number u region == r) (regions_of_base ty.base) && goes_to_variable u c.args.points c.args.live_points.now r e)
    (λ r e. mentions u r ty && goes_to_variable u c.args.points c.args.live_points.now r e)
    (λ r e. both_go (list_any (λ (reference : Reference). region_number u reference.region == r) ty.references) (list_any (λ (region : Region). region_number u region == r) (regions_of_base ty.base)) (goes_to_variable u c.args.points c.args.live_points.now r e)
    ∙ ap (λ m. m && goes_to_variable u c.args.points c.args.live_points.now r e) (sym (mentioned u r ty)))
    (rw c.as_slice.ensures at c.add_to_references.ensures) (rw c.base_regions-arguments.ensures at c.add_to_regions.ensures)
