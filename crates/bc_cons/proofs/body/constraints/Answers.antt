use Rattle.std.proofs.Common.{◌≡◌, length, filter, refl, sym, subst}
use Rattle.bc_cons.specs.Constraints.{differ, all_pairs}
use Rattle.bc_cons.specs.Bounds.{types_bound, pairs_bound}
use Rattle.bc_cons.specs.Below.{IsRegionCount}
use Rattle.bc_cons.proofs.Bounding.{numbered_within, is_region_count}
use Rattle.bc_cons.proofs.body.constraints.Goals as goal

pub new-requires-clause-pairs : goal.new-requires-clause-pairs
new-requires-clause-pairs c =
    let mir = c.args.typed.now in
    rw (c.in_ok-numbered.ensures, c.universals-universals.ensures.value, c.deref-2.ensures.value, c.in_ok-starts.ensures.regions, c.region_count-regions.ensures.count, c.deref.ensures.value)
    (numbered_within mir.universals (types_bound mir.universals mir.universals mir.locals) c.in_ok-pairs.pairs.items)

pub returns-clause-universals : goal.returns-clause-universals
returns-clause-universals c = rw (c.new.ensures.starts, c.in_ok-starts.ensures.regions) c.region_count-regions.ensures.universals

pub returns-clause-regions : goal.returns-clause-regions
returns-clause-regions c =
    let mir = c.args.typed.now in
    let count : length c.new.result.starts ≡ pairs_bound mir.universals (types_bound mir.universals mir.universals mir.locals) (filter differ (all_pairs mir c.args.requirements.now)) =
    rw (c.new.ensures.starts, c.in_ok-starts.ensures.regions, c.region_count-regions.ensures.count, c.deref.ensures.value, c.in_ok-pairs.ensures) refl in
    subst (IsRegionCount mir c.args.requirements.now) (sym count) (is_region_count mir c.args.requirements.now)
