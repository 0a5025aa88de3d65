use Rattle.std.proofs.Common.{◌++◌, [], ◌∷◌, ◌-◌, map, get_or, sym, ap, ◌∙◌, append_assoc, arith}
use Rattle.bc_flow.proofs.BreadthFirst.{reached_within}
use Rattle.bc_points.specs.Regions.{region_of_number}
use Rattle.bc_solve.specs.Ways.{way}
use Rattle.bc_solve.proofs.Steps.{way_more}
use Rattle.bc_solve.proofs.ways.walk.Goals as goal

pub loop-left-preserved : goal.loop-left-preserved
loop-left-preserved c =
    let here = c.loop-left.here in
    let regions = map (region_of_number c.args.facts.now.universals) in
    let rest = way c.args.steps.now (c.loop-left.left - 1) (get_or c.args.steps.now here 0) in
    let at = c.loop-left.invariant.here c.loop-left-test.true in
    record {
      here = λ h. let on = c.requires.steps here (omega (arith, h, at)) in omega (arith, on, at, h);
      so_far = rw (c.in_ok-push.ensures.items, c.region.ensures)
          (append_assoc c.loop-left.chain.items (regions (here ∷ [])) (regions rest)
          ∙ ap (λ more. c.loop-left.chain.items ++ regions more) (sym (way_more c.args.steps.now c.loop-left.left here c.loop-left-test.true)) ∙ c.loop-left.invariant.so_far);
    }

pub region-requires : goal.region-requires
region-requires c =
    let at = c.loop-left.invariant.here c.loop-left-test.true in
    omega (arith, reached_within c.args.lengths.now c.loop-left.here (omega (arith, at, c.loop-left-test.true)), c.requires.regions)

pub bounds-steps-here : goal.bounds-steps-here
bounds-steps-here c =
    let at = c.loop-left.invariant.here c.loop-left-test.true in
    omega (arith, reached_within c.args.lengths.now c.loop-left.here (omega (arith, at, c.loop-left-test.true)), c.requires.count)

pub offset_bounds-steps-here : goal.offset_bounds-steps-here
offset_bounds-steps-here c =
    let at = c.loop-left.invariant.here c.loop-left-test.true in
    omega (arith, reached_within c.args.lengths.now c.loop-left.here (omega (arith, at, c.loop-left-test.true)), c.requires.count)
