use Rattle.std.proofs.Common.{◌+◌, [], arith, rules, tests}
use Rattle.bc_flow.specs.Levels.{is_unreached, GivesLevel, IsSuccessor}
use Rattle.std.proofs.lemmas.List.Sums.{count_by-le-length}
use Rattle.bc_flow.proofs.BreadthFirst.{AreLevelsUpTo-first, AreLevelsUpTo-more, AreLevels-end, front_within}
use Rattle.bc_flow.proofs.breadth_first.fill_levels.Goals as goal

pub next_level-requires : goal.next_level-requires
next_level-requires c =
    let invariant = c.levels.invariant in
    record {
      front = rw c.deref.ensures.value (front_within _ _ _ _ _ invariant.spread);
      level = omega arith;
      edges = rw invariant.count c.requires.edges;
      chains = rw invariant.count c.requires.chains;
    }

pub returns : goal.returns
returns c = AreLevels-end c.args.edges.now c.args.sources.now c.levels.level c.levels.levels c.levels.front.items (search (rules, tests)) c.levels.invariant.spread

pub levels-preserved : goal.levels-preserved
levels-preserved c =
    let marks : GivesLevel (IsSuccessor c.args.edges.now c.levels.front.items) (c.levels.level + 1) c.levels.levels c.next_level.new.levels [] c.next_level.new.found.items = rw c.deref.ensures.value at c.in_ok-next_level.ensures in
    let spread = AreLevelsUpTo-more c.args.edges.now c.args.sources.now c.levels.level c.levels.levels c.next_level.new.levels c.levels.front.items c.next_level.new.found.items c.levels.invariant.spread marks in
    record {
      count = grind arith;
      spread = rw c.swap.ensures.x_after spread;
      few = rw c.swap.ensures.x_after (grind (arith, marks.counted));
    }

pub levels-init : goal.levels-init
levels-init c = record {
  count = c.first_level.auto.levels;
  spread = AreLevelsUpTo-first c.args.edges.now c.args.sources.now c.args.levels.now c.first_level.new.levels c.in_ok-front.front.items c.requires.none c.in_ok-front.ensures;
  few = omega (arith, c.in_ok-front.ensures.counted, count_by-le-length is_unreached c.args.levels.now);
}
