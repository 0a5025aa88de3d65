use Rattle.std.proofs.Common.{◌≡◌, arith}
use Rattle.bc_flow.proofs.BreadthFirst.{GivesLevel-none, GivesLevel-one}
use Rattle.bc_flow.proofs.breadth_first.reach.Goals as goal

pub returns-in_ok-push : goal.returns-in_ok-push
returns-in_ok-push c = rw c.in_ok-push.ensures.items (GivesLevel-one c.args.level c.args.node c.args.levels.now c.args.found.now.items c.requires.level c.requires.node c.if-levels-node-eq0.true)

pub returns-else-levels-node-eq0 : goal.returns-else-levels-node-eq0
returns-else-levels-node-eq0 c =
    GivesLevel-none (λ n. n ≡ c.args.node) c.args.level c.args.levels.now c.args.found.now.items (λ n same. rw same (omega (arith, c.if-levels-node-eq0.false)))
