use Rattle.std.proofs.Common.{◌≡◌, ℕ, ◌≤◌, Bool, List, [], length, ap, sym, subst, arith}
use Rattle.std.proofs.lemmas.Result.{IfOk-weaker}
use Rattle.bc_flow.specs.Flow.{row, HaveSize}
use Rattle.bc_flow.proofs.Ways.{turned_within}
use Rattle.bc_live.proofs.liveness.flow_back.Goals as goal

-- the first row of the table has the size of all rows
first_size : (facts : ℕ) (rows : List (List Bool)) → HaveSize facts rows → 1 ≤ length rows → length (row rows 0) ≡ facts
first_size facts rows sized some = sized 0 [] (omega (arith, some))

by_first : (facts : ℕ) (rows others : List (List Bool)) → HaveSize facts rows → 1 ≤ length rows → HaveSize facts others → HaveSize (length (row rows 0)) others
by_first facts rows others sized some others_sized = subst (λ size. HaveSize size others) (sym (first_size facts rows sized some)) others_sized

from_first : (facts : ℕ) (rows others : List (List Bool)) → HaveSize facts rows → 1 ≤ length rows → HaveSize (length (row rows 0)) others → HaveSize facts others
from_first facts rows others sized some others_sized = subst (λ size. HaveSize size others) (first_size facts rows sized some) others_sized

pub flow-requires-clause-edges : goal.flow-requires-clause-edges
flow-requires-clause-edges c =
    rw (c.deref-2.ensures.value, c.in_ok-back.ensures, c.deref.ensures.value, c.in_ok-edges.ensures.value, c.requires.points)
    (turned_within _ _ c.in_ok-edges.ensures.within)

pub flow-requires-clause-rows : goal.flow-requires-clause-rows
flow-requires-clause-rows c =
    let some : 1 ≤ length c.args.seeds = omega (arith, c.requires.points, ap length c.steps.ensures.value, c.steps.ensures.some) in
    by_first (length c.args.typed.now.locals) c.args.seeds c.args.seeds c.requires.seeds some c.requires.seeds

pub flow-requires-clause-kills : goal.flow-requires-clause-kills
flow-requires-clause-kills c =
    let some : 1 ≤ length c.args.seeds = omega (arith, c.requires.points, ap length c.steps.ensures.value, c.steps.ensures.some) in
    by_first (length c.args.typed.now.locals) c.args.seeds c.args.kills.now c.requires.seeds some c.requires.kills

pub flow-requires-clause-pending : goal.flow-requires-clause-pending
flow-requires-clause-pending c = rw c.requires.points (rw c.steps.ensures.value at c.in_ok-pending.ensures.within)

pub flow-requires-clause-all : goal.flow-requires-clause-all
flow-requires-clause-all c = rw c.requires.points (rw c.steps.ensures.value at c.in_ok-pending.ensures.all)

pub returns-clause-points : goal.returns-clause-points
returns-clause-points c = rw c.requires.points at c.flow.ensures.nodes

pub returns-clause-locals : goal.returns-clause-locals
returns-clause-locals c =
    let some : 1 ≤ length c.args.seeds = omega (arith, c.requires.points, ap length c.steps.ensures.value, c.steps.ensures.some) in
    IfOk-weaker c.flow.result (λ rows. HaveSize (length (row c.args.seeds 0)) rows) (λ rows. HaveSize (length c.args.typed.now.locals) rows)
    (λ rows sized. from_first (length c.args.typed.now.locals) c.args.seeds rows c.requires.seeds some sized) c.flow.ensures.facts

pub returns-clause-flow : goal.returns-clause-flow
returns-clause-flow c =
    rw (c.deref-2.ensures.value, c.in_ok-back.ensures, c.deref.ensures.value, c.in_ok-edges.ensures.value) at c.flow.ensures.flow
