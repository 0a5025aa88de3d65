use Rattle.std.proofs.Common.{◌∙◌, Bool, ap, cond, arith}
use Rattle.std.specs.List.{insert}
use Rattle.bc_memo.proofs.Places.{set_put, insert_put}
use Rattle.std.proofs.lemmas.Grind.{common_steps}
use Rattle.bc_memo.proofs.rows.put.Goals as goal

pub returns-in-Ok-clause-rows : goal.returns-in-Ok-clause-rows
returns-in-Ok-clause-rows g c =
    let f = c.in-Ok.ensures.found in
    rw (← c.deref.ensures.value) (set_put _ c.args.name c.args.value c.in-Ok.place f.within f.above f.at)

pub returns-else-is_err-clause-rows : goal.returns-else-is_err-clause-rows
returns-else-is_err-clause-rows g c =
    let f = c.in-Err.ensures.missed in
    let rows = c.args.rows.now.items in
    c.insert.ensures.items ∙ ap (λ (b : Bool). cond b (insert rows c.in-Err.place (c.args.name, c.args.value)) rows) c.if-is_err.ensures.negation
    ∙ rw (← c.deref.ensures.value) (insert_put _ c.args.name c.args.value c.in-Err.place f.within f.above f.below)

pub returns-else-is_err-clause-memory : goal.returns-else-is_err-clause-memory
returns-else-is_err-clause-memory g c = grind (arith, common_steps)

pub unreachable-requires : goal.unreachable-requires
unreachable-requires g c = grind (arith, common_steps)
