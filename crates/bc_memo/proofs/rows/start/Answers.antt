use Rattle.bc_memo.proofs.Places.{start_found}
use Rattle.bc_memo.proofs.rows.start.Goals as goal

pub returns-in-Ok : goal.returns-in-Ok
returns-in-Ok g c = start_found c.args.rows.now c.args.name.now c.in-Ok.place c.requires c.in-Ok.ensures.found
