use Rattle.bc_print.proofs.Printings.{writes_commas, writes_no_commas}
use Rattle.bc_print.proofs.tokens.write_commas.Goals as goal

pub returns-in_ok-write_next : goal.returns-in_ok-write_next
returns-in_ok-write_next g c =
    writes_commas (g.T.Spelled.spelling c.args.regions.now) _ _ _ c.in-Some.first.now c.in-Some.others.now c.args.items.now c.in-Some.ensures.cases.0 c.in_ok-write_tokens.ensures c.in_ok-write_next.ensures

pub returns-in_default : goal.returns-in_default
returns-in_default g c = writes_no_commas (g.T.Spelled.spelling c.args.regions.now) _ c.args.items.now c.in_default.ensures.cases
