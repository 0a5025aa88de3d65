use Rattle.std.proofs.Common.{length, arith}
use Rattle.bc_reasons.proofs.Reaching.{links_within}
use Rattle.bc_reasons.proofs.paths.use_facts.Goals as goal

pub new-requires-clause-regions : goal.new-requires-clause-regions
new-requires-clause-regions c = omega (arith, c.in_ok-starts.ensures.points, c.in_ok-starts.ensures.few)

pub new-requires-clause-pairs : goal.new-requires-clause-pairs
new-requires-clause-pairs c =
    let mir = c.args.typed.now in
    rw (c.in_ok-links.ensures.value, c.in_ok-starts.ensures.points) (links_within mir c.args.local (length mir.steps) c.in_ok-links.ensures.within)

pub returns-clause-uses : goal.returns-clause-uses
returns-clause-uses c = rw c.new.ensures.starts c.in_ok-starts.ensures.uses
