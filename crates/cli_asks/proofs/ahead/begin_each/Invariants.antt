use Rattle.cli_asks.proofs.Beginning.{HasBegun}
use Rattle.cli_asks.proofs.ahead.begin_each.Given as goal

abbrev pub invariant-loop-name : goal.invariant-loop-name
invariant-loop-name g l = HasBegun l.names.keys l.name-iterator l.asks.items l.fn.session l.session
