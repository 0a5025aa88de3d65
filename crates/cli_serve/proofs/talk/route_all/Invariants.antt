use Rattle.std.specs.Prelude.{◌≡◌, length}
use Rattle.cli_talk.specs.Counted.{CountsSoFar}
use Rattle.cli_serve.proofs.Told.{HasToldSoFar}
use Rattle.cli_serve.proofs.talk.route_all.Given as goal

abbrev pub invariant-lines : goal.invariant-lines
invariant-lines g l =
    (length l.counts.items ≡ l.talk.sessions) × CountsSoFar l.talk.sessions l.counts.items g.L.Talk.lines (g.I.Read.remaining l.input) × HasToldSoFar l.talk.sessions g.L.Talk.lines (g.I.Read.remaining l.input) l.printer.pen.texts
