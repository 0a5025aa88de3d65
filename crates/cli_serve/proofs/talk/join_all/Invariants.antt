use Rattle.std.specs.Prelude.{◌≡◌, length, OnOk}
use Rattle.cli_serve.specs.Talked.{AreNumbered, AreOwn, AreWholeBy}
use Rattle.cli_serve.proofs.talk.join_all.Given as goal

abbrev pub invariant-workers : goal.invariant-workers
invariant-workers g l =
    (length l.pens.items ≡ length l.done.items) × AreOwn l.done.items × AreNumbered l.pens.items × OnOk l.ended (AreWholeBy g.L.Talk.sessions g.L.Talk.lines l.done.items l.pens.items)
