use Rattle.std.proofs.Common.{◌≡◌, drop}
use Rattle.left_right.specs.Sides.{view}
use Rattle.bc_versions.proofs.press.publish.Given as goal

abbrev pub invariant-loop : goal.invariant-loop
invariant-loop g l =
    (view l.writer.desk.place ≡ view l.fn.writer.desk.place)
    × (l.writer.desk.shown.value ≡ l.fn.writer.desk.shown.value)
    × (drop l.writer.behind l.writer.log.items ≡ drop l.fn.writer.behind l.fn.writer.log.items)
