use Rattle.std.proofs.Common.{◌≡◌, rules, true}
use Rattle.cli_serve.proofs.Telling.{is_more, told_step}
use Rattle.cli_serve.proofs.talk.route_all.Goals.{in-Ok-Told, in-Ok-Sent+in_default}
use Rattle.cli_serve.proofs.talk.route_all.Goals as goal

pub lines-preserved : goal.lines-preserved
lines-preserved g c =
    let more : is_more c.route_line.result ≡ true =
    elim c.match-route_line-2.branch [
      | in-Ok-Told w ↦ search rules
      | in-Ok-Sent+in_default w ↦ search rules
    ] in
    (search rules, search rules, told_step _ _ _ _ _ _ _ _ c.lines.invariant.2 c.route_line.ensures.routed more)
