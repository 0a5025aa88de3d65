use Rattle.std.proofs.Common.{◌∙◌}
use Rattle.bc_tokens.specs.Token.{tokens}
use Rattle.bc_text.specs.Reading.{read}
use Rattle.bc_places.proofs.Starts.{noted_is}
use Rattle.bc_places.proofs.Counts.{one_each_read}
use Rattle.bc_places.proofs.places.point_places.Goals as goal

pub returns-in-Ok-clause-found : goal.returns-in-Ok-clause-found
returns-in-Ok-clause-found c =
    let u = c.in_ok-_unit._unit in
    (u, c.in_ok-_unit.ensures.exact, c.in-Ok.ensures ∙ noted_is u (tokens 0 0 c.args.text.now) c.in_ok-_unit.ensures.found.0.1)

pub returns-in-Ok-clause-each : goal.returns-in-Ok-clause-each
returns-in-Ok-clause-each c = λ v is.
    let u = c.in_ok-_unit._unit in
    let text = c.args.text.now in
    one_each_read text c.in-Ok.places.items (read text) u v c.in_ok-_unit.ensures.exact (c.in-Ok.ensures ∙ noted_is u (tokens 0 0 text) c.in_ok-_unit.ensures.found.0.1) is
