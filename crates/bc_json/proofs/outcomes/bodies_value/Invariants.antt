use Rattle.std.proofs.Common.{map, take}
use Rattle.std.specs.List.{AllZip}
use Rattle.bc_json.specs.Texts.{HasText}
use Rattle.bc_json.specs.Json.{body_json}
use Rattle.bc_json.proofs.outcomes.bodies_value.Given as goal

abbrev pub invariant-loop-body : goal.invariant-loop-body
invariant-loop-body l =
    AllZip HasText l.values.items (map body_json (take l.body-index l.bodies))
