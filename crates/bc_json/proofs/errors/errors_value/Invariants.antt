use Rattle.std.proofs.Common.{map, take}
use Rattle.std.specs.List.{AllZip}
use Rattle.bc_json.specs.Texts.{HasText}
use Rattle.bc_json.specs.Json.{error_json}
use Rattle.bc_json.proofs.errors.errors_value.Given as goal

abbrev pub invariant-loop-error : goal.invariant-loop-error
invariant-loop-error l =
    AllZip HasText l.values.items (map error_json (take l.error-index l.errors))
