use Rattle.std.proofs.Common.{map, take}
use Rattle.std.specs.List.{AllZip}
use Rattle.bc_json.specs.Texts.{HasText}
use Rattle.bc_json.specs.Json.{region_json}
use Rattle.bc_json.proofs.errors.chain_value.Given as goal

abbrev pub invariant-loop-region : goal.invariant-loop-region
invariant-loop-region l =
    AllZip HasText l.words.items (map region_json (take l.region-index l.chain))
