-- Universal regions by name.
use Rattle.std.specs.Prelude.{ℕ, ◌+◌, List, codes, Option, Some, if◌then◌else◌}
use Rattle.std.specs.List.{position_from}
use Rattle.std.specs.Option.{option_map}
use Rattle.std.specs.Str.{bytes_eq}
use Rattle.bc_syntax.specs.declared.syntax.RegionName.{RegionName}

-- the number of the universal region with this name; `'static` has 0
unfoldable pub number_of : List RegionName → List ℕ → Option ℕ
number_of regions name = if bytes_eq name (codes "static") then Some 0 else option_map (λ position. position + 1) (position_from (λ (other : RegionName). bytes_eq other.bytes name) 0 regions)
