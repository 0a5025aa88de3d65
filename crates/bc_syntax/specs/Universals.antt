-- The names of universal regions.
use Rattle.std.specs.Prelude.{ℕ, List, ◌∷◌, map, codes}
use Rattle.bc_syntax.specs.declared.syntax.RegionName.{RegionName}

-- the names of the universal regions by their numbers: `'static`, then the declared ones
abbrev pub universal_names : List RegionName → List (List ℕ)
universal_names regions = codes "static" ∷ map (λ (name : RegionName). name.bytes) regions
