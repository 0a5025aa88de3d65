use Rattle.std.proofs.Common.{◌≡◌, ◌<◌, None, List, [], ◌∷◌, length, refl, arith}
use Rattle.bc_syntax.specs.declared.syntax.Projection.{Projection}
use Rattle.bc_points.specs.Prefixes.{rest_after}

-- an empty list begins with no other
pub rest_after-short : (beginning xs : List Projection) → 0 < length beginning → length xs < 1 → rest_after beginning xs ≡ None
rest_after-short [] xs some short = absurd (omega arith)
rest_after-short (first ∷ beginning) [] some short = refl
rest_after-short (first ∷ beginning) (second ∷ xs) some short = absurd (omega arith)
