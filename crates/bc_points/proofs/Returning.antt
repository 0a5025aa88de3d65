use Rattle.std.proofs.Common.{◌≡◌, ℕ, ◌+◌, [], ◌∷◌, ◌++◌, arith}
use Rattle.std.proofs.lemmas.List.FromFn.{map-range_with_len_more}
use Rattle.bc_points.specs.declared.access.Depth.TheVariants.{Shallow}
use Rattle.bc_points.specs.declared.access.AccessKind.TheVariants.{Write}
use Rattle.bc_points.specs.Accesses.{return_accesses, access_of, local_place}

-- one more local adds one write
pub return_accesses-more : (n : ℕ) → return_accesses (n + 1) ≡ return_accesses n ++ access_of Shallow Write (local_place n) ∷ []
return_accesses-more n = map-range_with_len_more _ 0 n n (omega arith)
