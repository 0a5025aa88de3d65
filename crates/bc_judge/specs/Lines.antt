-- How errors and their chains are printed.
use Rattle.std.specs.Prelude.{ℕ, List, ◌++◌, decimal, codes, flat_map}
use Rattle.bc_syntax.specs.declared.syntax.Region.{Region}
use Rattle.bc_syntax.specs.declared.syntax.Region.TheVariants.{Universal, Variable}
use Rattle.bc_bodies.specs.Lines.{point_text}
use Rattle.bc_judge.specs.declared.error.BorrowError.{BorrowError}
use Rattle.bc_judge.specs.declared.error.BorrowError.TheVariants.{Conflict, Lifetime}

-- the text of an error: the access of a point and the loan that it conflicts with, or the two universal regions by their numbers
abbrev pub error_text : BorrowError → List ℕ
error_text (Conflict at access loan chain) =
    codes "conflict " ++ point_text at ++ codes " access " ++ decimal access ++ codes " loan " ++ point_text loan
error_text (Lifetime longer shorter chain) = codes "lifetime " ++ decimal longer ++ codes " must outlive " ++ decimal shorter

-- the text of a region of a chain: the number of a universal one, or `'?` and the number of a variable
abbrev pub region_text : Region → List ℕ
region_text (Universal number) = decimal number
region_text (Variable number) = codes "'?" ++ decimal number

-- a space, and the text of a region
abbrev pub next_region : Region → List ℕ
next_region region = codes " " ++ region_text region

-- the text of a chain: `chain`, then each region, a space before each
abbrev pub chain_text : List Region → List ℕ
chain_text chain = codes "chain" ++ flat_map next_region chain
