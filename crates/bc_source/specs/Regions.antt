-- The names of the universal regions that an error mentions.
use Rattle.std.specs.Prelude.{ℕ, zero, suc, ◌+◌, ◌==◌, ◌||◌, Bool, false, List, [], ◌++◌, length, get_or, decimal, codes, if◌then◌else◌}
use Rattle.std.specs.List.{list_any}
use Rattle.bc_syntax.specs.declared.syntax.Region.{Region}
use Rattle.bc_syntax.specs.declared.syntax.Region.TheVariants.{Universal, Variable}
use Rattle.bc_syntax.specs.declared.syntax.RegionName.{RegionName}
use Rattle.bc_syntax.specs.Universals.{universal_names}
use Rattle.bc_judge.specs.declared.error.BorrowError.{BorrowError}
use Rattle.bc_judge.specs.declared.error.BorrowError.TheVariants.{Conflict, Lifetime}
use Rattle.bc_report.specs.Text.{line as ended}

-- the region is the universal one of this number
abbrev pub is_universal : ℕ → Region → Bool
is_universal number (Universal other) = other == number
is_universal number (Variable other) = false

-- an error, or its chain, mentions the universal region of this number
abbrev pub tells_of : BorrowError → ℕ → Bool
tells_of (Conflict at access loan chain) number = list_any (is_universal number) chain
tells_of (Lifetime longer shorter chain) number = longer == number || shorter == number || list_any (is_universal number) chain

-- the error mentions one of the first universal regions, below this number
abbrev pub tells_of_some : BorrowError → ℕ → Bool
tells_of_some error zero = false
tells_of_some error (suc number) = tells_of_some error number || tells_of error number

-- a region's number and name, if the error mentions it
abbrev pub named : BorrowError → List (List ℕ) → ℕ → List ℕ
named error names number = if tells_of error number then codes " " ++ decimal number ++ codes " '" ++ get_or names number [] else []

-- the numbers and names of the regions below this number that the error mentions, in order
abbrev pub all_named : BorrowError → List (List ℕ) → ℕ → List ℕ
all_named error names zero = []
all_named error names (suc number) = all_named error names number ++ named error names number

-- the numbers and names of all universal regions that the error mentions, with the names that the unit declares
unfoldable pub regions_text : List RegionName → BorrowError → List ℕ
regions_text regions error = all_named error (universal_names regions) (length regions + 1)

-- the line of the universal regions that the error mentions, or nothing if it mentions none
unfoldable pub regions_line : List RegionName → BorrowError → List ℕ
regions_line regions error = if tells_of_some error (length regions + 1) then ended (codes "    regions" ++ regions_text regions error) else []
