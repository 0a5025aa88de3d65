-- What chains explain: the elements of conflicts and failures are in the values of their regions.
use Rattle.std.specs.Prelude.{ℕ, List}
use Rattle.std.specs.List.{Contains}
use Rattle.bc_syntax.specs.declared.syntax.Outlives.{Outlives}
use Rattle.bc_flow.specs.Flow.{holds}
use Rattle.bc_bodies.specs.Mir.{Mir}
use Rattle.bc_points.specs.Regions.{region_number}
use Rattle.bc_cons.specs.Facts.{RegionFacts}
use Rattle.bc_solve.specs.Values.{IsInValue}
use Rattle.bc_judge.specs.declared.conflicts.Conflict.{Conflict}
use Rattle.bc_judge.specs.Lifetimes.{end_of}

-- the point of a conflict is in the value of the loan's region
abbrev pub IsInside : Mir → RegionFacts → Conflict → Type 0
IsInside mir facts conflict = IsInValue (holds facts.starts) facts.pairs (region_number mir.universals conflict.region) conflict.point

-- the end of the shorter region is in the value of the longer
abbrev pub HasEnd : Mir → RegionFacts → Outlives → Type 0
HasEnd mir facts failure = IsInValue (holds facts.starts) facts.pairs failure.longer (end_of mir failure.shorter)

-- the point of each of these is in the value of its region
abbrev pub AreInside : Mir → RegionFacts → List Conflict → Type 0
AreInside mir facts conflicts = (c : Conflict) → Contains conflicts c → IsInside mir facts c

-- the end of the shorter region of each failure is in the value of the longer
abbrev pub HaveEnds : Mir → RegionFacts → List Outlives → Type 0
HaveEnds mir facts failures = (f : Outlives) → Contains failures f → HasEnd mir facts f
