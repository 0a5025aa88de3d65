-- The text of an outcome, with the texts of the points in its errors.
use Rattle.std.specs.Prelude.{ℕ, List, [], ◌∷◌, ◌++◌, map, codes, Option, Some, None}
use Rattle.std.specs.List.{flat_map}
use Rattle.bc_judge.specs.declared.error.BorrowError.{BorrowError}
use Rattle.bc_judge.specs.declared.error.BorrowError.TheVariants.{Conflict, Lifetime}
use Rattle.bc_names.specs.Names.{NameParts}
use Rattle.bc_prov.specs.declared.outcome.BodyErrors.{BodyErrors}
use Rattle.bc_prov.specs.declared.outcome.Outcome.{Outcome}
use Rattle.bc_prov.specs.declared.outcome.Outcome.TheVariants.{NoBody, Missing, BadTypes, Ill, Report}
use Rattle.bc_report.specs.Report.{body_line, error_lines, report}
use Rattle.bc_source.specs.Sources.{SourceParts, UnitParts, unit_under}
use Rattle.bc_source.specs.Points.{point_line}
use Rattle.bc_source.specs.Regions.{regions_line}

-- the lines of an error's points: for a conflict, of its point and of its loan's
unfoldable pub points_lines : UnitParts → BorrowError → List ℕ
points_lines source (Conflict at access loan chain) = point_line (codes "point") source at ++ point_line (codes "loan") source loan
points_lines source (Lifetime longer shorter chain) = []

-- the lines that follow an error and its chain: those of its points, then that of its universal regions
unfoldable pub source_lines : UnitParts → BorrowError → List ℕ
source_lines source error = points_lines source error ++ regions_line source.unit.header.signature.regions error

-- the lines of an error of a body, with its places if the unit is known
abbrev pub sourced_error : Option UnitParts → BorrowError → List ℕ
sourced_error None error = error_lines error
sourced_error (Some source) error = error_lines error ++ source_lines source error

-- the errors of a body, with its unit if it is known
pub record SourcedParts : Type 0 where
  pub body : BodyErrors
  pub unit : Option UnitParts

-- the unit that explains the errors of a body, if it has any
abbrev pub unit_for : List SourceParts → NameParts → List BorrowError → Option UnitParts
unit_for sources name [] = None
unit_for sources name (error ∷ errors) = unit_under sources name

-- the errors of a body, with the unit that explains them
abbrev pub sourced : List SourceParts → BodyErrors → SourcedParts
sourced sources body = record { body = body; unit = unit_for sources body.name body.errors }

-- the bodies of a report, each with its unit
abbrev pub sourced_bodies : List SourceParts → Outcome → List SourcedParts
sourced_bodies sources NoBody = []
sourced_bodies sources (Missing name) = []
sourced_bodies sources (BadTypes index) = []
sourced_bodies sources (Ill name place) = []
sourced_bodies sources (Report bodies) = map (sourced sources) bodies

-- the line of a body, then the lines of each of its errors
abbrev pub sourced_lines : SourcedParts → List ℕ
sourced_lines sourced = body_line sourced.body ++ flat_map (sourced_error sourced.unit) sourced.body.errors

-- the text of an outcome: that of a report has the places of errors, if the units are known
abbrev pub report_with : List SourcedParts → Outcome → List ℕ
report_with bodies NoBody = report NoBody
report_with bodies (Missing name) = report (Missing name)
report_with bodies (BadTypes index) = report (BadTypes index)
report_with bodies (Ill name place) = report (Ill name place)
report_with bodies (Report errors) = flat_map sourced_lines bodies

-- the text of an outcome, its errors explained by these texts
abbrev pub sourced_report : List SourceParts → Outcome → List ℕ
sourced_report sources outcome = report_with (sourced_bodies sources outcome) outcome
