-- The text form of an outcome.
use Rattle.std.specs.Prelude.{ℕ, List, ◌++◌, length, decimal, codes, flat_map}
use Rattle.bc_syntax.specs.declared.syntax.Region.{Region}
use Rattle.bc_names.specs.Names.{name_text}
use Rattle.bc_prov.specs.declared.outcome.BodyErrors.{BodyErrors}
use Rattle.bc_judge.specs.declared.error.BorrowError.{BorrowError}
use Rattle.bc_prov.specs.declared.outcome.Outcome.{Outcome}
use Rattle.bc_prov.specs.declared.outcome.Outcome.TheVariants.{NoBody, Missing, BadTypes, Ill, Report}
use Rattle.bc_mir.specs.Lines.{place_text}
use Rattle.bc_judge.specs.Errors.{chain_of}
use Rattle.bc_judge.specs.Lines.{error_text, chain_text}
use Rattle.bc_report.specs.Text.{line}

-- the line of an error, without its chain
unfoldable pub error_line : BorrowError → List ℕ
error_line error = line (codes "  " ++ error_text error)

-- the line of a chain
unfoldable pub chain_line : List Region → List ℕ
chain_line chain = line (codes "    " ++ chain_text chain)

-- the lines of an error: its own, then that of the chain that explains it
unfoldable pub error_lines : BorrowError → List ℕ
error_lines error = error_line error ++ chain_line (chain_of error)

-- the line of a body: its name and the number of its errors
abbrev pub body_line : BodyErrors → List ℕ
body_line body = line (name_text body.name ++ codes " " ++ decimal (length body.errors))

-- the line of a body, then the lines of each of its errors
abbrev pub body_lines : BodyErrors → List ℕ
body_lines body = body_line body ++ flat_map error_lines body.errors

-- the text of an outcome, as `check` prints it after `ask NAME`
abbrev pub report : Outcome → List ℕ
report NoBody = line (codes "no body")
report (Missing name) = line (codes "missing " ++ name_text name)
report (BadTypes index) = line (codes "bad declaration " ++ decimal index)
report (Ill name place) = line (codes "ill " ++ name_text name ++ codes " at " ++ place_text place)
report (Report bodies) = flat_map body_lines bodies
