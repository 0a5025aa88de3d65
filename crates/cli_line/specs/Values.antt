-- The values of options.
use Rattle.std.specs.Prelude.{◌&&◌, ℕ, Bool, List, Option, Some, None, codes, nat_le, option_and_then, if◌then◌else◌}
use Rattle.std.specs.Str.{bytes_eq}
use Rattle.std.specs.Str.Parse.{digits_value, without_leading_plus}
use Rattle.clap.specs.Walk.{byte_or_zero}
use Rattle.clap.specs.ValueTests.{is_numeral}
use Rattle.cli_line.specs.declared.solver.Solver.{Solver}
use Rattle.cli_line.specs.declared.solver.Solver.TheVariants.{Plain, Components}

-- the solver of this name
abbrev pub solver_named : List ℕ → Option Solver
solver_named word =
    if bytes_eq word (codes "plain") then Some Plain
    else if bytes_eq word (codes "components") then Some Components
    else None

-- there may be this number of sessions
abbrev pub is_session_count : ℕ → Bool
is_session_count count = nat_le 1 count && nat_le count 16

-- the number of sessions that a word names: in decimal digits, with or without a `+` before them
abbrev pub sessions_named : List ℕ → Option ℕ
sessions_named word =
    let count = byte_or_zero word in
    if is_session_count count then Some count else None

-- this number of threads may share the work, among the numbers of one byte
abbrev pub is_job_count : ℕ → Bool
is_job_count count = nat_le 1 count

-- the number of threads that a word names, written as a number of sessions is
abbrev pub jobs_named : List ℕ → Option ℕ
jobs_named word =
    let count = byte_or_zero word in
    if is_job_count count then Some count else None

-- the number that a word names in decimal digits, with or without a `+` before them
abbrev pub number_written : List ℕ → Option ℕ
number_written word =
    let digits = without_leading_plus word in
    if is_numeral digits then Some (digits_value 10 digits) else None

-- a history may have this number of entries
abbrev pub is_capacity : ℕ → Bool
is_capacity count = nat_le 1 count && nat_le count 1000000

-- the capacity that a word names
abbrev pub capacity_named : List ℕ → Option ℕ
capacity_named word = option_and_then (λ count. if is_capacity count then Some count else None) (number_written word)
