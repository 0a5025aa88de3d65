-- The command line that words are.
use Rattle.std.specs.Prelude.{◌≡◌, ◌&&◌, ℕ, Bool, false, List, [], ◌∷◌, Option, Some, None, Result, Ok, Err, codes, option_map, option_and_then, if◌then◌else◌}
use Rattle.std.specs.Option.{option_map_or}
use Rattle.std.specs.Str.{bytes_eq}
use Rattle.clap.specs.Walk.{Row, Text, first_of}
use Rattle.clap.specs.Simple.{subcommand_of}
use Rattle.clap.specs.Kinds.{IsAmong, Kinds}
use Rattle.clap.specs.Faults.{fault_of}
use Rattle.clap.specs.declared.error.kind.ErrorKind.TheVariants.{DisplayHelp, DisplayVersion}
use Rattle.cli_line.specs.declared.solver.Solver.{Solver}
use Rattle.cli_line.specs.declared.fault.LineFault.{LineFault}
use Rattle.cli_line.specs.declared.fault.LineFault.TheVariants.{Help, Version, WrongUse, NoMemory}
use Rattle.cli_line.specs.declared.line.Line.{Line}
use Rattle.cli_line.specs.declared.line.Line.TheVariants.{Check, Run, Serve, Print}
use Rattle.cli_line.specs.Parts.{CheckParts, PrintParts, RunParts, ServeParts}
use Rattle.cli_line.specs.Values.{capacity_named, jobs_named, solver_named, sessions_named}
use Rattle.cli_line.specs.Commands.{nlldb}
use Rattle.cli_line.specs.Topics.{topic_of}

-- a flag is set
abbrev pub is_set : Text → List Row → Bool
is_set id rows = option_map_or (λ text. bytes_eq text (codes "true")) (first_of id rows) false

-- the solver that the arguments of a command name
abbrev pub solver_given : List Row → Option Solver
solver_given rows = option_and_then solver_named (first_of (codes "solver") rows)

-- the number of sessions that the arguments name
abbrev pub sessions_given : List Row → Option ℕ
sessions_given rows = option_and_then sessions_named (first_of (codes "sessions") rows)

-- the capacity that the arguments name
abbrev pub capacity_given : List Row → Option ℕ
capacity_given rows = option_and_then capacity_named (first_of (codes "capacity") rows)

-- the number of jobs that the arguments name, if they name one
abbrev pub jobs_given : List Row → Option (Option ℕ)
jobs_given rows = option_map_or (λ word. option_map Some (jobs_named word)) (first_of (codes "jobs") rows) (Some None)

-- the arguments have both `--json` and `--source`, as no line has
abbrev pub asks_for_both : List Row → Bool
asks_for_both rows = is_set (codes "json") rows && is_set (codes "source") rows

-- the line of `check` with these arguments
unfoldable pub check_given : List Row → Option CheckParts
check_given rows = option_and_then (λ file. option_and_then (λ jobs. option_and_then (λ solver. if asks_for_both rows then None else
    Some (record { file = file; json = is_set (codes "json") rows; source = is_set (codes "source") rows; positions = is_set (codes "positions") rows; jobs = jobs; solver = solver }))
    (solver_given rows)) (jobs_given rows)) (first_of (codes "FILE") rows)

-- the line of `run` with these arguments
unfoldable pub run_given : List Row → Option RunParts
run_given rows = option_and_then (λ file. option_and_then (λ sessions. option_map (λ solver.
    record { file = file; json = is_set (codes "json") rows; positions = is_set (codes "positions") rows; sessions = sessions; solver = solver })
    (solver_given rows)) (sessions_given rows)) (first_of (codes "FILE") rows)

-- the line of `serve` with these arguments
unfoldable pub serve_given : List Row → Option ServeParts
serve_given rows = option_and_then (λ sessions. option_and_then (λ capacity. option_map (λ solver.
    record { sessions = sessions; capacity = capacity; solver = solver })
    (solver_given rows)) (capacity_given rows)) (sessions_given rows)

-- the line of `print` with these arguments
unfoldable pub print_given : List Row → Option PrintParts
print_given rows = option_map (λ file. record { file = file; positions = is_set (codes "positions") rows }) (first_of (codes "FILE") rows)

-- the line of the command of this name with these arguments
abbrev pub line_given : Text × List Row → Option Line
line_given (name, rows) =
    if bytes_eq name (codes "check") then option_map Check (check_given rows)
    else if bytes_eq name (codes "run") then option_map Run (run_given rows)
    else if bytes_eq name (codes "serve") then option_map Serve (serve_given rows)
    else if bytes_eq name (codes "print") then option_map Print (print_given rows)
    else None

-- the line of the command that the parser entered, if it found no fault
abbrev pub line_entered : Kinds → Option (Text × List Row) → Option Line
line_entered [] entered = option_and_then line_given entered
line_entered (fault ∷ faults) entered = None

-- the faults that the parser finds in the words
unfoldable pub faults_of : List Text → Kinds
faults_of words = fault_of nlldb words

-- the command that the parser enters for the words, with its arguments
unfoldable pub command_of : List Text → Option (Text × List Row)
command_of words = subcommand_of nlldb words

-- the line that the words are, if they are one
unfoldable pub line_written : List Text → Option Line
line_written words = line_entered (faults_of words) (command_of words)

-- the result has these parts if there are any, and is wrong use otherwise, unless memory ran out
abbrev pub GivesParts : {X : Type 0} → Option X → Result X LineFault → Type 0
GivesParts parts (Ok given) = parts ≡ Some given
GivesParts parts (Err WrongUse) = parts ≡ None
GivesParts parts (Err (Help topic)) = ⊥
GivesParts parts (Err Version) = ⊥
GivesParts parts (Err NoMemory) = Unit {0}

-- The result is the line that the words are. It is wrong use if they are none and do not just ask for help or the version. It is help or
-- the version if the parser finds that they ask for that, and help is on their topic. Out of memory says nothing about them.
abbrev pub GivesLine : List Text → Result Line LineFault → Type 0
GivesLine words (Ok line) = line_written words ≡ Some line
GivesLine words (Err WrongUse) = (line_written words ≡ None) × ¬ (faults_of words ≡ DisplayHelp ∷ []) × ¬ (faults_of words ≡ DisplayVersion ∷ [])
GivesLine words (Err (Help topic)) = IsAmong DisplayHelp (faults_of words) × (topic ≡ topic_of words)
GivesLine words (Err Version) = IsAmong DisplayVersion (faults_of words)
GivesLine words (Err NoMemory) = Unit {0}
