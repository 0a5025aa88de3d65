-- The lines that some words are.
use Rattle.std.proofs.Common.{◌≡◌, [], ◌∷◌, Some, None, true, false, refl, codes}
use Rattle.clap.proofs.OnLiterals.{clap_on_literals}
use Rattle.clap.specs.declared.error.kind.ErrorKind.TheVariants.{DisplayHelp, DisplayVersion}
use Rattle.cli_line.specs.declared.solver.Solver.TheVariants.{Plain, Components}
use Rattle.cli_line.specs.declared.line.Line.TheVariants.{Check, Run, Serve, Print}
use Rattle.cli_line.specs.Commands.{check_app, nlldb, program, print_app, run_app, serve_app}
use Rattle.cli_line.specs.declared.topic.Topic.TheVariants as topics
use Rattle.cli_line.specs.Topics.{topic_of}
use Rattle.cli_line.specs.Written.{check_given, command_of, faults_of, line_written, print_given, run_given, serve_given}

-- what has to be unfolded to compute them
unfoldable on_words : Unit {0}
unfolding clap_on_literals nlldb program check_app run_app serve_app print_app check_given run_given serve_given print_given command_of faults_of line_written
on_words = tt

check_by_default : line_written (codes "check" ∷ codes "a.nll" ∷ []) ≡ Some (Check (record { file = codes "a.nll"; json = false; source = false; positions = false; jobs = None; solver = Components }))
unfolding on_words
check_by_default = refl

check_with_options : line_written (codes "check" ∷ codes "--json" ∷ codes "--solver=plain" ∷ codes "a.nll" ∷ []) ≡ Some (Check (record { file = codes "a.nll"; json = true; source = false; positions = false; jobs = None; solver = Plain }))
unfolding on_words
check_with_options = refl

check_by_four : line_written (codes "check" ∷ codes "a.nll" ∷ codes "--jobs" ∷ codes "4" ∷ []) ≡ Some (Check (record { file = codes "a.nll"; json = false; source = false; positions = false; jobs = Some 4; solver = Components }))
unfolding on_words
check_by_four = refl

no_jobs : line_written (codes "check" ∷ codes "--jobs=0" ∷ codes "a.nll" ∷ []) ≡ None
unfolding on_words
no_jobs = refl

more_jobs_than_a_byte : line_written (codes "check" ∷ codes "--jobs" ∷ codes "256" ∷ codes "a.nll" ∷ []) ≡ None
unfolding on_words
more_jobs_than_a_byte = refl

jobs_of_a_run : line_written (codes "run" ∷ codes "--jobs=2" ∷ codes "a.nll" ∷ []) ≡ None
unfolding on_words
jobs_of_a_run = refl

run_by_default : line_written (codes "run" ∷ codes "a.nll" ∷ []) ≡ Some (Run (record { file = codes "a.nll"; json = false; positions = false; sessions = 1; solver = Components }))
unfolding on_words
run_by_default = refl

run_of_sixteen : line_written (codes "run" ∷ codes "a.nll" ∷ codes "--sessions" ∷ codes "16" ∷ []) ≡ Some (Run (record { file = codes "a.nll"; json = false; positions = false; sessions = 16; solver = Components }))
unfolding on_words
run_of_sixteen = refl

seventeen : line_written (codes "run" ∷ codes "a.nll" ∷ codes "--sessions" ∷ codes "17" ∷ []) ≡ None
unfolding on_words
seventeen = refl

zero_sessions : line_written (codes "run" ∷ codes "a.nll" ∷ codes "--sessions" ∷ codes "0" ∷ []) ≡ None
unfolding on_words
zero_sessions = refl

serve_by_default : line_written (codes "serve" ∷ []) ≡ Some (Serve (record { sessions = 1; capacity = 1000000; solver = Components }))
unfolding on_words
serve_by_default = refl

serve_with_options : line_written (codes "serve" ∷ codes "--sessions=16" ∷ codes "--capacity" ∷ codes "70" ∷ codes "--solver=plain" ∷ []) ≡ Some (Serve (record { sessions = 16; capacity = 70; solver = Plain }))
unfolding on_words
serve_with_options = refl

capacity_over_a_million : line_written (codes "serve" ∷ codes "--capacity" ∷ codes "1000001" ∷ []) ≡ None
unfolding on_words
capacity_over_a_million = refl

zero_capacity : line_written (codes "serve" ∷ codes "--capacity" ∷ codes "0" ∷ []) ≡ None
unfolding on_words
zero_capacity = refl

file_of_a_conversation : line_written (codes "serve" ∷ codes "a.nll" ∷ []) ≡ None
unfolding on_words
file_of_a_conversation = refl

print_a_file : line_written (codes "print" ∷ codes "a.nll" ∷ []) ≡ Some (Print (record { file = codes "a.nll"; positions = false }))
unfolding on_words
print_a_file = refl

print_has_no_solver : line_written (codes "print" ∷ codes "a.nll" ∷ codes "--solver=plain" ∷ []) ≡ None
unfolding on_words
print_has_no_solver = refl

no_words : line_written [] ≡ None
unfolding on_words
no_words = refl

no_file : line_written (codes "check" ∷ []) ≡ None
unfolding on_words
no_file = refl

json_and_positions_of_a_run : line_written (codes "run" ∷ codes "--json" ∷ codes "a.nll" ∷ codes "--positions" ∷ []) ≡ Some (Run (record { file = codes "a.nll"; json = true; positions = true; sessions = 1; solver = Components }))
unfolding on_words
json_and_positions_of_a_run = refl

source_of_a_run : line_written (codes "run" ∷ codes "--source" ∷ codes "a.nll" ∷ []) ≡ None
unfolding on_words
source_of_a_run = refl

source_of_a_check : line_written (codes "check" ∷ codes "a.nll" ∷ codes "--source" ∷ []) ≡ Some (Check (record { file = codes "a.nll"; json = false; source = true; positions = false; jobs = None; solver = Components }))
unfolding on_words
source_of_a_check = refl

json_beside_source : line_written (codes "check" ∷ codes "--json" ∷ codes "a.nll" ∷ codes "--source" ∷ []) ≡ None
unfolding on_words
json_beside_source = refl

positions_of_a_print : line_written (codes "print" ∷ codes "--positions" ∷ codes "a.nll" ∷ []) ≡ Some (Print (record { file = codes "a.nll"; positions = true }))
unfolding on_words
positions_of_a_print = refl

positions_of_a_conversation : line_written (codes "serve" ∷ codes "--positions" ∷ []) ≡ None
unfolding on_words
positions_of_a_conversation = refl

help_behind_a_command : faults_of (codes "check" ∷ codes "--help" ∷ []) ≡ DisplayHelp ∷ []
unfolding on_words
help_behind_a_command = refl

help_on_a_command : topic_of (codes "check" ∷ codes "--help" ∷ []) ≡ topics.Check
help_on_a_command = refl

help_on_the_program : topic_of (codes "--help" ∷ codes "check" ∷ []) ≡ topics.Program
help_on_the_program = refl

version_alone : faults_of (codes "--version" ∷ []) ≡ DisplayVersion ∷ []
unfolding on_words
version_alone = refl

version_by_a_letter : faults_of (codes "-V" ∷ []) ≡ DisplayVersion ∷ []
unfolding on_words
version_by_a_letter = refl

version_of_a_command : line_written (codes "check" ∷ codes "--version" ∷ []) ≡ None
unfolding on_words
version_of_a_command = refl
