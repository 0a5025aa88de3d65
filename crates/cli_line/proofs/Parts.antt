-- The parts of a line, from the arguments of its command.
use Rattle.std.proofs.Common.{◌≡◌, ◌∙◌, ℕ, Bool, List, Option, Some, None, ap, ap₂, refl, sym, codes, true, false}
use Rattle.clap.specs.Walk.{Row, Text, first_of}
use Rattle.cli_line.specs.declared.solver.Solver.{Solver}
use Rattle.cli_line.specs.Parts.{CheckParts, PrintParts, RunParts, ServeParts}
use Rattle.cli_line.specs.Written.{asks_for_both, capacity_given, check_given, is_set, jobs_given, print_given, run_given, serve_given, sessions_given, solver_given}

pub check_without_file : (rows : List Row) → None ≡ first_of (codes "FILE") rows → check_given rows ≡ None
unfolding check_given
check_without_file rows f = rw (← f) refl

pub check_without_jobs : (rows : List Row) (file : Text) → Some file ≡ first_of (codes "FILE") rows → None ≡ jobs_given rows → check_given rows ≡ None
unfolding check_given
check_without_jobs rows file f n = rw (← f, ← n) refl

pub check_without_solver : (rows : List Row) (file : Text) (jobs : Option ℕ) → Some file ≡ first_of (codes "FILE") rows → Some jobs ≡ jobs_given rows
    → None ≡ solver_given rows → check_given rows ≡ None
unfolding check_given
check_without_solver rows file jobs f n s = rw (← f, ← n, ← s) refl

pub check_of_both : (rows : List Row) (file : Text) (jobs : Option ℕ) (solver : Solver) → Some file ≡ first_of (codes "FILE") rows → Some jobs ≡ jobs_given rows
    → Some solver ≡ solver_given rows → true ≡ asks_for_both rows → check_given rows ≡ None
unfolding check_given
check_of_both rows file jobs solver f n s both = rw (← f, ← n, ← s, ← both) refl

pub check_is : (rows : List Row) (text file : Text) (json source positions : Bool) (jobs : Option ℕ) (solver : Solver) (parts : CheckParts)
    → Some text ≡ first_of (codes "FILE") rows → Some jobs ≡ jobs_given rows → Some solver ≡ solver_given rows → false ≡ asks_for_both rows → file ≡ text
    → json ≡ is_set (codes "json") rows → source ≡ is_set (codes "source") rows → positions ≡ is_set (codes "positions") rows
    → parts ≡ record { file = file; json = json; source = source; positions = positions; jobs = jobs; solver = solver } → check_given rows ≡ Some parts
unfolding check_given
check_is rows text file json source positions jobs solver parts f n s one same by_json by_source by_positions made =
    let computed : check_given rows ≡ Some (record { file = text; json = is_set (codes "json") rows; source = is_set (codes "source") rows; positions = is_set (codes "positions") rows; jobs = jobs; solver = solver }) =
    rw (← f, ← n, ← s, ← one) refl in
    let first : ◌≡◌ {A = CheckParts} (record { file = file; json = json; source = source; positions = positions; jobs = jobs; solver = solver }) (record { file = text; json = is_set (codes "json") rows; source = source; positions = positions; jobs = jobs; solver = solver }) =
    ap₂ (λ f j. record { file = f; json = j; source = source; positions = positions; jobs = jobs; solver = solver }) same by_json in
    let second : ◌≡◌ {A = CheckParts} (record { file = text; json = is_set (codes "json") rows; source = source; positions = positions; jobs = jobs; solver = solver }) (record { file = text; json = is_set (codes "json") rows; source = is_set (codes "source") rows; positions = is_set (codes "positions") rows; jobs = jobs; solver = solver }) =
    ap₂ (λ c p. record { file = text; json = is_set (codes "json") rows; source = c; positions = p; jobs = jobs; solver = solver }) by_source by_positions in
    computed ∙ ap Some (sym (made ∙ (first ∙ second)))

pub run_without_file : (rows : List Row) → None ≡ first_of (codes "FILE") rows → run_given rows ≡ None
unfolding run_given
run_without_file rows f = rw (← f) refl

pub run_without_sessions : (rows : List Row) (file : Text) → Some file ≡ first_of (codes "FILE") rows → None ≡ sessions_given rows → run_given rows ≡ None
unfolding run_given
run_without_sessions rows file f n = rw (← f, ← n) refl

pub run_without_solver : (rows : List Row) (file : Text) (sessions : ℕ) → Some file ≡ first_of (codes "FILE") rows → Some sessions ≡ sessions_given rows
    → None ≡ solver_given rows → run_given rows ≡ None
unfolding run_given
run_without_solver rows file sessions f n s = rw (← f, ← n, ← s) refl

pub run_is : (rows : List Row) (text file : Text) (json positions : Bool) (sessions : ℕ) (solver : Solver) (parts : RunParts)
    → Some text ≡ first_of (codes "FILE") rows → Some sessions ≡ sessions_given rows → Some solver ≡ solver_given rows → file ≡ text
    → json ≡ is_set (codes "json") rows → positions ≡ is_set (codes "positions") rows
    → parts ≡ record { file = file; json = json; positions = positions; sessions = sessions; solver = solver } → run_given rows ≡ Some parts
unfolding run_given
run_is rows text file json positions sessions solver parts f n s same by_json by_positions made =
    let computed : run_given rows ≡ Some (record { file = text; json = is_set (codes "json") rows; positions = is_set (codes "positions") rows; sessions = sessions; solver = solver }) =
    rw (← f, ← n, ← s) refl in
    let first : ◌≡◌ {A = RunParts} (record { file = file; json = json; positions = positions; sessions = sessions; solver = solver }) (record { file = text; json = is_set (codes "json") rows; positions = positions; sessions = sessions; solver = solver }) =
    ap₂ (λ f j. record { file = f; json = j; positions = positions; sessions = sessions; solver = solver }) same by_json in
    let second : ◌≡◌ {A = RunParts} (record { file = text; json = is_set (codes "json") rows; positions = positions; sessions = sessions; solver = solver }) (record { file = text; json = is_set (codes "json") rows; positions = is_set (codes "positions") rows; sessions = sessions; solver = solver }) =
    ap (λ p. record { file = text; json = is_set (codes "json") rows; positions = p; sessions = sessions; solver = solver }) by_positions in
    computed ∙ ap Some (sym (made ∙ (first ∙ second)))

pub serve_without_sessions : (rows : List Row) → None ≡ sessions_given rows → serve_given rows ≡ None
unfolding serve_given
serve_without_sessions rows n = rw (← n) refl

pub serve_without_capacity : (rows : List Row) (sessions : ℕ) → Some sessions ≡ sessions_given rows → None ≡ capacity_given rows → serve_given rows ≡ None
unfolding serve_given
serve_without_capacity rows sessions n k = rw (← n, ← k) refl

pub serve_without_solver : (rows : List Row) (sessions capacity : ℕ) → Some sessions ≡ sessions_given rows → Some capacity ≡ capacity_given rows
    → None ≡ solver_given rows → serve_given rows ≡ None
unfolding serve_given
serve_without_solver rows sessions capacity n k s = rw (← n, ← k, ← s) refl

pub serve_is : (rows : List Row) (sessions capacity : ℕ) (solver : Solver) (parts : ServeParts) → Some sessions ≡ sessions_given rows
    → Some capacity ≡ capacity_given rows → Some solver ≡ solver_given rows
    → parts ≡ record { sessions = sessions; capacity = capacity; solver = solver } → serve_given rows ≡ Some parts
unfolding serve_given
serve_is rows sessions capacity solver parts n k s made =
    let computed : serve_given rows ≡ Some (record { sessions = sessions; capacity = capacity; solver = solver }) = rw (← n, ← k, ← s) refl in
    computed ∙ ap Some (sym made)

pub print_without_file : (rows : List Row) → None ≡ first_of (codes "FILE") rows → print_given rows ≡ None
unfolding print_given
print_without_file rows f = rw (← f) refl

pub print_is : (rows : List Row) (text file : Text) (positions : Bool) (parts : PrintParts) → Some text ≡ first_of (codes "FILE") rows → file ≡ text
    → positions ≡ is_set (codes "positions") rows → parts ≡ record { file = file; positions = positions } → print_given rows ≡ Some parts
unfolding print_given
print_is rows text file positions parts f same by_positions made =
    let computed : print_given rows ≡ Some (record { file = text; positions = is_set (codes "positions") rows }) = rw (← f) refl in
    let equal : ◌≡◌ {A = PrintParts} (record { file = file; positions = positions }) (record { file = text; positions = is_set (codes "positions") rows }) =
    ap₂ (λ f p. record { file = f; positions = p }) same by_positions in
    computed ∙ ap Some (sym (made ∙ equal))
