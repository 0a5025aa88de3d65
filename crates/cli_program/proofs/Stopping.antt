-- How a command ends that stops before it begins.
use Rattle.std.proofs.Common.{◌≡◌, ℕ, List, [], Option, Some, None, Result, Ok, Err, inl, inr, refl, subst, sym}
use Rattle.std.specs.Prelude.{IfOk, OnOk}
use Rattle.std.specs.Io.KnownBytes.{Appends, Keeps}
use Rattle.cli_line.specs.Parts.{CheckParts, RunParts, PrintParts}
use Rattle.cli_line.specs.declared.line.Line.{Line}
use Rattle.cli_line.specs.declared.line.Line.TheVariants.{Check, Run, Serve, Print}
use Rattle.cli_file.specs.declared.stop.Stop.TheVariants.{CannotRead, NoMemory}
use Rattle.cli_file.specs.Stops.{last_line}
use Rattle.cli_file.specs.Ends.{IsSilent}
use Rattle.cli_check.specs.Ends.{IsEnd as IsEndOfCheck}
use Rattle.cli_run.specs.Ends.{IsEnd as IsEndOfRun}
use Rattle.cli_print.specs.Ends.{IsEnd as IsEndOfPrint}
use Rattle.cli_serve.specs.declared.stop.ServeStop.TheVariants as stops
use Rattle.cli_program.specs.Ends.{IsEndOfLine}

stays : (a : Option (List ℕ)) → Keeps a a
stays None = tt
stays (Some x) = refl

silent : (o e : Option (List ℕ)) → IsSilent o o e e
silent o e = (stays o, stays e)

-- `check` whose file cannot be opened
pub check_unopened : {E : Type 0} (line : CheckParts) (known o e e' : Option (List ℕ)) (r : Result ℕ E) → IfOk r (λ status. status ≡ 3)
    → OnOk r (Appends e e' (last_line line.file CannotRead)) → IfOk r (λ status. IsEndOfCheck line known status o o e e')
check_unopened line known o e e' (Ok status) is said = inr (record { stop = CannotRead; before = e; left = silent o e; said = said; status = is })
check_unopened line known o e e' (Err fault) is said = tt

-- `run` whose file cannot be opened
pub run_unopened : {E : Type 0} (line : RunParts) (known o e e' : Option (List ℕ)) (r : Result ℕ E) → IfOk r (λ status. status ≡ 3)
    → OnOk r (Appends e e' (last_line line.file CannotRead)) → IfOk r (λ status. IsEndOfRun line known status o o e e')
run_unopened line known o e e' (Ok status) is said = inr (record { stop = CannotRead; before = e; left = silent o e; said = said; status = is })
run_unopened line known o e e' (Err fault) is said = tt

-- `print` whose file cannot be opened
pub print_unopened : {E : Type 0} (line : PrintParts) (known o e e' : Option (List ℕ)) (r : Result ℕ E) → IfOk r (λ status. status ≡ 3)
    → OnOk r (Appends e e' (last_line line.file CannotRead)) → IfOk r (λ status. IsEndOfPrint line known status o o e e')
print_unopened line known o e e' (Ok status) is said = inr (record { stop = CannotRead; before = e; left = (stays o, stays e); said = said; status = is })
print_unopened line known o e e' (Err fault) is said = tt

-- a line whose command was out of memory, and did nothing
pub without_memory : {E : Type 0} (files : List ℕ → Option (List ℕ)) (standard : Option (List ℕ)) (line : Line) (o o' e e1 e' : Option (List ℕ)) (r : Result ℕ E)
    → o' ≡ o → e1 ≡ e → IfOk r (λ status. status ≡ 3) → OnOk r (Appends e1 e' (last_line [] NoMemory)) → IfOk r (λ status. IsEndOfLine files standard line status o o' e e')
without_memory files standard line o o' e e1 e' r same_out same_err is said =
    subst (λ (out : Option (List ℕ)). IfOk r (λ status. IsEndOfLine files standard line status o out e e')) (sym same_out)
    (ended line r is (subst (λ (err : Option (List ℕ)). OnOk r (Appends err e' (last_line [] NoMemory))) same_err said))
  where
    ended : {E : Type 0} (line : Line) (r : Result ℕ E) → IfOk r (λ status. status ≡ 3) → OnOk r (Appends e e' (last_line [] NoMemory))
        → IfOk r (λ status. IsEndOfLine files standard line status o o e e')
    ended (Check line) (Ok status) is said = inr (record { stop = NoMemory; before = e; left = inl (silent o e); said = said; status = is })
    ended (Run line) (Ok status) is said = inr (record { stop = NoMemory; before = e; left = inl (silent o e); said = said; status = is })
    ended (Serve line) (Ok status) is said = inr (stops.NoMemory, is, said)
    ended (Print line) (Ok status) is said = inr (record { stop = NoMemory; before = e; left = (stays o, stays e); said = said; status = is })
    ended line (Err fault) is said = tt
