-- What is found and left if the command stops.
use Rattle.std.proofs.Common.{◌≡◌, ℕ, List, Option, inr, refl, sym, subst}
use Rattle.std.specs.Prelude.{◌⊎◌, Result, Ok, Err, IfOk, OnOk, OnErr, IfErr}
use Rattle.std.specs.Io.KnownBytes.{Appends}
use Rattle.cli_line.specs.Parts.{RunParts}
use Rattle.cli_file.specs.declared.stop.Stop.{Stop}
use Rattle.cli_file.specs.declared.stop.Stop.TheVariants.{Audit, NoMemory, TooManyCalls}
use Rattle.cli_file.specs.Stops.{last_line, stop_status}
use Rattle.cli_file.proofs.Stopping.{stops, IfOk-map}
use Rattle.cli_run.specs.Ends.{IsEnd, Leaves}

pub stopped_end : {E : Type 0} (line : RunParts) (known o o' e before e' : Option (List ℕ)) (stop : Stop) (r : Result ℕ E) → Leaves line stop known o o' e before → IfOk r (λ n. n ≡ stop_status stop) → OnOk r (Appends before e' (last_line line.file stop)) → IfOk r (λ n. IsEnd line known n o o' e e')
stopped_end line known o o' e before e' stop r left status said = IfOk-map r (λ n h. inr h) (stops (λ s t. Leaves line s known o o' e t) line.file before e' stop r left status said)

pub at_each_error : {A E P : Type 0} (r : Result A E) → P → OnErr r P
at_each_error (Ok a) p = tt
at_each_error (Err e) p = p

-- a close that is refused is one of the ways to stop
pub audited_stop : {A : Type 0} (r : Result A Stop) → r ≡ Err Audit → IfErr r (λ stop. (stop ≡ NoMemory) ⊎ (stop ≡ TooManyCalls) ⊎ (stop ≡ Audit))
audited_stop {A} r is = subst (λ (q : Result A Stop). IfErr q (λ stop. (stop ≡ NoMemory) ⊎ (stop ≡ TooManyCalls) ⊎ (stop ≡ Audit))) (sym is) (inr (inr refl))
