-- A command that stops.
use Rattle.std.proofs.Common.{◌≡◌, ℕ, List, Option, ap, ◌∙◌}
use Rattle.std.specs.Prelude.{Result, Ok, Err, IfOk, OnOk, IsErrAnd}
use Rattle.std.specs.Io.KnownBytes.{Appends}
use Rattle.cli_file.specs.declared.stop.Stop.{Stop}
use Rattle.cli_file.specs.Stops.{last_line, stop_status}
use Rattle.cli_file.specs.Ends.{StopsWith}

pub IfOk-map : {T E : Type 0} {P Q : T → Type 0} (r : Result T E) → ((x : T) → P x → Q x) → IfOk r P → IfOk r Q
IfOk-map (Ok x) f p = f x p
IfOk-map (Err e) f p = tt

-- the last line is written
pub stops : {E : Type 0} (Left : Stop → Option (List ℕ) → Type 0) (name : List ℕ) (before err : Option (List ℕ)) (stop : Stop) (r : Result ℕ E) → Left stop before → IfOk r (λ n. n ≡ stop_status stop) → OnOk r (Appends before err (last_line name stop)) → IfOk r (λ n. StopsWith Left name n err)
stops Left name before err stop (Ok n) left status said = record { stop = stop; before = before; left = left; said = said; status = status }
stops Left name before err stop (Err fault) left status said = tt

-- a result that passes this stop on is that error
pub is_stop : {A : Type 0} (r : Result A Stop) (x n : Stop) → IsErrAnd r (λ y. y ≡ x) → x ≡ n → r ≡ Err n
is_stop (Ok a) x n h e = absurd h
is_stop (Err y) x n h e = ap Err (h ∙ e)
