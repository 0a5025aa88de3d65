-- Reports that are flushed.
use Rattle.std.proofs.Common.{◌≡◌, ℕ, List, Option, sym, subst, inl, inr}
use Rattle.std.specs.Prelude.{◌⊎◌, true, Result, Ok, Err, IfOk, IfErr}
use Rattle.std.specs.Io.KnownBytes.{Keeps}
use Rattle.bc_calls.specs.declared.call.Call.{Call}
use Rattle.bc_calls.specs.declared.call.Event.{Event}
use Rattle.bc_share.specs.Sessions.{SessionView}
use Rattle.cli_file.specs.declared.stop.Stop.{Stop}
use Rattle.cli_file.specs.declared.stop.Stop.TheVariants.{CannotWrite}
use Rattle.cli_file.specs.Stops.{is_refused}
use Rattle.cli_check.specs.Performed.{Performed, PerformedPart}
use Rattle.cli_check.proofs.Performing.{refused_map, performed_kept}

-- what the asks returned, or the failure of a writer
abbrev pub Handed : Result ℕ Stop → Result ℕ Stop → Type 0
Handed asked result = (result ≡ asked) ⊎ (result ≡ Err CannotWrite)

asked_kept : (list : List Call) (text : Event → List ℕ) (old new : SessionView) (u v w : Option (List ℕ)) (asked : Result ℕ Stop) → IfOk asked (λ n. Performed list text n old new u v) → Keeps v w → IfOk asked (λ n. Performed list text n old new u w)
asked_kept list text old new u v w (Ok n) h k = performed_kept list text n old new u v w h k
asked_kept list text old new u v w (Err stop) h k = tt

pub handed_performed : (list : List Call) (text : Event → List ℕ) (old new : SessionView) (u v w : Option (List ℕ)) (asked result : Result ℕ Stop) → Handed asked result → IfOk asked (λ n. Performed list text n old new u v) → Keeps v w → IfOk result (λ n. Performed list text n old new u w)
handed_performed list text old new u v w asked result either h k = elim either [
  | inl same ↦ subst (λ (r : Result ℕ Stop). IfOk r (λ n. Performed list text n old new u w)) (sym same) (asked_kept list text old new u v w asked h k)
  | inr failed ↦ subst (λ (r : Result ℕ Stop). IfOk r (λ n. Performed list text n old new u w)) (sym failed) tt
]

part_kept : (list : List Call) (text : Event → List ℕ) (old new : SessionView) (u v w : Option (List ℕ)) → PerformedPart list text old new u v → Keeps v w → PerformedPart list text old new u w
part_kept list text old new u v w h k = record { front = h.front; ahead = h.ahead; cut = h.cut; exit = h.exit; between = h.between; performed = performed_kept h.front text h.exit old h.between u v w h.performed k; last = h.last }

pub handed_part : (list : List Call) (text : Event → List ℕ) (old new : SessionView) (u v w : Option (List ℕ)) (asked result : Result ℕ Stop) → Handed asked result → IfErr asked (λ stop. is_refused stop ≡ true → PerformedPart list text old new u v) → Keeps v w → IfErr result (λ stop. is_refused stop ≡ true → PerformedPart list text old new u w)
handed_part list text old new u v w asked result either h k = elim either [
  | inl same ↦ subst (λ (r : Result ℕ Stop). IfErr r (λ stop. is_refused stop ≡ true → PerformedPart list text old new u w)) (sym same) (refused_map asked (λ (p : PerformedPart list text old new u v). part_kept list text old new u v w p k) h)
  | inr failed ↦ subst (λ (r : Result ℕ Stop). IfErr r (λ stop. is_refused stop ≡ true → PerformedPart list text old new u w)) (sym failed) (λ e. absurd cc)
]
