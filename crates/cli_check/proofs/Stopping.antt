-- What is found and left if the command stops.
use Rattle.std.proofs.Common.{◌≡◌, ◌≤◌, ◌<◌, ◌+◌, ℕ, List, length, Option, Some, None, refl, ap, sym, subst, arith, inl, inr}
use Rattle.std.specs.Prelude.{◌⊎◌, Bool, Result, Ok, Err, IfOk, OnOk, IfErr, IsErrAnd, IsErrOf, IfSome, true}
use Rattle.std.specs.Io.KnownBytes.{Appends, Keeps}
use Rattle.bc_names.specs.Names.{NameParts}
use Rattle.bc_calls.specs.declared.call.Call.{Call}
use Rattle.bc_share.specs.declared.db.TheConstants.{MOST_ENTRIES}
use Rattle.cli_line.specs.Parts.{CheckParts}
use Rattle.cli_file.specs.Files.{most_bytes}
use Rattle.cli_file.specs.declared.stop.Stop.{Stop}
use Rattle.cli_file.specs.declared.stop.Stop.TheVariants.{WrongUse, CannotRead, CannotWrite, CannotTell, NoMemory, File, TooManyCalls, HistoryFull, Foreign, Audit}
use Rattle.cli_file.specs.Parts.{sections_of}
use Rattle.cli_file.specs.Changes.{MakeAll, IsToldFault}
use Rattle.cli_file.specs.Sections.{IsResult}
use Rattle.cli_file.specs.Stops.{is_of_calls, is_refused, last_line, stop_status}
use Rattle.cli_check.specs.Asked.{AreAsked}
use Rattle.cli_check.specs.Forms.{form_of}
use Rattle.bc_calls.specs.declared.call.Event.{Event}
use Rattle.cli_file.specs.Ends.{IsSilent, OfFile}
use Rattle.cli_file.proofs.Stopping.{stops, IfOk-map}
use Rattle.cli_check.specs.Run.{error_lines, AreLegal, AreReplied}
use Rattle.cli_check.specs.Performed.{Begins, OwesLast, Prints}
use Rattle.cli_check.specs.Ends.{HasBegun, HasTold, HasTooManyCalls, HasUntold, IsEnd, Leaves}
use Rattle.cli_check.proofs.Ending.{known_is}

-- the calls of a file without a fault were not all made
pub record Broken (line : CheckParts) (r : Result ℕ Stop) (file : List ℕ) (made : List Call) (names : List NameParts) (o o' e e' : Option (List ℕ)) : Type 0 where
  pub short : length file ≤ most_bytes
  pub good : MakeAll (sections_of file) made
  pub asked : AreAsked made names
  pub other : IfErr r (λ stop. is_of_calls stop ≡ true)
  pub many : IsErrOf r TooManyCalls → MOST_ENTRIES < length made + length names
  pub quiet : IsErrOf r TooManyCalls → IsSilent o o' e e'
  pub few : (r ≡ Err TooManyCalls) ⊎ (length made + length names ≤ MOST_ENTRIES)
  pub refused : IfErr r (λ stop. is_refused stop ≡ true → Begins AreLegal (form_of line (sections_of file) made) made names o o' e e')
  pub untold : IsErrOf r CannotTell → OwesLast AreLegal made
  pub silent : IsErrOf r CannotTell → Keeps o o'
  pub unwritten : IsErrOf r CannotWrite → Prints made error_lines e e'
  pub audited : IsErrOf r Audit → Begins AreReplied (form_of line (sections_of file) made) made names o o' e e' ⊎ (OwesLast AreReplied made × Keeps o o')

pub few_of : {P Q : Type 0} (r : Result ℕ Stop) (x : Stop) → (P → Q) → (r ≡ Err x) ⊎ P → (r ≡ Err x) ⊎ Q
few_of r x f either = elim either [
  | inl many ↦ inl many
  | inr few ↦ inr (f few)
]

-- unless there are too many calls, there are not too many
few_where : {P Q : Type 0} → (Q → ⊥) → Q ⊎ P → P
few_where other either = elim either [
  | inl many ↦ absurd (other many)
  | inr few ↦ few
]

begun : (Holds : List Event → Type 0) (line : CheckParts) (r : Result ℕ Stop) (known o o' e e' : Option (List ℕ)) (file : List ℕ) (made : List Call) (names : List NameParts) → IfSome known (λ bytes. file ≡ bytes) → Broken line r file made names o o' e e' → length made + length names ≤ MOST_ENTRIES → Begins Holds (form_of line (sections_of file) made) made names o o' e e' → OfFile known (λ f. HasBegun Holds line f o o' e e')
begun Holds line r known o o' e e' file made names whole h few begins =
    known_is known file (λ (f : List ℕ). (length f ≤ most_bytes) × HasBegun Holds line f o o' e e') whole (h.short, record { made = made; names = names; good = h.good; asked = h.asked; few = few; begins = begins })

untold : (Holds : List Event → Type 0) (line : CheckParts) (r : Result ℕ Stop) (known o o' e e' : Option (List ℕ)) (file : List ℕ) (made : List Call) (names : List NameParts) → IfSome known (λ bytes. file ≡ bytes) → Broken line r file made names o o' e e' → length made + length names ≤ MOST_ENTRIES → OwesLast Holds made → OfFile known (HasUntold Holds)
untold Holds line r known o o' e e' file made names whole h few owes =
    known_is known file (λ (f : List ℕ). (length f ≤ most_bytes) × HasUntold Holds f) whole (h.short, record { made = made; names = names; good = h.good; asked = h.asked; few = few; untold = owes })

pub broken : (line : CheckParts) (r : Result ℕ Stop) (known o o' e e' : Option (List ℕ)) (file : List ℕ) (made : List Call) (names : List NameParts) → IfSome known (λ bytes. file ≡ bytes) → Broken line r file made names o o' e e' → IfErr r (λ stop. Leaves line stop known o o' e e')
broken line (Ok n) known o o' e e' file made names whole h = tt
broken line (Err WrongUse) known o o' e e' file made names whole h = (let never = h.other in absurd cc)
broken line (Err CannotRead) known o o' e e' file made names whole h = (let never = h.other in absurd cc)
broken line (Err CannotWrite) known o o' e e' file made names whole h =
    known_is known file (λ (f : List ℕ). (length f ≤ most_bytes) × HasTold f e e') whole (h.short, record { made = made; names = names; good = h.good; asked = h.asked; few = few_where (λ never. absurd cc) h.few; prints = h.unwritten refl })
broken line (Err CannotTell) known o o' e e' file made names whole h =
    (untold AreLegal line _ known o o' e e' file made names whole h (few_where (λ never. absurd cc) h.few) (h.untold refl), h.silent refl)
broken line (Err NoMemory) known o o' e e' file made names whole h =
    inr (begun AreLegal line _ known o o' e e' file made names whole h (few_where (λ never. absurd cc) h.few) (h.refused refl))
broken line (Err (File fault)) known o o' e e' file made names whole h = (let never = h.other in absurd cc)
broken line (Err TooManyCalls) known o o' e e' file made names whole h =
    (known_is known file (λ (f : List ℕ). (length f ≤ most_bytes) × HasTooManyCalls f) whole (h.short, record { made = made; names = names; good = h.good; asked = h.asked; many = h.many refl }), h.quiet refl)
broken line (Err HistoryFull) known o o' e e' file made names whole h =
    begun AreLegal line _ known o o' e e' file made names whole h (few_where (λ never. absurd cc) h.few) (h.refused refl)
broken line (Err Foreign) known o o' e e' file made names whole h = (let never = h.other in absurd cc)
broken line (Err Audit) known o o' e e' file made names whole h = elim (h.audited refl) [
  | inl begins ↦ inl (begun AreReplied line _ known o o' e e' file made names whole h (few_where (λ never. absurd cc) h.few) begins)
  | inr owes ↦ inr (untold AreReplied line _ known o o' e e' file made names whole h (few_where (λ never. absurd cc) h.few) owes.0, owes.1)
]

kept : (known : Option (List ℕ)) → Keeps known known
kept None = tt
kept (Some bytes) = refl

unread_file : {T : Type 0} (Good : T → Type 0) (line : CheckParts) (stop : Stop) (known o e : Option (List ℕ)) (file : List ℕ) → IfSome known (λ bytes. file ≡ bytes)
    → length file ≤ most_bytes → IsResult Good (IsToldFault line.positions file) (Err stop) → Leaves line stop known o o e e
unread_file Good line WrongUse known o e file whole short bad = absurd bad
unread_file Good line CannotRead known o e file whole short bad = absurd bad
unread_file Good line CannotWrite known o e file whole short bad = absurd bad
unread_file Good line CannotTell known o e file whole short bad = absurd bad
unread_file Good line NoMemory known o e file whole short bad = inl (kept o, kept e)
unread_file Good line (File fault) known o e file whole short bad =
    (known_is known file (λ (f : List ℕ). (length f ≤ most_bytes) × IsToldFault line.positions f fault) whole (short, bad), (kept o, kept e))
unread_file Good line TooManyCalls known o e file whole short bad = absurd bad
unread_file Good line HistoryFull known o e file whole short bad = absurd bad
unread_file Good line Foreign known o e file whole short bad = absurd bad
unread_file Good line Audit known o e file whole short bad = absurd bad

-- the file has a fault, or reading it ran out of memory
pub unread : {T : Type 0} (Good : T → Type 0) (line : CheckParts) (positions : Bool) (stop : Stop) (r : Result ℕ Stop) (known o e : Option (List ℕ)) (file bytes : List ℕ)
    → IsErrAnd r (λ y. y ≡ stop) → IfSome known (λ all. file ≡ all) → length file ≤ most_bytes → bytes ≡ file → positions ≡ line.positions
    → IsResult Good (IsToldFault positions bytes) (Err stop) → IfErr r (λ y. Leaves line y known o o e e)
unread Good line positions stop (Ok n) known o e file bytes is whole short same same_positions bad = absurd is
unread Good line positions stop (Err y) known o e file bytes is whole short same same_positions bad =
    let of_file : IsResult Good (IsToldFault positions file) (Err stop) = subst (λ (f : List ℕ). IsResult Good (IsToldFault positions f) (Err stop)) same bad in
    let of_line : IsResult Good (IsToldFault line.positions file) (Err stop) = subst (λ (p : Bool). IsResult Good (IsToldFault p file) (Err stop)) same_positions of_file in
    subst (λ (x : Stop). Leaves line x known o o e e) (sym is) (unread_file Good line stop known o e file whole short of_line)

pub stopped_end : {E : Type 0} (line : CheckParts) (known o o' e before e' : Option (List ℕ)) (stop : Stop) (r : Result ℕ E) → Leaves line stop known o o' e before → IfOk r (λ n. n ≡ stop_status stop) → OnOk r (Appends before e' (last_line line.file stop)) → IfOk r (λ n. IsEnd line known n o o' e e')
stopped_end line known o o' e before e' stop r left status said = IfOk-map r (λ n h. inr h) (stops (λ s t. Leaves line s known o o' e t) line.file before e' stop r left status said)

-- below status 3 the writer has not failed
pub handed_end : {E : Type 0} (P : Type 0) (stop : Stop) (q : Result ℕ Stop) (r : Result ℕ E) → q ≡ Err stop → (q ≡ Err CannotWrite) ⊎ P → IfOk r (λ n. n ≡ stop_status stop) → IfOk r (λ n. n < 3 → P)
handed_end P stop q (Ok n) is either status = λ low. elim either [
  | inl failed ↦ (let same : stop ≡ CannotWrite = cc in let three : stop_status stop ≡ 3 = ap stop_status same in absurd (omega (arith, low, status, three)))
  | inr p ↦ p
]
handed_end P stop q (Err fault) is either status = tt
