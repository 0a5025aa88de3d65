-- What is known about the file of a name is known to the command that opened it.
use Rattle.std.proofs.Common.{◌≡◌, ℕ, List, Option, Some, None, Result, Ok, Err, inl, inr, refl, subst}
use Rattle.std.specs.Prelude.{IfOk, IfSome}
use Rattle.cli_line.specs.Parts.{PrintParts}
use Rattle.cli_file.specs.declared.stop.Stop.{Stop}
use Rattle.cli_file.specs.declared.stop.Stop.TheVariants.{WrongUse, CannotRead, CannotWrite, CannotTell, NoMemory, File, TooManyCalls, HistoryFull, Foreign, Audit}
use Rattle.cli_print.specs.Ends.{Leaves, IsEnd}

unknown : (line : PrintParts) (stop : Stop) (given out out' : Option (List ℕ)) → Leaves line stop given out out' → Leaves line stop None out out'
unknown line WrongUse given out out' left = left
unknown line CannotRead given out out' left = left
unknown line CannotWrite given out out' left = tt
unknown line CannotTell given out out' left = left
unknown line NoMemory given out out' left = left
unknown line (File fault) given out out' left = (tt, left.1)
unknown line TooManyCalls given out out' left = left
unknown line HistoryFull given out out' left = left
unknown line Foreign given out out' left = left
unknown line Audit given out out' left = left

pub print_opened : {E : Type 0} (line : PrintParts) (known given o o' e e' : Option (List ℕ)) (r : Result ℕ E) → IfSome known (λ bytes. given ≡ Some bytes)
    → IfOk r (λ status. IsEnd line given status o o' e e') → IfOk r (λ status. IsEnd line known status o o' e e')
print_opened line (Some bytes) given o o' e e' r same ended = subst (λ (known : Option (List ℕ)). IfOk r (λ status. IsEnd line known status o o' e e')) same ended
print_opened line None given o o' e e' (Ok status) same (inl done) = inl (done.0, tt, done.2)
print_opened line None given o o' e e' (Ok status) same (inr stopped) =
    inr (record { stop = stopped.stop; before = stopped.before; left = (unknown line stopped.stop given o o' stopped.left.0, stopped.left.1); said = stopped.said; status = stopped.status })
print_opened line None given o o' e e' (Err fault) same ended = tt

-- if the bytes of an input are known, it has them
pub known_itself : (given : Option (List ℕ)) → IfSome given (λ bytes. given ≡ Some bytes)
known_itself None = tt
known_itself (Some bytes) = refl
