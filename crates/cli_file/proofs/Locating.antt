-- Faults of a file, with their positions.
use Rattle.std.proofs.Common.{ℕ, Bool, List, refl}
use Rattle.std.specs.Prelude.{Err}
use Rattle.cli_file.specs.declared.heading.Heading.{Heading}
use Rattle.cli_file.specs.declared.stop.Stop.{Stop}
use Rattle.cli_file.specs.declared.stop.Stop.TheVariants.{WrongUse, CannotRead, CannotWrite, CannotTell, NoMemory, File, TooManyCalls, HistoryFull, Foreign, Audit}
use Rattle.cli_file.specs.Parts.{Part}
use Rattle.cli_file.specs.Located.{IsLocated, located_stop}
use Rattle.cli_file.specs.Sections.{IsFirstFault, IsResult}

-- the first fault of some sections is still the first with its position
pub located_answers : {T Given : Type 0} (Good : T → Type 0) (Gives : Part → Given → Type 0) (Takes : Heading → List ℕ → Type 0) (sections : List Part) (positions : Bool) (file : List ℕ) (stop : Stop)
    → IsResult Good (IsFirstFault Gives Takes sections) (Err stop) → IsResult Good (λ fault. IsFirstFault Gives Takes sections fault × IsLocated positions file fault) (Err (located_stop positions file stop))
located_answers Good Gives Takes sections positions file WrongUse h = h
located_answers Good Gives Takes sections positions file CannotRead h = h
located_answers Good Gives Takes sections positions file CannotWrite h = h
located_answers Good Gives Takes sections positions file CannotTell h = h
located_answers Good Gives Takes sections positions file NoMemory h = tt
located_answers Good Gives Takes sections positions file (File fault) h =
    (record { before = h.before; section = h.section; behind = h.behind; given = h.given; cut = h.cut; good = h.good; line = h.line; kind = h.kind }, refl)
located_answers Good Gives Takes sections positions file TooManyCalls h = h
located_answers Good Gives Takes sections positions file HistoryFull h = h
located_answers Good Gives Takes sections positions file Foreign h = h
located_answers Good Gives Takes sections positions file Audit h = h
