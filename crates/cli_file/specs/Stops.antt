-- The last line and the status of a command that stops before its end.
use Rattle.std.specs.Prelude.{ℕ, Bool, true, false, List, [], ◌++◌, map, codes}
use Rattle.cli_file.specs.declared.stop.Stop.{Stop}
use Rattle.cli_file.specs.declared.stop.Stop.TheVariants.{WrongUse, CannotRead, CannotWrite, CannotTell, NoMemory, File, TooManyCalls, HistoryFull, Foreign, Audit}
use Rattle.bc_book.specs.declared.ledger.Refusal.{Refusal}
use Rattle.bc_book.specs.declared.ledger.Refusal.TheVariants as refusals
use Rattle.bc_share.specs.declared.db.OpenFault.{OpenFault}
use Rattle.bc_share.specs.declared.db.OpenFault.TheVariants as open_faults
use Rattle.bc_share.specs.declared.db.CloseFault.{CloseFault}
use Rattle.bc_share.specs.declared.db.CloseFault.TheVariants as close_faults
use Rattle.cli_file.specs.Faults.{message}
use Rattle.cli_file.specs.OneLine.{in_one_line}
use Rattle.bc_report.specs.Text.{line}

-- the last line on standard error
abbrev pub last_line : List ℕ → Stop → List ℕ
last_line file WrongUse = line (codes "wrong use")
last_line file CannotRead = line (codes "cannot read " ++ map in_one_line file)
last_line file CannotWrite = line (codes "cannot write")
last_line file CannotTell = []
last_line file NoMemory = line (codes "no memory")
last_line file (File fault) = line (message fault)
last_line file TooManyCalls = line (codes "too many calls")
last_line file HistoryFull = line (codes "history full")
last_line file Foreign = line (codes "close: foreign")
last_line file Audit = line (codes "close: audit")

-- the exit status of a command that stops
abbrev pub stop_status : Stop → ℕ
stop_status WrongUse = 3
stop_status CannotRead = 3
stop_status CannotWrite = 3
stop_status CannotTell = 3
stop_status NoMemory = 3
stop_status (File fault) = 2
stop_status TooManyCalls = 3
stop_status HistoryFull = 3
stop_status Foreign = 3
stop_status Audit = 3

-- why a command stops at a call that is refused
abbrev pub refusal_stop : Refusal → Stop
refusal_stop refusals.NoMemory = NoMemory
refusal_stop refusals.HistoryFull = HistoryFull

-- why a command stops if the database is not opened
abbrev pub open_stop : OpenFault → Stop
open_stop open_faults.Range = TooManyCalls
open_stop open_faults.NoMemory = NoMemory

-- why a command stops if the database is not closed well
abbrev pub close_stop : CloseFault → Stop
close_stop close_faults.Foreign = Foreign
close_stop (close_faults.Audit history) = Audit

-- a call was refused: out of memory, or the history is full
abbrev pub is_refused : Stop → Bool
is_refused WrongUse = false
is_refused CannotRead = false
is_refused CannotWrite = false
is_refused CannotTell = false
is_refused NoMemory = true
is_refused (File fault) = false
is_refused TooManyCalls = false
is_refused HistoryFull = true
is_refused Foreign = false
is_refused Audit = false

-- the command stopped at a call, or at the opening or closing of the database, which is closed with its own session
abbrev pub is_of_calls : Stop → Bool
is_of_calls WrongUse = false
is_of_calls CannotRead = false
is_of_calls CannotWrite = true
is_of_calls CannotTell = true
is_of_calls NoMemory = true
is_of_calls (File fault) = false
is_of_calls TooManyCalls = true
is_of_calls HistoryFull = true
is_of_calls Foreign = false
is_of_calls Audit = true
