-- The line of a command that stops.
use Rattle.std.specs.Prelude.{ℕ, List, ◌∷◌, [], ◌++◌, codes, Result, Ok, Err}
use Rattle.cli_talk.specs.declared.fault.TalkFault.{TalkFault}
use Rattle.cli_talk.specs.declared.fault.TalkFault.TheVariants as faults
use Rattle.cli_serve.specs.declared.stop.ServeStop.{ServeStop}
use Rattle.cli_serve.specs.declared.stop.ServeStop.TheVariants.{CannotRead, CannotWrite, NoMemory, NoThread, LostLine, Audit}

-- why the command stops if a conversation does
abbrev pub stop_of : TalkFault → ServeStop
stop_of faults.CannotRead = CannotRead
stop_of faults.CannotWrite = CannotWrite
stop_of faults.NoMemory = NoMemory
stop_of faults.OutOfTurn = LostLine

-- how two parts of a conversation ended: well if both did, otherwise like the first that did not; a lost line counts only if nothing else
-- was wrong
abbrev pub both : Result Unit ServeStop → Result Unit ServeStop → Result Unit ServeStop
both (Ok well) now = now
both (Err CannotRead) now = Err CannotRead
both (Err CannotWrite) now = Err CannotWrite
both (Err NoMemory) now = Err NoMemory
both (Err NoThread) now = Err NoThread
both (Err LostLine) (Ok well) = Err LostLine
both (Err LostLine) (Err stop) = Err stop
both (Err Audit) now = Err Audit

-- the words for a stop
abbrev pub stop_text : ServeStop → List ℕ
stop_text CannotRead = codes "cannot read"
stop_text CannotWrite = codes "cannot write"
stop_text NoMemory = codes "no memory"
stop_text NoThread = codes "cannot start a thread"
stop_text LostLine = codes "a line was lost"
stop_text Audit = codes "close: audit"

-- the line of a stop on standard error
abbrev pub stop_line : ServeStop → List ℕ
stop_line stop = stop_text stop ++ 10 ∷ []
