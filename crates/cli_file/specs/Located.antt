-- The place of a fault in its file.
use Rattle.std.specs.Prelude.{◌≡◌, ℕ, Bool, List, Option, Some, None, option_map, if◌then◌else◌}
use Rattle.bc_position.specs.declared.position.Position.{Position}
use Rattle.bc_position.specs.Positions.{position_below}
use Rattle.cli_file.specs.declared.fault.FaultKind.{FaultKind}
use Rattle.cli_file.specs.declared.fault.FaultKind.TheVariants.{BadHeader, TextAfterCall, TooLong, NotAscii, Token, Grammar, Limit}
use Rattle.cli_file.specs.declared.fault.FileFault.{FileFault}
use Rattle.cli_file.specs.declared.stop.Stop.{Stop}
use Rattle.cli_file.specs.declared.stop.Stop.TheVariants.{WrongUse, CannotRead, CannotWrite, CannotTell, NoMemory, File, TooManyCalls, HistoryFull, Foreign, Audit}

-- the byte of a fault, counted from 0 in the section's text
abbrev pub byte_of : FaultKind → Option ℕ
byte_of BadHeader = None
byte_of TextAfterCall = None
byte_of TooLong = None
byte_of (NotAscii at) = Some at
byte_of (Token at) = Some at
byte_of (Grammar at) = Some at
byte_of (Limit at) = Some at

-- the place in the file of a fault's byte; the text of a section begins after its header line
abbrev pub byte_position : List ℕ → FileFault → Option Position
byte_position file fault = option_map (λ at. position_below file fault.line at) (byte_of fault.kind)

-- the place in the file of a fault's byte, if asked for
abbrev pub asked_position : Bool → List ℕ → FileFault → Option Position
asked_position positions file fault = if positions then byte_position file fault else None

-- a fault of the file has its position if asked for, and none otherwise
abbrev pub IsLocated : Bool → List ℕ → FileFault → Type 0
IsLocated positions file fault = fault.position ≡ asked_position positions file fault

-- a fault of the file, with its position if asked for
abbrev pub located : Bool → List ℕ → FileFault → FileFault
located positions file fault = record { line = fault.line; kind = fault.kind; position = asked_position positions file fault }

-- a stop, with the position of its fault of the file if asked for
abbrev pub located_stop : Bool → List ℕ → Stop → Stop
located_stop positions file WrongUse = WrongUse
located_stop positions file CannotRead = CannotRead
located_stop positions file CannotWrite = CannotWrite
located_stop positions file CannotTell = CannotTell
located_stop positions file NoMemory = NoMemory
located_stop positions file (File fault) = File (located positions file fault)
located_stop positions file TooManyCalls = TooManyCalls
located_stop positions file HistoryFull = HistoryFull
located_stop positions file Foreign = Foreign
located_stop positions file Audit = Audit
