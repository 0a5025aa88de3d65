-- The texts of faults of a file.
use Rattle.std.specs.Prelude.{ℕ, List, [], ◌++◌, Option, Some, None, decimal, codes}
use Rattle.bc_position.specs.declared.position.Position.{Position}
use Rattle.cli_file.specs.declared.fault.FaultKind.{FaultKind}
use Rattle.cli_file.specs.declared.fault.FaultKind.TheVariants.{BadHeader, TextAfterCall, TooLong, NotAscii, Token, Grammar, Limit}
use Rattle.cli_file.specs.declared.fault.FileFault.{FileFault}

-- the text of what is wrong with a section
abbrev pub kind_text : FaultKind → List ℕ
kind_text BadHeader = codes "bad header"
kind_text TextAfterCall = codes "text after call"
kind_text TooLong = codes "too long"
kind_text (NotAscii at) = codes "not ascii at " ++ decimal at
kind_text (Token at) = codes "token at " ++ decimal at
kind_text (Grammar at) = codes "grammar at " ++ decimal at
kind_text (Limit at) = codes "limit at " ++ decimal at

-- the place of a fault's byte in the file, if it is known
abbrev pub position_text : Option Position → List ℕ
position_text None = []
position_text (Some position) = codes " (line " ++ decimal position.line ++ codes ", column " ++ decimal position.column ++ codes ")"

-- the line of a fault, without its line feed
abbrev pub message : FileFault → List ℕ
message fault = codes "line " ++ decimal fault.line ++ codes ": " ++ kind_text fault.kind ++ position_text fault.position
