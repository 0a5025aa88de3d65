-- The laws of printed files.
use Rattle.std.specs.Prelude.{◌≡◌, ℕ, ◌≤◌, List, length}
use Rattle.std.specs.List.{All}
use Rattle.bc_calls.specs.declared.call.Call.{Call}
use Rattle.cli_file.specs.Parts.{sections_of}
use Rattle.cli_file.specs.Changes.{MakeAll}
use Rattle.cli_print.specs.Printed.{text_of, file_text}

-- the text printed from a file that makes these calls
abbrev pub printed_file : List ℕ → List Call → List ℕ
printed_file file made = file_text (sections_of file) made

-- what is printed for each call is no longer than a text may be
abbrev pub AreShort : List Call → Type 0
AreShort made = All (λ call. length (text_of call) ≤ 1048576) made

-- if its texts are not too long, a printed file makes the same calls as the file from which it was printed
abbrev pub PrintedFilesAreRead : Type 0
PrintedFilesAreRead = (file : List ℕ) (made : List Call) → MakeAll (sections_of file) made → AreShort made → MakeAll (sections_of (printed_file file made)) made

-- a printed file is printed as itself
abbrev pub PrintedFilesArePrintedAlike : Type 0
PrintedFilesArePrintedAlike = (file : List ℕ) (made : List Call) → MakeAll (sections_of file) made → printed_file (printed_file file made) made ≡ printed_file file made
