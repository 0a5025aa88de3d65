-- A printed file: the header line of each section, and its text in its one spelling.
use Rattle.std.specs.Prelude.{ℕ, List, [], ◌∷◌, ◌++◌, codes}
use Rattle.bc_syntax.specs.Spelling.{unit, types}
use Rattle.bc_print.specs.Printing.{printed}
use Rattle.bc_calls.specs.declared.call.Call.{Call}
use Rattle.bc_calls.specs.declared.call.Call.TheVariants as calls
use Rattle.cli_file.specs.Parts.{Part}

-- what a call stores, in its one spelling; no section of `print` makes another call
abbrev pub text_of : Call → List ℕ
text_of (calls.Types ds) = printed (types ds)
text_of (calls.Put name u) = printed (unit u)
text_of (calls.Remove name) = []
text_of (calls.Ask name) = []
text_of calls.All = []

-- a printed section, with this header line and this call
abbrev pub section_text : List ℕ → Call → List ℕ
section_text header call = header ++ codes "\n" ++ text_of call

-- printed sections that make these calls, one after another
abbrev pub file_text : List Part → List Call → List ℕ
file_text [] calls = []
file_text (section ∷ sections) [] = []
file_text (section ∷ sections) (call ∷ calls) = section_text section.header call ++ file_text sections calls
