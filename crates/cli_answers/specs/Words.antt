-- The words of faults.
use Rattle.std.specs.Prelude.{ℕ, List, codes}
use Rattle.cli_requests.specs.declared.fault.TextFaultKind.{TextFaultKind}
use Rattle.cli_requests.specs.declared.fault.TextFaultKind.TheVariants.{NotAscii, Token, Grammar, Limit}

-- the words for what is wrong with a text
abbrev pub kind_word : TextFaultKind → List ℕ
kind_word NotAscii = codes "not ascii"
kind_word Token = codes "token"
kind_word Grammar = codes "grammar"
kind_word Limit = codes "limit"
