-- The words of replies and of refusals.
use Rattle.std.specs.Prelude.{ℕ, List, codes}
use Rattle.bc_book.specs.declared.ledger.Refusal.{Refusal}
use Rattle.bc_book.specs.declared.ledger.Refusal.TheVariants.{NoMemory, HistoryFull}
use Rattle.bc_calls.specs.declared.call.PutReply.{PutReply}
use Rattle.bc_calls.specs.declared.call.PutReply.TheVariants.{Added, Replaced, Full, WrongKind}
use Rattle.bc_calls.specs.declared.call.RemoveReply.{RemoveReply}
use Rattle.bc_calls.specs.declared.call.RemoveReply.TheVariants.{Removed, Absent}

-- the word of the reply to a put
abbrev pub put_word : PutReply → List ℕ
put_word Added = codes "added"
put_word Replaced = codes "replaced"
put_word Full = codes "full"
put_word WrongKind = codes "wrongkind"

-- the word of the reply to a removal
abbrev pub remove_word : RemoveReply → List ℕ
remove_word Removed = codes "removed"
remove_word Absent = codes "absent"

-- the words for why a call was refused
abbrev pub refusal_words : Refusal → List ℕ
refusal_words NoMemory = codes "no memory"
refusal_words HistoryFull = codes "history full"
