use Rattle.std.proofs.Common.{◌++◌, ◌∙◌, Option, ap, sym}
use Rattle.std.proofs.lemmas.List.{append-nil}
use Rattle.bc_names.specs.Names.{NameParts}
use Rattle.bc_memo.specs.declared.memo.Remembered.{Remembered}
use Rattle.bc_book.specs.Ledgers.{row_list}
use Rattle.bc_book.proofs.roots.push_row.Goals as goal

pub returns-in-None : goal.returns-in-None
returns-in-None c = sym (ap (λ (r : Option (NameParts × Remembered)). c.args.rows.now.items ++ row_list r) c.in-None.is ∙ append-nil c.args.rows.now.items)
