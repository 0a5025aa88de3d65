use Rattle.std.proofs.Common.{List, ◌∙◌, ap, subst}
use Rattle.std.specs.BTreeMap.{insert_entry}
use Rattle.bc_names.specs.Names.{NameParts, name_order}
use Rattle.bc_memo.specs.declared.memo.Remembered.{Remembered}
use Rattle.bc_memo.specs.Memos.{IsRowOf}
use Rattle.bc_memo.proofs.memo.Memo.install.Goals as goal

pub returns-clause-installed : goal.returns-clause-installed
returns-clause-installed c =
    let r = c.in_ok-row.row in (
      r,
      subst (λ (l : List NameParts). IsRowOf c.args.shelf.now.held l c.args.outcome r) (c.deref.ensures.value ∙ c.in_ok-used.ensures) c.in_ok-row.ensures,
      c.put.ensures.rows ∙ ap (λ (rows : List (NameParts × Remembered)). insert_entry name_order rows c.args.name r) c.in_ok-reserve.ensures.same,
    )
