use Rattle.std.proofs.Common.{◌≡◌, ◌-◌, List, length, vec_capacity, ap, sym, subst, arith}
use Rattle.bc_names.specs.Names.{NameParts}
use Rattle.bc_memo.specs.declared.memo.Remembered.{Remembered}
use Rattle.bc_memo.specs.Places.{AreOrdered}
use Rattle.bc_memo.specs.Memos.{MemoView}
use Rattle.bc_memo.proofs.Places.{length-put_le, ordered-put}
use Rattle.bc_memo.proofs.memo.Memo.put.Goals as goal

pub invariant_of-self : goal.invariant_of-self
invariant_of-self c = subst (λ (l : List (NameParts × Remembered)). AreOrdered l) (sym c.put.ensures.rows) (ordered-put c.args.name c.args.row c.self.inside.rows.items c.self.invariant)

pub returns-clause-room : goal.returns-clause-room
returns-clause-room c =
    let rows = c.self.inside.rows in
    let more = length-put_le rows.items c.args.name c.args.row in
    let now = ap length c.put.ensures.rows in
    let was : vec_capacity rows - rows.len ≡ c.args.self.now.room = ap (λ (m : MemoView). m.room) c.self.view_is in
    omega (arith, more, now, was, c.put.ensures.memory, rows.ok.0, c.put.new.rows.ok.0)
