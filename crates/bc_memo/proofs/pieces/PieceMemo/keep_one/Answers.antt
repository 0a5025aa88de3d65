use Rattle.std.proofs.Common.{◌≡◌, ◌-◌, length, vec_capacity, ap, sym, subst, arith}
use Rattle.bc_memo.specs.Places.{PieceRoom, PieceRows, AreOrdered}
use Rattle.bc_memo.proofs.Places.{length-put_le, ordered-put}
use Rattle.bc_memo.proofs.pieces.PieceMemo.keep_one.Goals as goal

pub invariant_of-self : goal.invariant_of-self
invariant_of-self c = subst (λ (rows : PieceRows). AreOrdered rows) (sym c.put.ensures.rows) (ordered-put c.args.name c.args.piece c.self.inside.rows.items c.self.invariant)

pub returns-clause-room : goal.returns-clause-room
returns-clause-room c =
    let rows = c.self.inside.rows in
    let more = length-put_le rows.items c.args.name c.args.piece in
    let now = ap length c.put.ensures.rows in
    let was : vec_capacity rows - rows.len ≡ c.args.self.now.room = ap (λ (m : PieceRoom). m.room) c.self.view_is in
    omega (arith, more, now, was, c.put.ensures.memory, rows.ok.0, c.put.new.rows.ok.0)

pub returns-clause-memory : goal.returns-clause-memory
returns-clause-memory c =
    rw (← c.self.view_is) (omega (arith, c.put.new.rows.ok.0, c.put.new.rows.ok.1, c.self.inside.rows.ok.0, c.self.inside.rows.ok.1, c.put.ensures.memory))
