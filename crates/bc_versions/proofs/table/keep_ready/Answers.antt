use Rattle.std.proofs.Common.{◌≡◌, ◌∙◌, ◌∷◌, ◌++◌, [], length, reverse, ap, sym, arith, rules}
use Rattle.std.specs.BTreeMap.{insert_entry}
use Rattle.std.proofs.lemmas.List.{length-append, reverse-append}
use Rattle.bc_names.specs.Names.{name_order}
use Rattle.bc_memo.specs.Places.{PieceRows, pieces_with}
use Rattle.bc_memo.proofs.Places.{length-put_le}
use Rattle.bc_versions.proofs.table.keep_ready.Goals as goal

pub loop-row-preserved : goal.loop-row-preserved
loop-row-preserved c =
    let before = c.loop-row.invariant in
    let row = c.in-Some.row in
    let rest : PieceRows = c.pop.new.self.items in
    let kept : PieceRows = c.loop-row.pieces.rows in
    let step : c.loop-row.ready.items ≡ rest ++ row ∷ [] = c.in-Some.ensures.items in
    let one : c.keep.new.self.rows ≡ insert_entry name_order kept row.0 row.1 = search rules in
    let long = ap length step ∙ length-append rest (row ∷ []) in
    let most = length-put_le kept row.0 row.1 in
    let now = ap length one in
    record {
      room = omega (arith, long, most, now, before.room, c.keep.ensures.memory);
      rows =
          ap (λ (rows : PieceRows). pieces_with (reverse rest) rows) one
          ∙ sym (ap (λ (more : PieceRows). pieces_with more kept) (ap reverse step ∙ reverse-append rest (row ∷ [])))
          ∙ before.rows;
      memory = omega (arith, before.memory, c.keep.ensures.memory);
      capacity = c.pop.ensures.capacity ∙ before.capacity;
    }
