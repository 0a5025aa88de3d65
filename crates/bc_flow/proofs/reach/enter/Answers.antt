use Rattle.std.proofs.Common.{◌<◌, length, sym, ◌∙◌}
use Rattle.std.proofs.lemmas.List.Elements.{All-push}
use Rattle.bc_flow.specs.BitSet.{has}
use Rattle.bc_flow.proofs.Rows.{others_kept, sizes_kept}
use Rattle.bc_flow.proofs.Spreads.{Spreads-entered}
use Rattle.bc_flow.proofs.reach.enter.Goals as goal

pub returns-in_ok-push : goal.returns-in_ok-push
returns-in_ok-push c =
    let insert = c.insert-added.ensures in
    let pushed = c.in_ok-push.ensures.items in
    let rows = c.args.rows.now in
    record {
      nodes = insert.rows;
      rows = sizes_kept _ rows c.insert-added.new.self c.args.edge.to insert.rows (others_kept rows c.insert-added.new.self c.args.edge.to insert.others) insert.size c.requires.rows;
      pending = rw pushed (All-push (λ n. n < length rows) c.args.pending.now.items c.args.edge.to c.requires.pending c.requires.to);
      spreads = Spreads-entered c.args.edge.from c.args.edge.to c.args.fact (has c.args.allowed.now) rows c.insert-added.new.self _ _ c.requires.to c.requires.fact
          (sym c.has.ensures ∙ c.if-has.true) (sym c.holds.ensures ∙ c.if-not-holds.true) insert.others insert.set pushed;
    }
