use Rattle.std.proofs.Common.{ℕ, get_or, ◌∙◌}
use Rattle.bc_flow.proofs.Rows.{sizes_kept}
use Rattle.bc_groups.proofs.Grouped.{gathered_more}
use Rattle.bc_groups.proofs.groups.gathered.Goals as goal

pub loop-node-preserved : goal.loop-node-preserved
loop-node-preserved c =
    let old = c.loop-node.invariant in
    let own : ℕ = get_or c.args.group_of.now c.loop-node.node 0 in
    let new = c.union_row.new.self in
    record {
      groups = c.union_row.ensures.rows ∙ old.groups;
      facts = sizes_kept c.args.facts c.loop-node.gathered new own c.union_row.ensures.rows c.union_row.ensures.others c.union_row.ensures.size old.facts;
      gathered = gathered_more c.args.rows.now c.loop-node.gathered new c.args.group_of.now c.loop-node.node c.union_row.ensures.others (rw c.row.ensures at c.union_row.ensures.members) old.gathered;
    }
