use Rattle.std.proofs.Common.{false, length, ap, ◌∙◌, arith}
use Rattle.std.proofs.lemmas.List.{length-replicate}
use Rattle.std.proofs.lemmas.List.FromFn.{length-range_with_len}
use Rattle.bc_groups.proofs.Spreading.{leads_itself}
use Rattle.bc_groups.proofs.components.owners.Goals as goal

pub loop-left-init : goal.loop-left-init
loop-left-init c =
    let nodes = length c.args.classes.now in
    let itself = c.in_ok-every_node.ensures.ascending in
    record {
      left = omega arith;
      spread = record {
        marks = ap length (c.in_ok-vec.ensures.items_if_clones_equal (λ y h. h)) ∙ length-replicate nodes false;
        owner_count = ap length itself ∙ length-range_with_len 0 nodes;
        within = c.in_ok-every_node.ensures.within;
        led = leads_itself c.args.edges.now nodes c.in_ok-every_node.field-0.items itself;
      };
      none_open = ap length c.in_ok-with_capacity.ensures.items;
    }
