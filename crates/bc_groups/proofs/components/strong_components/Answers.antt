use Rattle.std.proofs.Common.{length, ap, ◌∙◌, arith}
use Rattle.bc_groups.proofs.Grouped.{together}
use Rattle.bc_groups.proofs.components.strong_components.Goals as goal

pub numbered-requires-clause-labels : goal.numbered-requires-clause-labels
numbered-requires-clause-labels c = rw c.deref-2.ensures.value (λ k d h. omega (arith, c.in_ok-labels.ensures.within k d h, c.in_ok-labels.ensures.count))

pub numbered-requires-clause-all : goal.numbered-requires-clause-all
numbered-requires-clause-all c = rw (c.deref-3.ensures.value, c.deref-2.ensures.value, c.in_ok-labels.ensures.count) c.in_ok-order.ensures.all

pub returns : goal.returns
returns c =
    let same = rw (c.deref-2.ensures.value, c.in_ok-labels.ensures.count) at c.in_ok-found.ensures.same in
    record {
      count = c.in_ok-found.ensures.count ∙ (ap length c.deref-2.ensures.value ∙ c.in_ok-labels.ensures.count);
      within = c.in_ok-found.ensures.within;
      together = together c.args.edges.now c.args.nodes c.in_ok-labels.labels.items c.in_ok-found.found.group_of.items c.in_ok-labels.ensures.paired same;
    }
