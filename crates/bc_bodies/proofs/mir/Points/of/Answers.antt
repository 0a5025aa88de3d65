use Rattle.bc_bodies.proofs.mir.Points.of.Goals as goal

pub returns : goal.returns
returns c =
    let listed = c.in_ok-push_blocks.ensures in
    record {
      steps = rw c.in_ok-steps.ensures.items at listed.steps;
      entries = rw (c.in_ok-steps.ensures.items, c.in_ok-entries.ensures.items) at listed.entries;
    }
