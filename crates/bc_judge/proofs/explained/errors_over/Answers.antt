use Rattle.bc_judge.proofs.explained.errors_over.Goals as goal

pub explained-requires : goal.explained-requires
explained-requires c = record {
  conflicts = rw (c.deref.ensures.value, c.in_ok-conflicts.ensures) c.requires.conflicts;
  failures = rw (c.deref-2.ensures.value, c.in_ok-lifetimes.ensures) c.requires.failures;
}

pub returns : goal.returns
returns c = rw (c.deref.ensures.value, c.in_ok-conflicts.ensures, c.deref-2.ensures.value, c.in_ok-lifetimes.ensures) at c.explained.ensures
