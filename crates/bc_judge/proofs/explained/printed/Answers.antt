use Rattle.std.proofs.Common.{refl}
use Rattle.std.proofs.lemmas.Option.{slice_get_read, slice_get_past}
use Rattle.bc_judge.proofs.explained.printed.Goals as goal

pub returns-in-Some : goal.returns-in-Some
returns-in-Some c = let found = c.in-Some.ensures.lookup in rw (slice_get_read c.args.steps.now _ c.args.point c.in-Some.step.now refl found.3.0 found.1) refl

pub returns-in-None : goal.returns-in-None
returns-in-None c = rw (slice_get_past c.args.steps.now c.args.point c.in-None.ensures.lookup.3) refl
