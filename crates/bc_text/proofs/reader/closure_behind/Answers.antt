use Rattle.std.proofs.Common.{refl}
use Rattle.bc_text.specs.Reading.{closure_behind}
use Rattle.bc_text.proofs.reader.closure_behind.Goals as goal

pub returns-clause-reads : goal.returns-clause-reads
unfolding closure_behind
returns-clause-reads c =
    let clauses = rw c.as_slice.ensures at (c.in_ok-clauses.ensures {u = tt}) in
    let captures = rw c.as_slice-2.ensures at (c.in_ok-captures.ensures {u = tt}).reads in
    rw (clauses, captures, (c.in_ok-signature.ensures {u = tt}).reads) refl
