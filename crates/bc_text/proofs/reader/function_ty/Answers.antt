use Rattle.std.proofs.Common.{refl}
use Rattle.bc_text.specs.Reading.{function_ty}
use Rattle.bc_text.proofs.reader.function_ty.Goals as goal

pub returns-clause-reads : goal.returns-clause-reads
unfolding function_ty
returns-clause-reads c =
    let parameters = rw c.as_slice-names.ensures at (c.in_ok-parameters.ensures {u = tt}).reads in
    let result = rw c.as_slice-names.ensures at (c.in_ok-result.ensures {u = tt}) in
    rw (parameters, (c.in_ok-expect.ensures {u = tt}).reads, result) refl
