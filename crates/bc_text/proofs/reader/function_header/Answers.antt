use Rattle.std.proofs.Common.{refl}
use Rattle.bc_text.specs.Reading.{function_header}
use Rattle.bc_text.proofs.reader.function_header.Goals as goal

pub returns-clause-reads : goal.returns-clause-reads
unfolding function_header
returns-clause-reads c =
    rw ((c.in_ok-signature.ensures {u = tt}).reads, c.new.ensures) refl
