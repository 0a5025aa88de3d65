use Rattle.std.proofs.Common.{refl}
use Rattle.bc_text.specs.Reading.{braced}
use Rattle.bc_text.proofs.blocks.braced.Goals as goal

pub returns-clause-reads : goal.returns-clause-reads
unfolding braced
returns-clause-reads c =
    rw ((c.in_ok-expect.ensures {u = tt}).reads, (c.in_ok-block.ensures {u = tt}).reads, (c.in_ok-expect-2.ensures {u = tt}).reads, (c.in_ok-expect-3.ensures {u = tt}).reads) refl
