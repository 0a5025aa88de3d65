use Rattle.std.proofs.Common.{refl}
use Rattle.bc_text.specs.Reading.{extern_declaration}
use Rattle.bc_text.proofs.declarations.extern_declaration.Goals as goal

pub returns : goal.returns
unfolding extern_declaration
returns c =
    rw (c.in_ok-name.ensures {u = tt}, (c.in_ok-signature.ensures {u = tt}).reads, (c.in_ok-expect.ensures {u = tt}).reads) refl
