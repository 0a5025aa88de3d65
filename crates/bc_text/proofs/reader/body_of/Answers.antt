use Rattle.std.proofs.Common.{arith}
use Rattle.std.proofs.lemmas.List.{length-append}
use Rattle.bc_text.proofs.reader.body_of.Goals as goal

pub overflow_cast-first : goal.overflow_cast-first
overflow_cast-first c =
    omega (arith, c.first_let-first.ensures, length-append c.args.header.captures c.args.header.signature.parameters, c.requires.few)

pub overflow_add-locals : goal.overflow_add-locals
overflow_add-locals c =
    omega (arith, c.first_let-first.ensures, length-append c.args.header.captures c.args.header.signature.parameters, c.requires.few, c.len.ensures, (c.in_ok-lets.ensures {u = tt}).few)

pub lets-requires-clause-first : goal.lets-requires-clause-first
lets-requires-clause-first c =
    omega (arith, c.first_let-first.ensures, length-append c.args.header.captures c.args.header.signature.parameters, c.requires.few)
