use Rattle.std.proofs.Common.{reverse, ap, ◌∙◌}
use Rattle.std.specs.Prelude.{option_and_then}
use Rattle.bc_breaches.proofs.Looking.{struct_in, found_struct}
use Rattle.bc_breaches.proofs.lookup.struct_among.Goals as goal

pub returns-in-Some-Struct : goal.returns-in-Some-Struct
returns-in-Some-Struct c =
    ap (option_and_then struct_in) (rw (c.in-Some-Struct.is, c.in-Some-Struct.field-0-is) at c.last_struct.ensures) ∙ found_struct (reverse c.args.earlier.now) c.args.name.now

pub returns-in-Some-Extern : goal.returns-in-Some-Extern
returns-in-Some-Extern c =
    ap (option_and_then struct_in) (rw (c.in-Some-Extern.is, c.in-Some-Extern.field-0-is) at c.last_struct.ensures) ∙ found_struct (reverse c.args.earlier.now) c.args.name.now

pub returns-in-None : goal.returns-in-None
returns-in-None c = ap (option_and_then struct_in) (rw c.in-None.is at c.last_struct.ensures) ∙ found_struct (reverse c.args.earlier.now) c.args.name.now
