use Rattle.std.proofs.Common.{◌-◌, length, refl, sym}
use Rattle.std.proofs.lemmas.Bool.{lt-ltb}
use Rattle.bc_text.specs.Reading.{declaration}
use Rattle.bc_text.proofs.declarations.declaration.Goals as goal

pub returns-then-sees : goal.returns-then-sees
unfolding declaration
returns-then-sees c =
    let few = lt-ltb c.args.structs 64 c.if-structs-ge64.false in
    record { reads = rw (sym (c.if-sees.ensures {u = tt}).value, sym c.requires.structs, few, (c.in_ok-expect.ensures {u = tt}).reads, c.in_ok-struct_declaration.ensures {u = tt}) refl }

pub returns : goal.returns
unfolding declaration
returns c =
    let few = lt-ltb (length c.args.found.now - c.args.structs) 64 c.if-found-structs-ge64.false in
    record { reads = rw (sym (c.if-sees.ensures {u = tt}).value, sym c.requires.structs, few, (c.in_ok-expect-2.ensures {u = tt}).reads, c.in_ok-extern_declaration.ensures {u = tt}) refl }
