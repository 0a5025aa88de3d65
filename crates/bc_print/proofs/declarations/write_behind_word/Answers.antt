use Rattle.std.proofs.lemmas.Bool.{and_parts, eqb-true}
use Rattle.bc_print.proofs.declarations.write_behind_word.Goals as goal

pub write_struct_rest-requires : goal.write_struct_rest-requires
write_struct_rest-requires g c =
    eqb-true _ _ (and_parts _ _ (and_parts _ _ (and_parts _ _ (rw c.in-Struct.is at c.requires)).0).0).1
