use Rattle.std.proofs.lemmas.Bool.{and_parts}
use Rattle.bc_print.proofs.Printings.{writes_first}
use Rattle.bc_print.proofs.declarations.write_all_declarations.Goals as goal

pub returns-in_ok-write_declarations : goal.returns-in_ok-write_declarations
returns-in_ok-write_declarations g c =
    writes_first _ _ _ _ c.in-Some.first.now c.in-Some.others.now c.args.declarations.now c.in-Some.ensures.cases.0 (rw (c.text.ensures, c.first_word.ensures) at c.in_ok-write_bytes.ensures)
    c.in_ok-write_behind_word.ensures c.in_ok-write_declarations.ensures

pub write_behind_word-requires : goal.write_behind_word-requires
write_behind_word-requires g c = (and_parts _ _ (rw c.in-Some.ensures.cases.0 at c.requires)).0

pub write_declarations-requires : goal.write_declarations-requires
write_declarations-requires g c = (and_parts _ _ (rw c.in-Some.ensures.cases.0 at c.requires)).1
