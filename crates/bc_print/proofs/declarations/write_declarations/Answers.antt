use Rattle.std.proofs.Common.{ap, ◌∙◌}
use Rattle.std.proofs.lemmas.List.Sums.{AllPass-from_list_all}
use Rattle.bc_syntax.specs.Fits.{declaration_fits}
use Rattle.bc_syntax.specs.Spelling as spell
use Rattle.bc_print.proofs.Printings.{taken_whole, writes_declaration, writes_one_more}
use Rattle.bc_print.proofs.declarations.write_declarations.Goals as goal

pub loop-declaration-preserved : goal.loop-declaration-preserved
loop-declaration-preserved g c =
    let x = c.declaration-item.result in
    writes_one_more spell.declaration _ _ _ c.args.declarations.now c.loop-declaration.declaration-index x x c.loop-declaration-test.true c.declaration-item.is c.loop-declaration.invariant
    (writes_declaration _ _ _ x (rw c.first_word.ensures at c.in_ok-write_symbol.ensures) c.in_ok-write_behind_word.ensures)

pub write_behind_word-requires : goal.write_behind_word-requires
write_behind_word-requires g c =
    let x = c.declaration-item.result in
    ap declaration_fits c.declaration-item.is ∙ AllPass-from_list_all declaration_fits c.args.declarations.now c.requires c.loop-declaration.declaration-index x c.loop-declaration-test.true

pub returns : goal.returns
returns g c = rw (taken_whole _ _ c.loop-declaration-test.false) at c.loop-declaration.invariant
