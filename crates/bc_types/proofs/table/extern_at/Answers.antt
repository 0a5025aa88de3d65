use Rattle.std.proofs.Common.{Some, refl, sym, ap, ◌∙◌}
use Rattle.std.specs.Prelude.{option_and_then}
use Rattle.std.specs.Option.{option_copied}
use Rattle.std.proofs.lemmas.Option.{slice_get_read, slice_get_past}
use Rattle.bc_syntax.specs.declared.syntax.Declaration.{Declaration}
use Rattle.bc_types.specs.Known.{as_extern}
use Rattle.bc_types.proofs.table.extern_at.Goals as goal

pub returns-in-Extern : goal.returns-in-Extern
returns-in-Extern c =
    let found = c.in_ok-declaration.ensures.lookup in
    let there = slice_get_read c.args.declarations.now _ c.args.position c.in_ok-declaration.field-0.now refl found.3.0 found.1 in
    sym (ap (option_and_then as_extern) (there ∙ ap (λ (d : Declaration). Some d) c.in-Extern.is))

pub returns-in-Struct : goal.returns-in-Struct
returns-in-Struct c =
    let found = c.in_ok-declaration.ensures.lookup in
    let there = slice_get_read c.args.declarations.now _ c.args.position c.in_ok-declaration.field-0.now refl found.3.0 found.1 in
    sym (ap (option_and_then as_extern) (there ∙ ap (λ (d : Declaration). Some d) c.in-Struct.is))

pub returns-in_err-declaration : goal.returns-in_err-declaration
returns-in_err-declaration c =
    ap option_copied c.from_residual.ensures
    ∙ sym (ap (option_and_then as_extern) (slice_get_past c.args.declarations.now c.args.position c.in_err-declaration.ensures.lookup.3))
