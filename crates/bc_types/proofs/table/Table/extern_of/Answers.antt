use Rattle.std.proofs.Common.{Some, None, sym, ap, ◌∙◌}
use Rattle.bc_types.specs.Known.{extern_at}
use Rattle.bc_types.proofs.Known.{found-extern}
use Rattle.bc_types.proofs.table.Table.extern_of.Goals as goal

pub returns-in-Some : goal.returns-in-Some
returns-in-Some c =
    c.extern_at.ensures
    ∙ ap (λ ds. extern_at ds c.in-Some.position) (c.as_slice.ensures ∙ c.self.view_is)
    ∙ found-extern c.args.self.now c.args.name.now (Some c.in-Some.position) (sym c.in-Some.is ∙ c.known_extern.ensures)

pub returns-in-None : goal.returns-in-None
returns-in-None c = found-extern c.args.self.now c.args.name.now None (sym c.in-None.is ∙ c.known_extern.ensures)
