use Rattle.std.proofs.Common.{Some, None, ap, ◌∙◌}
use Rattle.bc_types.specs.Known.{struct_at}
use Rattle.bc_types.proofs.Known.{found-struct}
use Rattle.bc_types.proofs.table.Table.struct_of.Goals as goal

pub returns-in-Some : goal.returns-in-Some
returns-in-Some c =
    c.struct_at.ensures
    ∙ ap (λ ds. struct_at ds c.in-Some.known.now.position) (c.as_slice.ensures ∙ c.self.view_is)
    ∙ found-struct c.args.self.now c.args.name.now (Some c.in-Some.known.now) c.in-Some.ensures

pub returns-in-None : goal.returns-in-None
returns-in-None c = found-struct c.args.self.now c.args.name.now None c.in-None.ensures
