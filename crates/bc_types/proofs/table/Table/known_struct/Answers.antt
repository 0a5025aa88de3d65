use Rattle.std.proofs.Common.{reverse, ap, ◌∙◌}
use Rattle.bc_types.specs.Known.{known_struct}
use Rattle.bc_types.proofs.table.Table.known_struct.Goals as goal

pub returns : goal.returns
returns c =
    c.find_struct.ensures
    ∙ c.self.invariant.known_structs c.as_slice.result.now
    ∙ ap (known_struct (reverse c.self.inside.declarations)) c.as_slice.ensures
    ∙ ap (λ ds. known_struct (reverse ds) c.args.name.now.bytes) c.self.view_is
