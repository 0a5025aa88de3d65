use Rattle.std.proofs.Common.{reverse, ap, ◌∙◌}
use Rattle.bc_types.specs.Known.{known_extern}
use Rattle.bc_types.proofs.table.Table.known_extern.Goals as goal

pub returns : goal.returns
returns c =
    c.find_extern.ensures
    ∙ c.self.invariant.known_externs c.as_slice.result.now
    ∙ ap (known_extern (reverse c.self.inside.declarations)) c.as_slice.ensures
    ∙ ap (λ ds. known_extern (reverse ds) c.args.name.now.bytes) c.self.view_is
