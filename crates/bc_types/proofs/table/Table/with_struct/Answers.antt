use Rattle.std.proofs.Common.{◌≡◌, reverse, refl, ◌∙◌}
use Rattle.bc_types.specs.Known.{known_behind}
use Rattle.bc_types.proofs.Growing.{with-struct}
use Rattle.bc_types.proofs.table.Table.with_struct.Goals as goal

pub invariant_of-result : goal.invariant_of-result
invariant_of-result c =
    let here = c.self.inside in
    let known : c.in_ok-known.known ≡ known_behind (reverse here.declarations) c.args.declaration.now = c.in_ok-known.ensures ∙ rw (← c.self.view_is) refl in
    with-struct (λ key. key.items) here.declarations c.push_struct.new.declarations c.args.declaration.now here.structs c.add_struct.new.structs here.externs c.as_slice.result.now c.in_ok-known.known known c.as_slice.ensures c.in_ok-add_struct.ensures c.in_ok-push_struct.ensures c.self.invariant
