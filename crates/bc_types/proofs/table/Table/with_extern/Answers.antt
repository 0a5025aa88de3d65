use Rattle.bc_types.proofs.Growing.{with-extern}
use Rattle.bc_types.proofs.table.Table.with_extern.Goals as goal

pub invariant_of-result : goal.invariant_of-result
invariant_of-result c =
    let here = c.self.inside in
    with-extern (λ key. key.items) here.declarations c.push_extern.new.declarations c.args.declaration.now here.structs here.externs c.add_extern.new.externs c.as_slice.result.now c.len-position.result c.len-position.ensures c.as_slice.ensures c.in_ok-add_extern.ensures c.in_ok-push_extern.ensures c.self.invariant
