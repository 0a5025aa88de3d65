use Rattle.std.proofs.Common.{refl}
use Rattle.bc_types.proofs.Adding.{adds}
use Rattle.bc_types.proofs.table.add_struct.Goals as goal

pub returns : goal.returns
returns c =
    adds _ (λ key. key.items) (λ a b. refl) c.args.structs.now c.insert.new.self c.in_ok-key.key c.args.known c.args.name.now c.in_ok-key.ensures c.in_ok-insert.ensures.entries
