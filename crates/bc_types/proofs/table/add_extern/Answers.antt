use Rattle.std.proofs.Common.{refl}
use Rattle.bc_types.proofs.Adding.{adds}
use Rattle.bc_types.proofs.table.add_extern.Goals as goal

pub returns : goal.returns
returns c =
    adds _ (λ key. key.items) (λ a b. refl) c.args.externs.now c.insert.new.self c.in_ok-key.key c.args.position c.args.name.now c.in_ok-key.ensures c.in_ok-insert.ensures.entries
