use Rattle.std.proofs.Common.{List, refl}
use Rattle.bc_types.proofs.Appending.{appended-all}
use Rattle.bc_bodies.specs.declared.children.Child.{Child}
use Rattle.bc_bodies.proofs.children.copy_children.Goals as goal

pub returns : goal.returns
returns c =
    appended-all (λ (kids : List Child). kids) _ _ c.args.kids.now c.loop-kid.kid-index c.loop-kid-test.false refl c.loop-kid.invariant
