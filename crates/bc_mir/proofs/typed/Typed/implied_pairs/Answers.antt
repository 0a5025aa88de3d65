use Rattle.bc_mir.proofs.Declared.{types-declared}
use Rattle.bc_mir.proofs.typed.Typed.implied_pairs.Goals as goal

pub returns-clause-declared : goal.returns-clause-declared
returns-clause-declared c =
    rw (c.in_ok-push_pairs_of_types.ensures, c.new-pairs.ensures.items)
    (types-declared c.args.self.now.universals c.inputs.ensures.typed.some_universal c.args.self.now c.inputs.result.now c.inputs.ensures.declared)
