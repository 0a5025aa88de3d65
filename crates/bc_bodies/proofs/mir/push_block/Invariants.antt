use Rattle.std.proofs.Common.{◌≡◌, ◌++◌, drop}
use Rattle.bc_bodies.specs.Mir.{block_steps}
use Rattle.bc_bodies.proofs.mir.push_block.Given as goal

abbrev pub invariant-loop-index : goal.invariant-loop-index
invariant-loop-index l =
    l.steps.items ++ block_steps l.number l.index (drop l.index l.statements) l.block.terminator
    ≡ l.initial.steps.items ++ block_steps l.number 0 l.statements l.block.terminator
